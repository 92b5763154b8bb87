pub mod Ended
pub mod Sharing
pub mod Kept
pub mod Made
pub mod Shares
