pub mod Followed
pub mod Kept
pub mod Gaining
pub mod Own
pub mod Few
pub mod Racing
pub mod Writing
