pub mod Reported
pub mod Shares
pub mod Members
