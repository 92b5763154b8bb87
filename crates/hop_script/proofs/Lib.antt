pub mod Apart
pub mod Kept
pub mod Lists
pub mod Names
