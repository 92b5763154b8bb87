pub mod Countings
pub mod Skips
pub mod Unnamed
