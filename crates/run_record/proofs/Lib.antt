pub mod Fields
pub mod Lists
pub mod Lines
pub mod Plans
pub mod Whole
