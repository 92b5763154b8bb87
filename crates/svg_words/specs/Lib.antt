pub mod Escape
pub mod Fills
