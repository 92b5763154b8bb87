pub mod Counts
pub mod Many
pub mod Bounds
pub mod Checked
pub mod Each
pub mod OneReading
pub mod Steps
pub mod Kept
