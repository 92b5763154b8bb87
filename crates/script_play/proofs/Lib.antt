pub mod Meant
pub mod Weights
pub mod Steps
pub mod Kept
pub mod FirstCaught
pub mod Walked
pub mod Played
