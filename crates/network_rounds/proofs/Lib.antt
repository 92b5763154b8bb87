pub mod Rising
pub mod Phases
pub mod Parts
pub mod Whole
pub mod Kept
pub mod Lines
pub mod Races
pub mod Ordered
mod Works
mod Dealt
mod Steps
mod Phasing
mod Crewing
mod Readying
mod Sends
