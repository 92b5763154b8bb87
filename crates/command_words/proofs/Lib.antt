pub mod Turns
pub mod WordKinds
pub mod Parts
pub mod Loads
pub mod Numbers
