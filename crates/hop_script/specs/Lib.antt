pub mod Hop
pub mod Messages
