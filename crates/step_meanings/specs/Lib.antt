pub mod Chains
pub mod People
pub mod Names
pub mod Meanings
pub mod Commands
