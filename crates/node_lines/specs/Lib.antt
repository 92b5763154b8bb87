pub mod Faults
pub mod Values
pub mod Outcomes
pub mod Channels
pub mod Commands
pub mod Entries
pub mod Lines
pub mod Texts
