pub mod Calls
pub mod Exits
pub mod Endings
pub mod ExitLaws
pub mod Example
pub mod Fair
pub mod Leaving
