pub mod Pairs
pub mod Lines
pub mod Made
pub mod Promised
pub mod Once
