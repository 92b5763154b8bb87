pub mod Paying
pub mod Telling
pub mod Lines
