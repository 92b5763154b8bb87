pub mod History
pub mod Caller
pub mod Turns
pub mod Turn
pub mod Desk
