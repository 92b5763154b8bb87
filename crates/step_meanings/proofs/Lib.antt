pub mod Places
pub mod Commands
