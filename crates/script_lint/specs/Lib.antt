pub mod Linting
pub mod Promise
