pub mod Keeping
pub mod Storing
pub mod Good
pub mod Noting
pub mod Laws
