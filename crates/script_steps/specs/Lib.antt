pub mod Bounds
pub mod Conditions
pub mod Context
pub mod Digests
pub mod Digits
pub mod Index
pub mod Messages
pub mod Rules
