pub mod Sitting
pub mod Past
pub mod Held
pub mod Paying
pub mod Wants
pub mod Ends
pub mod Based
