pub mod Ballots
pub mod Rules
pub mod Toward
pub mod Steps
pub mod Real
pub mod NoWorse
pub mod May
