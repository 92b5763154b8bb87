pub mod Closed
pub mod Order
pub mod Standings
pub mod Owns
