pub mod Counter
pub mod Seats
