pub mod Steps
pub mod Late
pub mod Seats
pub mod Open
pub mod Children
pub mod Ends
pub mod Middles
pub mod Parts
