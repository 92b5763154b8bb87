mod Moved
mod Signed
mod Told
pub mod Payable
pub mod Among
pub mod Tests
pub mod Shares
pub mod Accepted
pub mod Taken
pub mod Paid
