pub mod Seated
pub mod Virtuals
pub mod Ends
pub mod Middles
pub mod Children
pub mod Guarantors
