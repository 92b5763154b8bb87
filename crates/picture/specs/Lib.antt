pub mod Drawing
pub mod Promise
