pub mod Views
pub mod Standing
pub mod Few
pub mod Room
