pub mod Messages
pub mod OutsideSource
pub mod OutsideSink
