pub mod Numbers
pub mod Spelling
pub mod Limits
pub mod Reading
pub mod Sums
pub mod Plans
pub mod Sound
