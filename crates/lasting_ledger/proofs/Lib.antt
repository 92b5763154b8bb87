pub mod Values
pub mod Messages
pub mod Endings
pub mod Words
pub mod Files
pub mod Results
