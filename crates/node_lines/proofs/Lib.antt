pub mod Many
pub mod Json
pub mod Two
pub mod Words
