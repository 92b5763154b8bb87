pub mod Seen
pub mod Pages
pub mod Owed
pub mod Whole
