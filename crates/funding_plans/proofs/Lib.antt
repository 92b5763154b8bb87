pub mod Spells
pub mod Valids
pub mod Aparts
pub mod Kept
pub mod Found
pub mod Rows
