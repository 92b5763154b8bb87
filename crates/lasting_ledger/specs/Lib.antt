pub mod Events
pub mod Spelling
pub mod Ledgers
pub mod Runs
pub mod Statuses
