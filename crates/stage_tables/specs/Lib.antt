pub mod Asked
pub mod Ledgers
pub mod Fitting
pub mod Exiting
pub mod Stages
pub mod Examples
