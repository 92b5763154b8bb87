pub mod Ordered
pub mod Stands
pub mod Tables
pub mod Turning
pub mod Paying
pub mod Timing
pub mod Checking
pub mod SharedSteps
