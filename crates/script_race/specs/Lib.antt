pub mod CommandLaws
pub mod Races
pub mod PlayLaws
pub mod Driving
pub mod Raced
