pub mod Replays
pub mod Equivocates
