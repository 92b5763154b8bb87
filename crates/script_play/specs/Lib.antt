pub mod Rounds
pub mod Growth
pub mod Play
pub mod Plays
