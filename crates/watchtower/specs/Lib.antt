pub mod Towers
pub mod Holders
pub mod Holding
pub mod Looking
pub mod Sharing
pub mod Isolation
pub mod Laws
pub mod Replay
