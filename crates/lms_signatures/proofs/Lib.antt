pub mod LaneLemmas
pub mod OneBlock
pub mod Steps
pub mod Beside
pub mod Signed
mod Examples
pub mod Trees
pub mod Chains
pub mod Filling
pub mod Climbs
pub mod Reading
pub mod Signatures
pub mod Signers
pub mod StartRuns
pub mod Lengths
