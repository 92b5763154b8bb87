mod Others
pub mod Edges
pub mod Close
pub mod Leaves
pub mod Order
pub mod Standing
pub mod Listing
pub mod Wanted
pub mod Leaving
pub mod Frozen
pub mod Answered
pub mod Whole
pub mod Example
pub mod Plans
pub mod Fair
pub mod Leaver
