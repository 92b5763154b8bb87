pub mod Due
pub mod Values
pub mod Standing
pub mod Table
pub mod Checked
pub mod Shared
