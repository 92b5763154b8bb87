pub mod Files
pub mod Machines
pub mod Endings
pub mod Lines
pub mod Serving
pub mod Opening
pub mod Lives
pub mod Batches
