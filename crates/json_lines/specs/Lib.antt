pub mod Json
