mod Index
pub mod Lists
