pub mod Filtered
pub mod Pickers
