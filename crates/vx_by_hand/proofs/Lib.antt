pub mod Growing
pub mod Spared
