pub mod Failures
pub mod Landings
pub mod Merging
pub mod Standing
