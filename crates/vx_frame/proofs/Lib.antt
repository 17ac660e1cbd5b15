pub mod Cuts
pub mod Tears
pub mod Whole
