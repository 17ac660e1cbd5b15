pub mod Given
pub mod OneCommand
pub mod Spelled
pub mod Hyphened
pub mod Fitting
pub mod Printed
pub mod Whole
pub mod FaultLines
