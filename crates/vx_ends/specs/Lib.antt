pub mod Observation
pub mod Texts
pub mod Script
pub mod Acts
pub mod Playing
pub mod Scripts
pub mod Printing
pub mod Silent
