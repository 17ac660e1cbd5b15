pub mod Prefixes
pub mod NewLines
pub mod Turns
pub mod Sources
pub mod Abreast
pub mod Laws
pub mod Lines
pub mod Generators
