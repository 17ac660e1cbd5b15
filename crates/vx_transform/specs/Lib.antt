pub mod Shelves
pub mod Moves
