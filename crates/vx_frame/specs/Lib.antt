pub mod Frames
pub mod Framings
pub mod Pieces
