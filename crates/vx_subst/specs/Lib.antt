pub mod Environment
pub mod Faults
pub mod Pieces
pub mod Replaced
pub mod Unclosed
pub mod Views
