pub mod Nothing
pub mod Moving
