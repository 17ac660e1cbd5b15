pub mod Classes
pub mod Spends
pub mod Meets
pub mod Answers
pub mod Begun
pub mod Laws
