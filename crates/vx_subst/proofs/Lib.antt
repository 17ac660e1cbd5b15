pub mod Drops
pub mod Steps
pub mod Texts
pub mod Unclosed
