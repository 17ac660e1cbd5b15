pub mod Knowing
pub mod Calls
pub mod Staying
pub mod Beginning
pub mod Laws
