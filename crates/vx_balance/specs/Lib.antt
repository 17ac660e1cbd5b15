pub mod Live
pub mod Births
pub mod Owned
pub mod Balances
pub mod Promises
