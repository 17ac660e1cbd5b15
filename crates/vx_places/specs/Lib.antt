pub mod Numbers
pub mod Views
pub mod Capacities
pub mod Holding
pub mod Calls
pub mod Looks
pub mod Marks
pub mod Laws
