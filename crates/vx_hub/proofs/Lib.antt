mod Endings
mod Fresh
mod Gathering
mod Judging
mod Kept
mod Mergers
mod Resting
mod Served
mod Sooner
mod Tasks
pub mod Begun
pub mod Coming
pub mod Leases
pub mod Listing
pub mod Moving
pub mod Remaining
pub mod Running
pub mod Unready
pub mod Waiting
pub mod Wiring
