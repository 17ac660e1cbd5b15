pub mod Copies
pub mod KeptCopies
pub mod Ledger
pub mod Routing
