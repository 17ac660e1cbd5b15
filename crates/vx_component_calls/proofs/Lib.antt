pub mod KeptCounts
