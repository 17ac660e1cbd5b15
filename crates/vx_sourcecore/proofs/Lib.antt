mod Dues
pub mod Prefixing
pub mod Framed
pub mod Lining
pub mod Bridging
pub mod Following
pub mod Keeping
pub mod Counting
pub mod Stepping
pub mod LineFeeds
pub mod Making
pub mod MakingKept
