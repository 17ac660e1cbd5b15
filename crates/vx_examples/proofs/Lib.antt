mod Plans
mod Answered
mod Findings
mod ByFindings
mod Closing
pub mod Conditions
mod Transforming
mod Chains
pub mod FilteredLegal
mod Refusals
mod Reasons
