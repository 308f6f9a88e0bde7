pub mod Names
pub mod Weights
pub mod Shares
pub mod PinsAreValid
pub mod Spans
pub mod Changes
pub mod Runs
