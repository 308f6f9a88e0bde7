pub mod Commits
pub mod Fetching
pub mod Ranges
pub mod Serving
