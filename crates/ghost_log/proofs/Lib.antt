pub mod Lists
pub mod Keeps
pub mod Allowed
pub mod Told
pub mod Runs
