pub mod Entries
pub mod Rule
pub mod Steps
pub mod Calls
pub mod Laws
