pub mod Rule
pub mod Plays
pub mod Calls
pub mod Steps
pub mod Laws
pub mod Looks
