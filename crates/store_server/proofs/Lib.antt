pub mod Guarding
pub mod Sending
pub mod Through
