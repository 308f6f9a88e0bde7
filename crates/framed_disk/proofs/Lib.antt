pub mod Endings
pub mod Framing
pub mod Steps
pub mod Survivors
pub mod Torn
