pub mod Apart
pub mod Heads
