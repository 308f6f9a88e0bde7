pub mod Layers
pub mod Refine
pub mod Sending
pub mod Slots
