pub mod Documents
pub mod Layers
