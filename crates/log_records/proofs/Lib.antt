pub mod Apart
pub mod Cuts
pub mod Nexts
pub mod Reading
