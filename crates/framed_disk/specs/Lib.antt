pub mod Deeds
pub mod Invariants
pub mod Survivors
pub mod Views
