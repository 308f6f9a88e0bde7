pub mod Names
pub mod Encoding
pub mod Views
pub mod Invariants
