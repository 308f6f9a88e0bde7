pub mod Cells
pub mod Invariants
pub mod Owners
pub mod Survivors
pub mod Views
