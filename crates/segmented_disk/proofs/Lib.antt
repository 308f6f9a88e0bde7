pub mod Cells
pub mod Owners
pub mod Segments
