pub mod Comparisons
pub mod Records
pub mod States
