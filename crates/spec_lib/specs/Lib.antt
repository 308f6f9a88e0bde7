pub mod Outcomes
pub mod Rows
pub mod Sets
pub mod Texts
pub mod Trees
