pub mod Tables
pub mod Additions
