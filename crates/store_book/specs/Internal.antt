-- Definitions that no public contract cites.
pub mod Storing
pub mod Lines
pub mod SweptSlots
