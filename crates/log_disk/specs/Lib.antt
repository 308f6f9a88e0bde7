pub mod Deeds
pub mod Kept
pub mod Torn
