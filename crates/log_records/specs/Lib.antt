pub mod Changes
pub mod Decoding
pub mod Kinds
pub mod Laws
pub mod Records
