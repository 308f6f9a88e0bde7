pub mod Flagging
pub mod Partings
