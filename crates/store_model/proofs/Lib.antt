pub mod Commands
pub mod Durable
pub mod Examples
pub mod Invariant
pub mod Noninterference
pub mod WholeCommands
