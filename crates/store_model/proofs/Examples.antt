-- The definitions on small literals.
pub mod Commands
pub mod Digests
pub mod Durable
pub mod Hands
pub mod Histories
pub mod Isolation
pub mod Limits
pub mod Manifests
pub mod Repositories
pub mod Runs
pub mod Shares
pub mod Sweeps
pub mod Threads
