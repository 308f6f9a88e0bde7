pub mod Equality
pub mod LoggedStates
pub mod Reading
pub mod Sessions
