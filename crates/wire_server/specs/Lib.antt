pub mod LeaseEvents
pub mod Outcomes
pub mod Queries
pub mod Requests
pub mod Connections
pub mod Guards
pub mod ReplyStreams
pub mod Steps
