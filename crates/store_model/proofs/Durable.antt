-- The changes of a history, applied to a durable state, keep its agreement with the catalog.
pub mod Agreement
pub mod Commands
pub mod Crashes
pub mod Folds
pub mod Histories
pub mod Lanes
pub mod LogReplays
pub mod OtherSettings
pub mod Pairing
pub mod Replaying
pub mod Restarts
pub mod Restored
pub mod Rewriting
pub mod Torn
pub mod Uses
pub mod WholeCommands
