-- A history as a run of whole commands: the run's catalog is the history's after every hand was checked in.
pub mod AtHome
pub mod Commands
pub mod Histories
