-- Rows write the same text for each number of workers. A step is of the tenant of its row's repository (RowSteps), whose rows have one worker
-- (Sharing). Hence a tenant's steps and replies are those of its rows alone (AloneRows), and a repository without a tenant is unknown (Unowned).
pub mod AloneRows
pub mod Example
pub mod RowSteps
pub mod Sharing
pub mod Texts
pub mod OwnReplies
pub mod Unowned
