-- Isolation of tenants, by unwinding: a tenant's own step is the same from equivalent catalogs (StepConsistency); another's changes nothing for it (LocalRespect).
pub mod Consistency
pub mod Hands
pub mod Histories
pub mod LocalRespect
pub mod Runs
pub mod SameFor
pub mod StepConsistency
pub mod Texts
