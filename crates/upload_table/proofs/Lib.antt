pub mod Cuts
pub mod HandChunks
pub mod TenantRows
pub mod AllTenants
pub mod TableCalls
pub mod HandCalls
