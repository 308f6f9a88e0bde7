-- Each change of a field keeps the catalog well-formed and the counts and uses right.
pub mod Blobs
pub mod Bounds
pub mod Chunks
pub mod Counts
pub mod DistinctUse
pub mod FullStores
pub mod Links
pub mod Manifests
pub mod Repos
pub mod SessionTenants
pub mod Sessions
pub mod Shares
pub mod TenantLimits
pub mod TenantNames
pub mod Unused
pub mod Use
