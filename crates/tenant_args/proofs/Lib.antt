pub mod TenantLists
