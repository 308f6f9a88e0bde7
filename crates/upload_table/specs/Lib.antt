pub mod Uploaded
pub mod Rows
pub mod Tenants
