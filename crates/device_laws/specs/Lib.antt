pub mod Laws
pub mod Restores
pub mod Tenants
pub mod TenantsShare
pub mod Witness
