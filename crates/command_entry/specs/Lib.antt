pub mod Identifiers
pub mod Printed
pub mod Added
pub mod Done
pub mod Zones
