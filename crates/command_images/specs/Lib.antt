pub mod Devices
pub mod Images
pub mod UserTold
pub mod Zones
pub mod steps
