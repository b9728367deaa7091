pub mod Damage
mod Devices
mod Listing
mod Making
