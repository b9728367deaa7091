mod BlocksAreBytes
mod BlocksOfBytes
mod ZonesInMemory
mod ImageFields
mod KeptLimits
mod ReplacedZones
mod SoundImages
mod Shapes
pub mod Proved
