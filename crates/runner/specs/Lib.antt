pub mod DeviceState
pub mod Keeping
pub mod Restored
pub mod Stored
pub mod Taken
pub mod Turns
pub mod steps
