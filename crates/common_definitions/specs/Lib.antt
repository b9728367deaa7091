pub mod Bytes
pub mod Readings
pub mod Gives
pub mod Failures
pub mod Below
pub mod Checks
pub mod FirstCheck
