pub mod Changes
pub mod Moments
pub mod Opened
pub mod Renewing
mod Unsynced
