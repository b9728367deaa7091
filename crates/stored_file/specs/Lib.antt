pub mod Calls
pub mod Cause
pub mod File
pub mod Reading
pub mod Tearing
pub mod Unsynced
