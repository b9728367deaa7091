pub mod Base
pub mod Loaded
pub mod Needed
