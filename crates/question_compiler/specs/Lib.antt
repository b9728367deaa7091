pub mod Compiled
pub mod Fault
