mod FirstBytes
mod NewMachines
mod Running
mod Statements
mod Stepping
pub mod Proved
