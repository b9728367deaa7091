mod AllowedWrites
mod Codes
mod WrittenStates
pub mod Proved
