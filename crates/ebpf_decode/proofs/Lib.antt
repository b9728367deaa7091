mod Slots
mod ReadAreSpelled
mod Programs
mod Bytes
mod SpelledAreRead
mod FaultSlots
mod FirstFaults
pub mod Proved
