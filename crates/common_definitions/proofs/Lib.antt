mod AllOf
mod ByteParts
mod FirstChecks
mod FirstPassed
mod Lengths
pub mod Proved
mod Readings
mod SameFronts
mod SpelledBytes
