mod AddressesSound
mod Narrowing
pub mod Proved
mod WordFacts
