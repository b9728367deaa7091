pub mod Question
pub mod Asked
pub mod Tallies
pub mod Code
pub mod Fault
pub mod Laws
