pub mod Fact
pub mod Range
pub mod Arithmetic
pub mod Edge
pub mod Intervals
pub mod Constants
pub mod steps
