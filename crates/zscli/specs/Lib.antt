pub mod Ended
pub mod Makes
