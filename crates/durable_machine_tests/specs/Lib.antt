pub mod Number
pub mod Kept
