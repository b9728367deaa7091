pub mod Answered
pub mod Loaded
pub mod Met
pub mod Words
