pub mod Headers
pub mod Streams
pub mod Growing
