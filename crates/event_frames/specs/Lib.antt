pub mod Requests
pub mod Frames
pub mod Streams
pub mod Faults
pub mod Written
pub mod Laws
pub mod steps
