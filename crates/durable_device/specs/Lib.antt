pub mod FrameEvents
pub mod Changing
pub mod Machine
pub mod Again
pub mod Kept
pub mod Laws
pub mod Spelled
