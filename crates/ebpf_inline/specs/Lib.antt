pub mod Units
pub mod Frames
pub mod Checks
pub mod Sizes
pub mod Data
pub mod Bodies
pub mod Linked
pub mod Needs
