mod Beginnings
pub mod Proved
mod Sizes
