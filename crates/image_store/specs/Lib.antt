pub mod Blocks
pub mod Geometry
pub mod Namespace
pub mod ImageInMemory
pub mod Laws
pub mod Numbers
pub mod steps
