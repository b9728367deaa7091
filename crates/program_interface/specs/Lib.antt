pub mod BlockSize
pub mod RunSizes
pub mod Area
pub mod Context
pub mod Registers
pub mod Frame
pub mod Numbers
