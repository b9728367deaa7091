pub mod Cells
pub mod Files
