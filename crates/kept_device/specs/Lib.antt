pub mod Kept
pub mod Sections
