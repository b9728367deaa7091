pub mod Counts
pub mod Holds
pub mod Admission
pub mod Numbers
