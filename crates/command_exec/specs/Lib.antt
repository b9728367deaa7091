pub mod Executed
pub mod Refused
pub mod UserTold
pub mod steps
