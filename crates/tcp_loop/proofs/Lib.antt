pub mod Lists
pub mod Knowing
pub mod Keeping
pub mod Timing
pub mod Attending
pub mod Holding
pub mod Phasing
pub mod Making
pub mod Moving
pub mod Fairness
pub mod Owing
pub mod Fair
pub mod Waits
mod Progress
