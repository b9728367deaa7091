-- What private functions hand on to each other; no public contract speaks of it.
pub mod Ended
pub mod Fitting
pub mod Pairing
pub mod Submissions
pub mod Told
pub mod Uses
pub mod Waiting
