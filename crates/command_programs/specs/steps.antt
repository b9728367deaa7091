-- What private functions hand on to each other; no public contract speaks of it.
pub mod Sizes
pub mod Told
pub mod Verdict
