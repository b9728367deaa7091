-- What private functions hand on to each other; no public contract speaks of it.
pub mod Places
pub mod Room
