-- What private functions hand on to each other; no public contract speaks of it.
pub mod Commands
pub mod Connection
pub mod Parts
pub mod Transfers
