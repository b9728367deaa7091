-- What private functions hand on to each other; no public contract speaks of it.
pub mod Labels
pub mod LineView
pub mod Listed
pub mod ListedOperands
