-- What private functions hand on to each other; no public contract speaks of it.
pub mod FrameLaws
pub mod FrameParts
pub mod UnderWay
