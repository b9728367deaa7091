-- What private functions hand on to each other, and what holds of a device's own fields; no public contract speaks of it.
pub mod Ready
pub mod Admitting
pub mod Answered
pub mod Loading
pub mod LoadingAgain
pub mod RunningAgain
pub mod RunsAgain
pub mod RunsKept
pub mod Turning
pub mod ActiveRuns
pub mod ServedOne
