mod ReadingCalls
mod ByteLists
mod Continuing
mod FramesRead
mod Layouts
mod LowestRefused
mod Needs
mod NeedsBehind
mod UnpackedFrames
mod GroupsOfBlocks
mod Puts
mod ReadBack
mod RefusedBlocks
mod Wholes
pub mod Proved
