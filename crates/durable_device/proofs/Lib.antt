mod Again
mod ComingAgain
mod Bytes
mod Frames
mod Kept
mod Told
mod SectionLists
