mod Endings
mod Keeping
mod Openings
mod Replacing
mod Rounds
mod Saved
