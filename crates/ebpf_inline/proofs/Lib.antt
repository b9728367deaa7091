mod UnitCounts
mod Sections
mod Counts
mod Parts
mod Needs
