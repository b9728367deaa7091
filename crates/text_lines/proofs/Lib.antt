mod Blanks
mod Comments
mod Excerpts
mod LineLemmas
mod NumberLemmas
mod PartLemmas
mod Positions
mod Trimming
pub mod Proved
