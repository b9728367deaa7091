mod AreaOffsets
mod CauseLemmas
mod FlatExamples
mod FlatMemory
mod Granted
mod Groups
mod MapLemmas
mod MemoryLemmas
mod Running
mod Start
mod StateLemmas
mod Statements
mod WordLemmas
pub mod Proved
