pub mod SectionLemmas
pub mod Labels
pub mod Fronts
pub mod Needing
pub mod Proved
