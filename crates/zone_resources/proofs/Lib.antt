mod AdmissionLemmas
mod CountLemmas
mod HoldLemmas
mod LimitLemmas
mod NamedZones
pub mod Proved
