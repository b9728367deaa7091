mod Numbers
mod FactSound
mod RangeSound
mod PointerSound
mod ArithmeticSound
mod EdgeSound
mod FactsGiven
mod IntervalsSound
mod ConstantsSound
pub mod Proved
