mod Assembling
mod FactSizes
mod NoPrograms
mod Texts
mod Tracing
mod Verdicts
