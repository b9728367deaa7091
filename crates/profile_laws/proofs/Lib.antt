mod Acceptance
mod AddressesTell
mod NearFacts
mod PointersNear
mod Telling
mod WordsNear
