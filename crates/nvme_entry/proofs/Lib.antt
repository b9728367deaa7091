mod Agreeing
mod Commands
mod Encodings
mod Descriptors
mod ListedStates
mod Listings
mod Reports
mod Spelled
mod Unused
mod CompletionFields
mod Writes
mod WrittenAgain
mod Opcodes
pub mod Proved
