pub mod Opcodes
pub mod Fault
pub mod Reading
pub mod Refusal
pub mod FirstFault
pub mod Laws
