pub mod Instruction
pub mod Spelling
pub mod Codes
pub mod Program
pub mod Laws
pub mod Numbers
pub mod OpcodeTable
