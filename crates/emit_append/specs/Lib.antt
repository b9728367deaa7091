pub mod Packing
pub mod GoingOn
pub mod Need
pub mod PackedLaw
pub mod OutputBlocks
pub mod Packer
pub mod Unpacking
pub mod Refusal
