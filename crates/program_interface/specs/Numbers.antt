-- The numbers that programs rely on.
use Rattle.std.specs.Prelude.{◌≡◌, pos, [], ◌∷◌}
use Rattle.program_interface.specs.declared.TheConstants.{MOST_SLOTS}
use Rattle.program_interface.specs.declared.area.TheConstants.{CONTEXT_BYTES, SCRATCH_BYTES, STACK_BYTES}
use Rattle.program_interface.specs.declared.block_size.TheConstants.{BLOCK_SIZES, LARGEST_BLOCK}
use Rattle.program_interface.specs.declared.frame.TheConstants.{EMIT, FRAME_LENGTH_BYTES}
use Rattle.program_interface.specs.declared.registers.TheConstants.{CLEARED_REGISTERS, REGISTERS}

-- the sizes and the numbers that a program relies on are these
pub record NumbersAreTheInterfaces : Type 0 where
  -- a block's sizes in bytes, and the largest of them (profile)
  pub block_sizes : BLOCK_SIZES ≡ 512 ∷ 1024 ∷ 2048 ∷ 4096 ∷ 8192 ∷ 16384 ∷ []
  pub largest_block : LARGEST_BLOCK ≡ 16384
  -- the bytes of the areas other than the block (profile)
  pub context_bytes : CONTEXT_BYTES ≡ 32
  pub stack_bytes : STACK_BYTES ≡ 512
  pub scratch_bytes : SCRATCH_BYTES ≡ 1024
  -- R0 to R10 (BPF ABI 1.0, Registers and calling convention), and of these R0 to R5, which a call leaves 0 (profile)
  pub registers : REGISTERS ≡ 11
  pub cleared_registers : CLEARED_REGISTERS ≡ 6
  -- the helper that emits a record, and the bytes of a record's length in its frame (profile)
  pub emit : EMIT ≡ pos 1
  pub frame_length_bytes : FRAME_LENGTH_BYTES ≡ 2
  -- the most slots of a program (profile)
  pub most_slots : MOST_SLOTS ≡ 4096
