-- The bytes of the context (profile).
use Rattle.std.specs.Prelude.{ℕ, ◌≡◌, ◌<◌, ◌^◌, List, [], ◌∷◌, ◌++◌, length, drop, replicate}
use Rattle.std.specs.List.{flat_map}
use Rattle.byteorder.specs.Endian.{little_bytes}
use Rattle.common_definitions.specs.Bytes.{field}
use Rattle.program_interface.specs.declared.area.TheConstants.{CONTEXT_BYTES}
use Rattle.program_interface.specs.declared.context.Context.{Context}

-- the block's LBA in eight bytes; its index in the run, the run's number of blocks, a
-- block's size and the run's argument in four each; and eight zeros
abbrev pub context_bytes : Context → List ℕ
context_bytes c =
    little_bytes 8 c.lba
    ++ flat_map (little_bytes 4) (c.index ∷ c.count ∷ c.block ∷ c.argument ∷ [])
    ++ replicate 8 0

-- the fields have the numbers of their types
pub record AreContextFields (c : Context) : Type 0 where
  pub lba : c.lba < 2 ^ 64
  pub index : c.index < 2 ^ 32
  pub count : c.count < 2 ^ 32
  pub block : c.block < 2 ^ 32
  pub argument : c.argument < 2 ^ 32

-- what a program reads in its context, the lowest byte of each number first: the block's LBA in
-- bytes 0 to 7, its index in bytes 8 to 11, the run's number of blocks in bytes 12 to 15, a block's size in bytes
-- 16 to 19, the run's argument in bytes 20 to 23, and zeros behind them
pub record TellContext (bytes : List ℕ) (c : Context) : Type 0 where
  pub size : length bytes ≡ CONTEXT_BYTES
  pub lba : field bytes 0 8 ≡ c.lba
  pub index : field bytes 8 4 ≡ c.index
  pub count : field bytes 12 4 ≡ c.count
  pub block : field bytes 16 4 ≡ c.block
  pub argument : field bytes 20 4 ≡ c.argument
  pub zeros : drop 24 bytes ≡ replicate 8 0

-- a program reads in its context what the device put into it
abbrev pub ContextsTell : Type 0
ContextsTell = (c : Context) → AreContextFields c → TellContext (context_bytes c) c
