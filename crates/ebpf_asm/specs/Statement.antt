-- Statements (profile): a mnemonic and its operands.
use Rattle.std.specs.Prelude.{ℕ, List, [], ◌∷◌, drop, map, Option, None, ok_or, Result, Ok, Err}
use Rattle.std.specs.List.{before_first, position_or_len}
use Rattle.instruction_set.specs.declared.instruction.Instruction.{Instruction}
use Rattle.instruction_set.specs.declared.instruction.Instruction.TheVariants as instructions
use Rattle.ebpf_asm.specs.declared.mnemonic.Mnemonic.{Mnemonic}
use Rattle.ebpf_asm.specs.declared.mnemonic.Mnemonic.TheVariants.{LoadImmediate, Load, LoadSigned, StoreImmediate, StoreRegister, Arithmetic, Negate, MoveSigned, SwapBytes, Jump, JumpLong, Branch, Call, Exit}
use Rattle.ebpf_asm.specs.declared.fault.FaultKind.{FaultKind}
use Rattle.ebpf_asm.specs.declared.fault.FaultKind.TheVariants.{UnknownMnemonic, Operand}
use Rattle.common_definitions.specs.Readings.{◌>>=◌}
use Rattle.ebpf_asm.specs.Fault.{read_both}
use Rattle.ebpf_asm.specs.Mnemonic.{mnemonic_named}
use Rattle.ebpf_asm.specs.Operand.{register_of, source_told, immediate_told, wide_of, memory_told, distance_told, label_of, short_of, long_of}
use Rattle.text_lines.specs.Cut.{is_blank_byte, parts_at, trimmed}
use Rattle.text_lines.specs.Texts as lists

-- the operands: what stands between commas, without the blanks around
unfoldable pub operands_of : List ℕ → List (List ℕ)
operands_of text = map trimmed (parts_at 44 text)

-- the operands of a mnemonic that takes none
unfoldable pub none_of : List (List ℕ) → Result (Option ℕ) FaultKind
none_of ([] ∷ []) = Ok None
none_of _ = Err Operand

-- the operand of a mnemonic that takes one
unfoldable pub one_of : List (List ℕ) → Result (List ℕ) FaultKind
one_of texts = ok_or (lists.one_of texts) Operand

-- the operands of a mnemonic that takes two
unfoldable pub two_of : List (List ℕ) → Result (List ℕ × List ℕ) FaultKind
two_of texts = ok_or (lists.two_of texts) Operand

-- the operands of a mnemonic that takes three
unfoldable pub three_of : List (List ℕ) → Result (List ℕ × List ℕ × List ℕ) FaultKind
three_of (first ∷ second ∷ third ∷ []) = Ok (first, second, third)
three_of _ = Err Operand

-- an instruction; where it jumps to a label, its distance is 0 and that label stands beside it
abbrev pub Statement : Type 0
Statement = Instruction × Option (List ℕ)

-- a statement that jumps to no label
abbrev pub plain : Instruction → Result Statement FaultKind
plain instruction = Ok (instruction, None)

-- the statement that a mnemonic and operands make
unfoldable pub statement_with : Mnemonic → List (List ℕ) → Result Statement FaultKind
statement_with LoadImmediate texts = do
  t ← two_of texts
  x ← read_both (register_of t.0) (wide_of t.1)
  plain (instructions.LoadImmediate x.0 x.1)
statement_with (Load size) texts = do
  t ← two_of texts
  x ← read_both (register_of t.0) (memory_told t.1)
  plain (instructions.Load size x.0 x.1.0 x.1.1)
statement_with (LoadSigned size) texts = do
  t ← two_of texts
  x ← read_both (register_of t.0) (memory_told t.1)
  plain (instructions.LoadSigned size x.0 x.1.0 x.1.1)
statement_with (StoreImmediate size) texts = do
  t ← two_of texts
  x ← read_both (memory_told t.0) (immediate_told t.1)
  plain (instructions.StoreImmediate size x.0.0 x.0.1 x.1)
statement_with (StoreRegister size) texts = do
  t ← two_of texts
  x ← read_both (memory_told t.0) (register_of t.1)
  plain (instructions.StoreRegister size x.0.0 x.1 x.0.1)
statement_with (Arithmetic width operation) texts = do
  t ← two_of texts
  x ← read_both (register_of t.0) (source_told t.1)
  plain (instructions.Arithmetic width operation x.0 x.1)
statement_with (Negate width) texts = do
  t ← one_of texts
  dst ← register_of t
  plain (instructions.Negate width dst)
statement_with (MoveSigned extension) texts = do
  t ← two_of texts
  x ← read_both (register_of t.0) (register_of t.1)
  plain (instructions.MoveSigned extension x.0 x.1)
statement_with (SwapBytes swap size) texts = do
  t ← one_of texts
  dst ← register_of t
  plain (instructions.SwapBytes swap size dst)
statement_with Jump texts = do
  t ← one_of texts
  distance ← distance_told short_of t
  Ok (instructions.Jump distance, label_of t)
statement_with JumpLong texts = do
  t ← one_of texts
  distance ← distance_told long_of t
  Ok (instructions.JumpLong distance, label_of t)
statement_with (Branch width relation) texts = do
  t ← three_of texts
  x ← read_both (read_both (register_of t.0) (source_told t.1)) (distance_told short_of t.2)
  Ok (instructions.Branch width relation x.0.0 x.0.1 x.1, label_of t.2)
statement_with Call texts = do
  t ← one_of texts
  helper ← immediate_told t
  plain (instructions.Call helper)
statement_with Exit texts = do
  none ← none_of texts
  plain instructions.Exit

-- the statement that a text without blanks at its ends is: a word that is a mnemonic, and behind it its operands
unfoldable pub statement_of : List ℕ → Result Statement FaultKind
statement_of text = do
  mnemonic ← ok_or (mnemonic_named (before_first is_blank_byte text)) UnknownMnemonic
  statement_with mnemonic (operands_of (drop (position_or_len is_blank_byte text) text))
