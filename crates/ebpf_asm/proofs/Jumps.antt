-- A line that names a label jumps.
use Rattle.std.proofs.Common.{◌≡◌, ℕ, ℤ, pos, negsuc, ◌&&◌, List, drop, map, Option, Some, None, Result, Ok, Err, refl, ap, ◌∙◌}
use Rattle.std.specs.Prelude.{IfOk, IfSome, int_le, ok_or}
use Rattle.std.specs.List.{AllByRecursion, before_first, position_or_len}
use Rattle.std.proofs.lemmas.Bool.{cond_both}
use Rattle.instruction_set.specs.declared.instruction.Instruction.{Instruction}
use Rattle.instruction_set.specs.declared.instruction.Instruction.TheVariants as instructions
use Rattle.ebpf_asm.specs.declared.mnemonic.Mnemonic.{Mnemonic}
use Rattle.ebpf_asm.specs.declared.mnemonic.Mnemonic.TheVariants.{LoadImmediate, Load, LoadSigned, StoreImmediate, StoreRegister, Arithmetic, Negate, MoveSigned, SwapBytes, Jump, JumpLong, Branch, Call, Exit}
use Rattle.ebpf_asm.specs.declared.fault.FaultKind.{FaultKind}
use Rattle.ebpf_asm.specs.declared.fault.FaultKind.TheVariants.{UnknownMnemonic, OutOfRange}
use Rattle.ebpf_asm.specs.Fault.{read_both}
use Rattle.ebpf_asm.specs.Mnemonic.{mnemonic_named}
use Rattle.ebpf_asm.specs.Operand.{distance_told, immediate_told, in_range, label_of, long_of, memory_told, register_of, short_of, source_told, wide_of}
use Rattle.ebpf_asm.specs.Statement.{Statement, none_of, one_of, operands_of, statement_of, statement_with, three_of, two_of}
use Rattle.ebpf_asm.specs.Line.{Line, line_of}
use Rattle.ebpf_asm.specs.Assembly.{fitting, jump_by}
use Rattle.ebpf_asm.specs.InOrder.{with_distance}
use Rattle.ebpf_asm.proofs.EachLine.{LineHas, lines_have}
use Rattle.ebpf_asm.proofs.Fitting.{after}
use Rattle.text_lines.specs.Cut.{is_blank_byte}

-- ---- jumps

-- an instruction takes a distance in place of its own
abbrev pub Jumps : Instruction → Type 0
Jumps instruction = (distance : ℤ) (made : Instruction) → jump_by instruction distance ≡ Ok made → with_distance distance instruction ≡ Some made

in_range_same : (least greatest z x : ℤ) → in_range least greatest z ≡ Ok x → z ≡ x
in_range_same least greatest z x e =
    cond_both (int_le least z && int_le z greatest) (Ok z) (Err OutOfRange) (λ r. r ≡ Ok x → z ≡ x) (λ _ is. cc) (λ _ is. absurd cc) e

fitting_made : (jump : ℤ → Instruction) (distance : ℤ) (read : Result ℤ FaultKind) (made : Instruction) → ((x : ℤ) → read ≡ Ok x → distance ≡ x) → fitting jump read ≡ Ok made → jump distance ≡ made
fitting_made jump distance (Ok x) made same e = let is : jump x ≡ made = cc in ap jump (same x refl) ∙ is
fitting_made jump distance (Err kind) made same e = absurd cc

short_made : (jump : ℤ → Instruction) (distance : ℤ) (made : Instruction) → fitting jump (short_of distance) ≡ Ok made → Some (jump distance) ≡ Some made
short_made jump distance made e =
    ap (λ (i : Instruction). Some i) (fitting_made jump distance (short_of distance) made (in_range_same (negsuc 32767) (pos 32767) distance) e)

long_made : (jump : ℤ → Instruction) (distance : ℤ) (made : Instruction) → fitting jump (long_of distance) ≡ Ok made → Some (jump distance) ≡ Some made
long_made jump distance made e =
    ap (λ (i : Instruction). Some i) (fitting_made jump distance (long_of distance) made (in_range_same (negsuc 2147483647) (pos 2147483647) distance) e)

-- ---- statements

abbrev StatementJumps : Statement → Type 0
StatementJumps s = IfSome s.1 (λ (label : List ℕ). Jumps s.0)

to_label : (instruction : Instruction) (label : Option (List ℕ)) → Jumps instruction → StatementJumps (instruction, label)
to_label instruction None jumps = tt
to_label instruction (Some label) jumps = jumps

statement_with_jumps : (mnemonic : Mnemonic) (texts : List (List ℕ)) → IfOk (statement_with mnemonic texts) StatementJumps
unfolding statement_with
statement_with_jumps LoadImmediate texts = after (two_of texts) _ _ (λ t. after (read_both (register_of t.0) (wide_of t.1)) _ _ (λ x. tt))
statement_with_jumps (Load size) texts = after (two_of texts) _ _ (λ t. after (read_both (register_of t.0) (memory_told t.1)) _ _ (λ x. tt))
statement_with_jumps (LoadSigned size) texts = after (two_of texts) _ _ (λ t. after (read_both (register_of t.0) (memory_told t.1)) _ _ (λ x. tt))
statement_with_jumps (StoreImmediate size) texts = after (two_of texts) _ _ (λ t. after (read_both (memory_told t.0) (immediate_told t.1)) _ _ (λ x. tt))
statement_with_jumps (StoreRegister size) texts = after (two_of texts) _ _ (λ t. after (read_both (memory_told t.0) (register_of t.1)) _ _ (λ x. tt))
statement_with_jumps (Arithmetic width operation) texts = after (two_of texts) _ _ (λ t. after (read_both (register_of t.0) (source_told t.1)) _ _ (λ x. tt))
statement_with_jumps (Negate width) texts = after (one_of texts) _ _ (λ t. after (register_of t) _ _ (λ dst. tt))
statement_with_jumps (MoveSigned extension) texts = after (two_of texts) _ _ (λ t. after (read_both (register_of t.0) (register_of t.1)) _ _ (λ x. tt))
statement_with_jumps (SwapBytes swap size) texts = after (one_of texts) _ _ (λ t. after (register_of t) _ _ (λ dst. tt))
statement_with_jumps Jump texts =
    after (one_of texts) _ _ (λ t. after (distance_told short_of t) _ _ (λ z. to_label (instructions.Jump z) (label_of t) (short_made instructions.Jump)))
statement_with_jumps JumpLong texts =
    after (one_of texts) _ _ (λ t. after (distance_told long_of t) _ _ (λ z. to_label (instructions.JumpLong z) (label_of t) (long_made instructions.JumpLong)))
statement_with_jumps (Branch width relation) texts =
    after (three_of texts) _ _ (λ t. after (read_both (read_both (register_of t.0) (source_told t.1)) (distance_told short_of t.2)) _ _
    (λ x. to_label (instructions.Branch width relation x.0.0 x.0.1 x.1) (label_of t.2) (short_made (instructions.Branch width relation x.0.0 x.0.1))))
statement_with_jumps Call texts = after (one_of texts) _ _ (λ t. after (immediate_told t) _ _ (λ helper. tt))
statement_with_jumps Exit texts = after (none_of texts) _ _ (λ none. tt)

statement_jumps : (text : List ℕ) → IfOk (statement_of text) StatementJumps
unfolding statement_of
statement_jumps text =
    after (ok_or (mnemonic_named (before_first is_blank_byte text)) UnknownMnemonic) _ _
    (λ mnemonic. statement_with_jumps mnemonic (operands_of (drop (position_or_len is_blank_byte text) text)))

-- ---- lines

-- the instruction of a line, if it has one, jumps if the line names a label
abbrev pub LineJumps : Line → Type 0
LineJumps line = LineHas StatementJumps line

pub lines_jump : (all : List (List ℕ)) → AllByRecursion LineJumps (map line_of all)
lines_jump all = lines_have StatementJumps statement_jumps all
