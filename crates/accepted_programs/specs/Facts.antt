-- What is known at each slot of a program, by the operations of a domain (profile).
use Rattle.std.specs.Prelude.{ℕ, ℤ, zero, suc, Bool, true, false, ◌+◌, ◌%◌, ◌^◌, ◌==◌, ◌&&◌, ◌||◌, ◌++◌, nat_le, List, [], ◌∷◌, drop, replicate, get_or, set, max, Option, Some, None, option_map, unwrap_or, if◌then◌else◌, pos}
use Rattle.std.specs.Option.{option_and_then, option_or}
use Rattle.std.specs.Ordering.{int_eq}
use Rattle.instruction_set.specs.Instruction.{distance_of, immediate_word, size_of, target}
use Rattle.instruction_set.specs.Program.{instruction_at, slots_taken}
use Rattle.instruction_set.specs.declared.instruction.Instruction.{Instruction}
use Rattle.instruction_set.specs.declared.instruction.Instruction.TheVariants.{LoadImmediate, Load, LoadSigned, StoreImmediate, StoreRegister, Arithmetic, Negate, MoveSigned, SwapBytes, Jump, JumpLong, Branch, Call}
use Rattle.instruction_set.specs.declared.instruction.Source.{Source}
use Rattle.instruction_set.specs.declared.instruction.Source.TheVariants.{Immediate, Register}
use Rattle.instruction_set.specs.declared.operation.Relation.{Relation}
use Rattle.instruction_set.specs.declared.operation.Size.{Size}
use Rattle.instruction_set.specs.declared.operation.Size.TheVariants.{DoubleWord}
use Rattle.instruction_set.specs.declared.operation.Width.{Width}
use Rattle.program_meaning.specs.Laws.{changes}
use Rattle.program_meaning.specs.Word.{low_bits}
use Rattle.program_interface.specs.declared.area.Area.TheVariants.{Context, Block, Stack, Scratch}
use Rattle.program_meaning.specs.declared.word.Arithmetic.TheVariants as word
use Rattle.program_interface.specs.declared.area.TheConstants.{STACK_BYTES}
use Rattle.program_interface.specs.declared.frame.TheConstants.{FRAME_LENGTH_BYTES}
use Rattle.program_interface.specs.declared.registers.TheConstants.{CLEARED_REGISTERS}
use Rattle.program_interface.specs.declared.area.Area.{Area}
use Rattle.word_domain.specs.Domain.{Operations}
use Rattle.accepted_programs.specs.Cells.{cell_of, filled, is_stack, join_cell, joined_each, known_in, no_cells, overwritten}
use Rattle.accepted_programs.specs.Sums.{computed_fit, fit_left, fit_of, join_fit, sum_behind}
pub use Rattle.accepted_programs.specs.Sums.{is_register}
use Rattle.accepted_programs.specs.declared.facts.Facts.{Facts}
use Rattle.accepted_programs.specs.declared.sums.Fit.{Fit}
use Rattle.accepted_programs.specs.declared.sums.Sum.{Sum}

-- the slot behind an instruction
abbrev pub slot_behind : ℕ → Instruction → ℕ
slot_behind slot i = slot + slots_taken i

-- does a jump at one slot lead to another?
abbrev pub leads : ℕ → Option ℤ → ℕ → Bool
leads slot (Some distance) other = int_eq (target slot distance) (pos other)
leads slot None other = false

-- does a store go into the stack?
abbrev pub enters_stack : Option Area → Bool
enters_stack (Some area) = is_stack area
enters_stack None = false

module _ {D : Type 0} (operations : Operations D) where
  -- the fact about a register
  abbrev pub fact : Facts D → ℕ → D
  fact facts r = get_or facts.registers r operations.any

  -- the facts with another about one register
  abbrev pub with_fact : Facts D → ℕ → D → Facts D
  with_fact facts r d = record facts { registers = set facts.registers r d }

  -- what is known at the start of a block run
  abbrev pub facts_at_start : Facts D
  facts_at_start = record {
    registers =
        operations.constant 0 ∷ operations.pointer Context 0 ∷ operations.pointer Block 0 ∷ operations.pointer Scratch 0
        ∷ operations.constant 0 ∷ operations.constant 0 ∷ operations.constant 0 ∷ operations.constant 0
        ∷ operations.constant 0 ∷ operations.constant 0 ∷ operations.pointer Stack STACK_BYTES ∷ [];
    cells = no_cells;
    emitted = 0;
    sum = None;
    fit = None;
  }

  -- the source of an arithmetic instruction
  abbrev pub source_fact : Facts D → Source → D
  source_fact facts (Register r) = fact facts r
  source_fact facts (Immediate z) = operations.constant (immediate_word z)

  -- the source of a compare, which at 32 bits takes an immediate's low half
  abbrev pub compared_fact : Width → Facts D → Source → D
  compared_fact width facts (Register r) = fact facts r
  compared_fact width facts (Immediate z) = operations.constant (low_bits width (immediate_word z))

  -- the facts with another about the source of a compare; an immediate has none to change
  abbrev pub with_source : Facts D → Source → D → Facts D
  with_source facts (Register r) d = with_fact facts r d
  with_source facts (Immediate z) d = facts

  -- the greatest word that a register can have, or a greater one
  abbrev pub greatest : Facts D → ℕ → ℕ
  greatest facts r = (operations.bounds (fact facts r)).high

  -- what is known of registers together, where sums are tracked; else nothing
  abbrev pub tracked : {A : Type 0} → Option A → Option A
  tracked known = if operations.tracks_sums then known else None

  -- along an edge of a compare, behind which these are the facts: a sum of two registers in one of those that were compared is at
  -- most what that can be; of any other two is known what was before
  abbrev pub compared_fit : (dst : ℕ) → Source → Facts D → Option Sum → Option Fit
  compared_fit dst source facts (Some s) =
      if (s.register == dst) || is_register s.register source
      then option_or (fit_of (greatest facts s.register) s s.second) facts.fit
      else facts.fit
  compared_fit dst source facts None = facts.fit

  -- the facts with others about the destination and the source of a compare, and with what these tell of a sum
  abbrev pub with_compared : ℕ → Source → Facts D → D × D → Facts D
  with_compared dst source facts both =
      let told = with_source (with_fact facts dst both.0) source both.1 in
      record told { fit = tracked (compared_fit dst source told told.sum) }

  -- the same along an edge, if there is such an edge
  abbrev pub with_both : Facts D → ℕ → Source → Option (D × D) → Option (Facts D)
  with_both facts dst source = option_map (with_compared dst source facts)

  -- along an edge of a compare, which is taken or not; none where there is no such edge
  abbrev pub along : Bool → Width → Relation → ℕ → Source → Facts D → Option (Facts D)
  along taken width relation dst source facts = with_both facts dst source
      (operations.refine width relation taken (fact facts dst) (compared_fact width facts source) (is_register dst source))

  -- the least length of a record that emit can be given,
  abbrev pub least_length : Facts D → ℕ
  least_length facts = (operations.bounds (fact facts 2)).low

  -- and the greatest
  abbrev pub greatest_length : Facts D → ℕ
  greatest_length facts = greatest facts 2

  -- after emit R0 to R5 are 0 (BPF ABI 1.0, Registers and calling convention: a call needn't keep them; that they are 0
  -- is profile), and the group has grown by a frame: the two bytes of its length, and at most the longest record
  abbrev pub after_emit : Facts D → Facts D
  after_emit facts = record facts {
    registers = replicate CLEARED_REGISTERS (operations.constant 0) ++ drop CLEARED_REGISTERS facts.registers;
    emitted = facts.emitted + FRAME_LENGTH_BYTES + greatest_length facts;
  }

  -- ---- the stack

  -- the area that holds the bytes of an access, beside a block of this length
  abbrev pub area_of : ℕ → Facts D → ℕ → ℤ → ℕ → Option Area
  area_of block facts r offset size = operations.access block (fact facts r) offset size

  -- the cell that the eight bytes at an offset from a register are
  abbrev pub cell_at : Facts D → ℕ → ℤ → Option ℕ
  cell_at facts r offset = cell_of (operations.offsets (fact facts r)) offset

  -- a cell keeps whole words, of R1 to R9
  abbrev pub kept_fact : Facts D → Size → ℕ → Option D
  kept_fact facts DoubleWord src = if nat_le 1 src && nat_le src 9 then Some (fact facts src) else None
  kept_fact facts size src = None

  -- after a store; a fact, if there is one to be kept, fills the cell that the store goes to
  abbrev pub after_store : ℕ → Facts D → Size → ℕ → ℤ → Option D → Facts D
  after_store block facts size dst offset word =
      if enters_stack (area_of block facts dst offset (size_of size))
      then record facts {
        cells =
            filled (cell_at facts dst offset) word facts.cells
            (overwritten (operations.offsets (fact facts dst)) offset (size_of size) facts.cells);
      }
      else facts

  -- what a load gives: of eight bytes the fact of their cell, if there is one, else any number of this size
  abbrev pub loaded_fact : Facts D → Size → ℕ → ℤ → D
  loaded_fact facts DoubleWord src offset =
      unwrap_or (known_in facts.cells (cell_at facts src offset)) (operations.loaded DoubleWord)
  loaded_fact facts size src offset = operations.loaded size

  -- ---- words that instructions leave

  -- the destination of a load or of the wide instruction, and what is known of the word there; none of another
  -- instruction
  abbrev pub loaded_word : Instruction → Facts D → Option (ℕ × D)
  loaded_word (LoadImmediate dst value) facts = Some (dst, operations.constant (value % 2 ^ 64))
  loaded_word (Load size dst src offset) facts = Some (dst, loaded_fact facts size src offset)
  loaded_word (LoadSigned size dst src offset) facts = Some (dst, operations.loaded_signed size)
  loaded_word _ facts = None

  -- the same of an instruction that computes
  abbrev pub computed_word : Instruction → Facts D → Option (ℕ × D)
  computed_word (Arithmetic width operation dst source) facts =
      Some (dst, operations.alu (word.Binary width operation) (fact facts dst) (source_fact facts source))
  computed_word (Negate width dst) facts =
      Some (dst, operations.alu (word.Negate width) (fact facts dst) (operations.constant 0))
  computed_word (MoveSigned extension dst src) facts =
      Some (dst, operations.alu (word.MoveSigned extension) (operations.constant 0) (fact facts src))
  computed_word (SwapBytes swap size dst) facts =
      Some (dst, operations.alu (word.SwapBytes swap size) (fact facts dst) (operations.constant 0))
  computed_word _ facts = None

  -- after a word is left in its register
  abbrev pub with_word : Facts D → Option (ℕ × D) → Option (Facts D)
  with_word facts = option_map (λ word. with_fact facts word.0 word.1)

  -- ---- registers together

  -- the greatest address that a register can have, if it is known to have one
  abbrev pub greatest_address : Facts D → ℕ → Option ℕ
  greatest_address facts r = option_map (λ told. greatest facts r) (operations.offsets (fact facts r))

  -- what an instruction makes of two registers whose sum is at most a number, if it does
  abbrev pub made_fit : Instruction → Facts D → Fit → Option Fit
  made_fit (Arithmetic width operation dst source) facts f =
      computed_fit (greatest_address facts dst) width operation dst source f
  made_fit i facts f = None

  -- after an instruction: what it makes of the two, or what was known
  abbrev pub fit_behind : Instruction → Facts D → Option Fit
  fit_behind i facts =
      option_or (option_and_then (made_fit i facts) facts.fit) (option_and_then (fit_left (changes i)) facts.fit)

  -- facts with what is known of registers together after an instruction, before which these others were known
  abbrev pub with_sums : Instruction → Facts D → Facts D → Facts D
  with_sums i before facts = record facts { sum = tracked (sum_behind i before.sum); fit = tracked (fit_behind i before) }

  -- after an instruction that leaves a word in its register; none after another
  abbrev pub after_word : Instruction → Facts D → Option (Facts D)
  after_word i facts = option_map (with_sums i facts) (with_word facts (option_or (loaded_word i facts) (computed_word i facts)))

  -- ---- joins

  -- what is known where two ways come together
  abbrev pub join_facts : Facts D → Facts D → Facts D
  join_facts a b = record {
    registers = joined_each operations.join a.registers b.registers;
    cells = joined_each (join_cell operations.join) a.cells b.cells;
    emitted = max a.emitted b.emitted;
    sum = None;
    fit = tracked (join_fit a.fit b.fit);
  }

  -- the join of what there is
  abbrev pub merge : Option (Facts D) → Option (Facts D) → Option (Facts D)
  merge (Some a) (Some b) = Some (join_facts a b)
  merge (Some a) None = Some a
  merge None b = b

  -- ---- what is known at a slot, beside a block of this length, which tells the area of a store
  module _ (block : ℕ) where
    -- at the slot behind an instruction; none where it doesn't go on there
    abbrev pub facts_behind : Instruction → Facts D → Option (Facts D)
    facts_behind (StoreImmediate size dst offset value) facts = Some (after_store block facts size dst offset None)
    facts_behind (StoreRegister size dst src offset) facts =
        Some (after_store block facts size dst offset (kept_fact facts size src))
    facts_behind (Branch width relation dst source distance) facts = along false width relation dst source facts
    facts_behind (Call helper) facts = Some (with_sums (Call helper) facts (after_emit facts))
    facts_behind i facts = after_word i facts

    -- at the target of a jump that is taken; none where there is no such edge
    abbrev pub facts_at_target : Instruction → Facts D → Option (Facts D)
    facts_at_target (Jump distance) facts = Some facts
    facts_at_target (JumpLong distance) facts = Some facts
    facts_at_target (Branch width relation dst source distance) facts = along true width relation dst source facts
    facts_at_target _ facts = None

    -- what a slot was given so far, with what the instruction at another slot, with the facts there, gives to it: along the
    -- edge that isn't taken, then along the taken one
    abbrev pub gives : Option Instruction → ℕ → Option (Facts D) → ℕ → Option (Facts D) → Option (Facts D)
    gives (Some i) slot (Some facts) other sofar =
        merge
        (merge sofar (if slot_behind slot i == other then facts_behind i facts else None))
        (if leads slot (distance_of i) other then facts_at_target i facts else None)
    gives _ slot _ other sofar = sofar

    -- the join of what the slots below this one give to another, in their order; the first slot has the
    -- facts of the start
    abbrev pub given_below : List (Option Instruction) → ℕ → ℕ → Option (Facts D)
    given_below program zero other = if other == 0 then Some facts_at_start else None
    given_below program (suc slot) other =
        gives (instruction_at program slot) slot (given_below program slot slot) other (given_below program slot other)

    -- the facts at a slot: what all slots before it give to it; none where none leads to it
    abbrev pub facts_at : List (Option Instruction) → ℕ → Option (Facts D)
    facts_at program slot = given_below program slot slot
