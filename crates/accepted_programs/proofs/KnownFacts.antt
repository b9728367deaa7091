-- What is known at a slot is made of facts.
use Rattle.std.proofs.Common.{ℕ, zero, suc, ◌≡◌, ◌<◌, ◌%◌, ℤ, ◌^◌, Bool, true, false, List, [], ◌∷◌, drop, get_or, replicate, Option, Some, None, IfSome, inl, inr, refl, arith, lit<, subst}
use Rattle.std.proofs.lemmas.Bool.{cond_both}
use Rattle.std.proofs.Math.Nat.{mod-lt}
use Rattle.std.specs.List.{AllByRecursion}
use Rattle.std.specs.Prelude.{◌==◌, ◌&&◌, nat_le, unwrap_or, if◌then◌else◌}
use Rattle.instruction_set.specs.Instruction.{distance_of, immediate_word, size_of}
use Rattle.instruction_set.specs.Program.{instruction_at}
use Rattle.instruction_set.specs.declared.instruction.Instruction.{Instruction}
use Rattle.instruction_set.specs.declared.instruction.Instruction.TheVariants.{LoadImmediate, Load, LoadSigned, StoreImmediate, StoreRegister, Arithmetic, Negate, MoveSigned, SwapBytes, Jump, JumpLong, Branch, Call, Exit}
use Rattle.instruction_set.specs.declared.instruction.Source.{Source}
use Rattle.instruction_set.specs.declared.instruction.Source.TheVariants.{Immediate, Register}
use Rattle.instruction_set.specs.declared.operation.Relation.{Relation}
use Rattle.instruction_set.specs.declared.operation.Size.{Size}
use Rattle.instruction_set.specs.declared.operation.Size.TheVariants.{Byte, HalfWord, Word, DoubleWord}
use Rattle.instruction_set.specs.declared.operation.Width.{Width}
use Rattle.instruction_set.specs.declared.operation.Width.TheVariants.{Bits32, Bits64}
use Rattle.program_meaning.specs.Word.{low_bits}
use Rattle.program_interface.specs.declared.area.Area.TheVariants.{Context, Block, Stack, Scratch}
use Rattle.program_meaning.specs.declared.word.Arithmetic.TheVariants as word
use Rattle.word_domain.specs.Domain.{GiveFacts, Operations}
use Rattle.word_domain.specs.declared.offsets.Offsets.{Offsets}
use Rattle.accepted_programs.specs.Cells.{cell_of, filled, is_stack, joined_each, known_in, no_cells, overwritten}
use Rattle.common_definitions.proofs.Proved.{all_append, all_at, all_drop, all_same, all_set}
use Rattle.accepted_programs.proofs.CellLaws.{if_some, joined_known, left_known, none_known, set_known}
use Rattle.accepted_programs.specs.declared.facts.TheConstants.{CELLS}
use Rattle.accepted_programs.specs.Facts.{after_store, along, area_of, cell_at, compared_fact, enters_stack, facts_at_start, fact, facts_at, facts_at_target, facts_behind, given_below, gives, is_register, kept_fact, leads, loaded_fact, merge, slot_behind, source_fact, with_both, with_fact, with_source, with_sums}
use Rattle.accepted_programs.specs.declared.facts.Facts.{Facts}

-- ---- the words of an instruction
pub low_is_word : (width : Width) (w : ℕ) → w < 2 ^ 64 → low_bits width w < 2 ^ 64
low_is_word Bits32 w fits = omega arith
low_is_word Bits64 w fits = fits

pub immediate_fits : (z : ℤ) → immediate_word z < 2 ^ 64
immediate_fits z = mod-lt _ (lit< tt)

module _ {D : Type 0} (IsFact : D → Type 0) where
  -- what is known in each cell is a fact
  abbrev pub AreCellFacts : List (Option D) → Type 0
  AreCellFacts cells = (j : ℕ) (d : D) → get_or cells j None ≡ Some d → IsFact d

  -- each is a fact
  pub record AreFacts (facts : Facts D) : Type 0 where
    pub registers : AllByRecursion IsFact facts.registers
    pub cells : AreCellFacts facts.cells

  abbrev pub SomeAreFacts : Option (Facts D) → Type 0
  SomeAreFacts None = Unit {0}
  SomeAreFacts (Some facts) = AreFacts facts

  -- ---- cells
  no_cell_facts : AreCellFacts no_cells
  no_cell_facts j d e = absurd (none_known CELLS j d e)

  overwritten_facts : (told : Option Offsets) (offset : ℤ) (size : ℕ) (cells : List (Option D)) → AreCellFacts cells
      → AreCellFacts (overwritten told offset size cells)
  overwritten_facts None offset size cells are = no_cell_facts
  overwritten_facts (Some told) offset size cells are =
      cond_both (is_stack told.area) _ no_cells AreCellFacts
      (λ _ j d e. are j d (left_known _ _ j cells d e).1)
      (λ _. no_cell_facts)

  filled_facts : (cell : Option ℕ) (word : Option D) (cells others : List (Option D))
      → ((d : D) → word ≡ Some d → IsFact d) → AreCellFacts cells → AreCellFacts others
      → AreCellFacts (filled cell word cells others)
  filled_facts (Some j) (Some d) cells others is are rest k e known = elim (set_known cells j k (Some d) e known) [
    | inl here ↦ is e here.1
    | inr there ↦ are k e there.1
  ]
  filled_facts (Some j) None cells others is are rest k e known = rest k e known
  filled_facts None word cells others is are rest k e known = rest k e known

  known_fact : (cells : List (Option D)) (cell : Option ℕ) (d : D) → AreCellFacts cells → known_in cells cell ≡ Some d → IsFact d
  known_fact cells (Some j) d are e = are j d e
  known_fact cells None d are e = cc

  or_fact : (o : Option D) (d : D) → ((x : D) → o ≡ Some x → IsFact x) → IsFact d → IsFact (unwrap_or o d)
  or_fact (Some x) d first second = first x refl
  or_fact None d first second = second

module _ {D : Type 0} {IsFact : D → Type 0} {operations : Operations D} (give : GiveFacts IsFact operations) where
  pub fact_is : (facts : Facts D) (r : ℕ) → AreFacts IsFact facts → IsFact (fact operations facts r)
  fact_is facts r are = all_at IsFact facts.registers r operations.any are.registers give.any

  source_is : (facts : Facts D) (source : Source) → AreFacts IsFact facts → IsFact (source_fact operations facts source)
  source_is facts (Register r) are = fact_is facts r are
  source_is facts (Immediate z) are = give.constant (immediate_word z) (immediate_fits z)

  compared_is : (facts : Facts D) (width : Width) (source : Source) → AreFacts IsFact facts
      → IsFact (compared_fact operations width facts source)
  compared_is facts width (Register r) are = fact_is facts r are
  compared_is facts width (Immediate z) are =
      give.constant (low_bits width (immediate_word z)) (low_is_word width (immediate_word z) (immediate_fits z))

  -- ---- edges
  with_facts : (facts : Facts D) (r : ℕ) (d : D) → AreFacts IsFact facts → IsFact d
      → AreFacts IsFact (with_fact operations facts r d)
  with_facts facts r d are is = record { registers = all_set IsFact facts.registers r d are.registers is; cells = are.cells }

  pub told_facts : (facts : Facts D) (dst : ℕ) (source : Source) (both : D × D) → AreFacts IsFact facts → IsFact both.0 × IsFact both.1
      → AreFacts IsFact (with_source operations (with_fact operations facts dst both.0) source both.1)
  told_facts facts dst (Register r) both are is =
      with_facts (with_fact operations facts dst both.0) r both.1 (with_facts facts dst both.0 are is.0) is.1
  told_facts facts dst (Immediate z) both are is = with_facts facts dst both.0 are is.0

  both_facts : (facts : Facts D) (dst : ℕ) (source : Source) (both : Option (D × D)) → AreFacts IsFact facts
      → IfSome both (λ facts. IsFact facts.0 × IsFact facts.1) → SomeAreFacts IsFact (with_both operations facts dst source both)
  both_facts facts dst source None are is = tt
  both_facts facts dst source (Some both) are is =
      let told = told_facts facts dst source both are is in record { registers = told.registers; cells = told.cells }

  along_facts : (facts : Facts D) (taken : Bool) (width : Width) (relation : Relation) (dst : ℕ) (source : Source)
      → AreFacts IsFact facts → SomeAreFacts IsFact (along operations taken width relation dst source facts)
  along_facts facts taken width relation dst source are =
      both_facts facts dst source _ are
      (give.refine width relation taken (fact operations facts dst) (compared_fact operations width facts source)
      (is_register dst source) (fact_is facts dst are) (compared_is facts width source are))

  -- a word is left, and what is known of registers together is no fact
  word_facts : (i : Instruction) (facts : Facts D) (r : ℕ) (d : D) → AreFacts IsFact facts → IsFact d
      → AreFacts IsFact (with_sums operations i facts (with_fact operations facts r d))
  word_facts i facts r d are is =
      record { registers = all_set IsFact facts.registers r d are.registers is; cells = are.cells }

  -- ---- the stack
  kept_is : (facts : Facts D) (size : Size) (src : ℕ) (d : D) → AreFacts IsFact facts → kept_fact operations facts size src ≡ Some d
      → IsFact d
  kept_is facts DoubleWord src d are e =
      let from = if_some (nat_le 1 src && nat_le src 9) (Some (fact operations facts src)) d e in
      let same : fact operations facts src ≡ d = cc in
      subst IsFact same (fact_is facts src are)
  kept_is facts Byte src d are e = cc
  kept_is facts HalfWord src d are e = cc
  kept_is facts Word src d are e = cc

  stored_facts : (block : ℕ) (facts : Facts D) (size : Size) (dst : ℕ) (offset : ℤ) (word : Option D) → AreFacts IsFact facts
      → ((d : D) → word ≡ Some d → IsFact d) → AreFacts IsFact (after_store operations block facts size dst offset word)
  stored_facts block facts size dst offset word are is =
      let told = operations.offsets (fact operations facts dst) in
      cond_both (enters_stack (area_of operations block facts dst offset (size_of size))) _ facts (AreFacts IsFact)
      (λ _. record {
        registers = are.registers;
        cells = filled_facts IsFact (cell_of told offset) word facts.cells _ is are.cells
            (overwritten_facts IsFact told offset (size_of size) facts.cells are.cells);
      })
      (λ _. are)

  loaded_is : (facts : Facts D) (size : Size) (src : ℕ) (offset : ℤ) → AreFacts IsFact facts
      → IsFact (loaded_fact operations facts size src offset)
  loaded_is facts DoubleWord src offset are =
      let cell = cell_at operations facts src offset in
      or_fact IsFact (known_in facts.cells cell) (operations.loaded DoubleWord)
      (λ d e. known_fact IsFact facts.cells cell d are.cells e) (give.loaded DoubleWord)
  loaded_is facts Byte src offset are = give.loaded Byte
  loaded_is facts HalfWord src offset are = give.loaded HalfWord
  loaded_is facts Word src offset are = give.loaded Word

  module _ (block : ℕ) where
    behind_facts : (i : Instruction) (facts : Facts D) → AreFacts IsFact facts
        → SomeAreFacts IsFact (facts_behind operations block i facts)
    behind_facts (LoadImmediate dst value) facts are =
        word_facts (LoadImmediate dst value) facts dst _ are (give.constant (value % 2 ^ 64) (mod-lt value (lit< tt)))
    behind_facts (Load size dst src offset) facts are = word_facts (Load size dst src offset) facts dst _ are (loaded_is facts size src offset are)
    behind_facts (LoadSigned size dst src offset) facts are = word_facts (LoadSigned size dst src offset) facts dst _ are (give.loaded_signed size)
    behind_facts (StoreImmediate size dst offset value) facts are =
        stored_facts block facts size dst offset None are (λ d e. cc)
    behind_facts (StoreRegister size dst src offset) facts are =
        stored_facts block facts size dst offset (kept_fact operations facts size src) are (λ d e. kept_is facts size src d are e)
    behind_facts (Arithmetic width operation dst source) facts are =
        word_facts (Arithmetic width operation dst source) facts dst _ are
        (give.alu (word.Binary width operation) _ _ (fact_is facts dst are) (source_is facts source are))
    behind_facts (Negate width dst) facts are =
        word_facts (Negate width dst) facts dst _ are
        (give.alu (word.Negate width) _ _ (fact_is facts dst are) (give.constant 0 (lit< tt)))
    behind_facts (MoveSigned extension dst src) facts are =
        word_facts (MoveSigned extension dst src) facts dst _ are
        (give.alu (word.MoveSigned extension) _ _ (give.constant 0 (lit< tt)) (fact_is facts src are))
    behind_facts (SwapBytes swap size dst) facts are =
        word_facts (SwapBytes swap size dst) facts dst _ are
        (give.alu (word.SwapBytes swap size) _ _ (fact_is facts dst are) (give.constant 0 (lit< tt)))
    behind_facts (Jump distance) facts are = tt
    behind_facts (JumpLong distance) facts are = tt
    behind_facts (Branch width relation dst source distance) facts are =
        along_facts facts false width relation dst source are
    behind_facts (Call helper) facts are = record {
      registers =
          all_append IsFact (replicate 6 (operations.constant 0)) (drop 6 facts.registers)
          (all_same IsFact 6 (operations.constant 0) (give.constant 0 (lit< tt)))
          (all_drop IsFact 6 facts.registers are.registers);
      cells = are.cells;
    }
    behind_facts Exit facts are = tt

    target_facts : (i : Instruction) (facts : Facts D) → AreFacts IsFact facts
        → SomeAreFacts IsFact (facts_at_target operations block i facts)
    target_facts (Jump distance) facts are = are
    target_facts (JumpLong distance) facts are = are
    target_facts (Branch width relation dst source distance) facts are =
        along_facts facts true width relation dst source are
    target_facts i facts are = tt

    -- what a slot gives to another, if it leads there
    pub behind_given : (i : Instruction) (slot : ℕ) (facts : Facts D) (other : ℕ) → AreFacts IsFact facts
        → SomeAreFacts IsFact (if slot_behind slot i == other then facts_behind operations block i facts else None)
    behind_given i slot facts other are =
        cond_both (slot_behind slot i == other) (facts_behind operations block i facts) None (SomeAreFacts IsFact) (λ _. behind_facts i facts are) (λ _. tt)

    pub ahead_given : (i : Instruction) (slot : ℕ) (facts : Facts D) (other : ℕ) → AreFacts IsFact facts
        → SomeAreFacts IsFact (if leads slot (distance_of i) other then facts_at_target operations block i facts else None)
    ahead_given i slot facts other are =
        cond_both (leads slot (distance_of i) other) (facts_at_target operations block i facts) None (SomeAreFacts IsFact) (λ _. target_facts i facts are) (λ _. tt)

  -- ---- joins
  join_facts_are : (ds es : List D) → AllByRecursion IsFact ds → AllByRecursion IsFact es
      → AllByRecursion IsFact (joined_each operations.join ds es)
  join_facts_are [] es first second = tt
  join_facts_are (d ∷ ds) [] first second = tt
  join_facts_are (d ∷ ds) (e ∷ es) first second =
      (give.join d e first.0 second.0, join_facts_are ds es first.1 second.1)

  pub merge_facts : (a b : Option (Facts D)) → SomeAreFacts IsFact a → SomeAreFacts IsFact b
      → SomeAreFacts IsFact (merge operations a b)
  merge_facts (Some a) (Some b) first second = record {
    registers = join_facts_are a.registers b.registers first.registers second.registers;
    cells = λ j d e.
        let joined = joined_known operations.join a.cells b.cells j d e in
        subst IsFact joined.is
        (give.join joined.first joined.second (first.cells j joined.first joined.in_first)
        (second.cells j joined.second joined.in_second));
  }
  merge_facts (Some a) None first second = first
  merge_facts None b first second = second

  -- ---- slots
  start_are : AreFacts IsFact (facts_at_start operations)
  start_are =
      let none = give.constant 0 (lit< tt) in
      let context = give.pointer Context 0 (lit< tt) in
      let block = give.pointer Block 0 (lit< tt) in
      let scratch = give.pointer Scratch 0 (lit< tt) in
      let stack = give.pointer Stack 512 (lit< tt) in
      record {
        registers =
            (none, (context, (block, (scratch, (none, (none, (none, (none, (none, (none, (stack, tt)))))))))));
        cells = no_cell_facts IsFact;
      }

  gives_facts : (block : ℕ) (i : Option Instruction) (slot : ℕ) (facts : Option (Facts D)) (other : ℕ) (sofar : Option (Facts D))
      → SomeAreFacts IsFact facts → SomeAreFacts IsFact sofar
      → SomeAreFacts IsFact (gives operations block i slot facts other sofar)
  gives_facts block (Some i) slot (Some facts) other sofar are before =
      merge_facts (merge operations sofar (if slot_behind slot i == other then facts_behind operations block i facts else None)) _
      (merge_facts sofar _ before (behind_given block i slot facts other are)) (ahead_given block i slot facts other are)
  gives_facts block (Some i) slot None other sofar are before = before
  gives_facts block None slot facts other sofar are before = before

  pub given_facts : (block : ℕ) (program : List (Option Instruction)) (slot other : ℕ)
      → SomeAreFacts IsFact (given_below operations block program slot other)
  given_facts block program zero other = cond_both (other == 0) (Some (facts_at_start operations)) None (SomeAreFacts IsFact) (λ _. start_are) (λ _. tt)
  given_facts block program (suc slot) other =
      gives_facts block (instruction_at program slot) slot (given_below operations block program slot slot) other
      (given_below operations block program slot other) (given_facts block program slot slot)
      (given_facts block program slot other)

  -- the facts that are known at a slot
  pub known_facts : (block : ℕ) (program : List (Option Instruction)) (slot : ℕ) (facts : Facts D)
      → facts_at operations block program slot ≡ Some facts → AreFacts IsFact facts
  known_facts block program slot facts known =
      let P : Option (Facts D) → Type 0 = λ o. SomeAreFacts IsFact o in
      subst P known (given_facts block program slot slot)
