-- An accepted instruction leads along one of its edges to a state that meets what the edge gives.
use Rattle.std.proofs.Common.{ℕ, ℤ, pos, negsuc, ◌+◌, ◌≡◌, ◌<◌, ◌≤◌, ◌%◌, ◌^◌, Bool, true, false, cond, subst, List, drop, length, set, Option, Some, None, refl, sym, ap, ◌∙◌, arith, lit<, length-append}
use Rattle.std.proofs.Math.Nat.{mod-lt}
use Rattle.std.proofs.lemmas.List.{length-take}
use Rattle.std.proofs.lemmas.Cmp.{int_eq_equiv}
use Rattle.std.specs.Int.{w16}
use Rattle.std.specs.Option.{option_and_then, option_map}
use Rattle.std.specs.Prelude.{◌==◌, ◌&&◌, ◌||◌, FitsSigned, IfSome, nat_le, unwrap_or, if◌then◌else◌}
use Rattle.instruction_set.specs.Instruction.{access_of, distance_of, immediate_word, signed_size_of, size_of, target}
use Rattle.instruction_set.specs.Spelling.{first_slot}
use Rattle.instruction_set.specs.declared.instruction.Instruction.{Instruction}
use Rattle.instruction_set.specs.declared.instruction.Instruction.TheVariants.{LoadImmediate, Load, LoadSigned, StoreImmediate, StoreRegister, Arithmetic, Negate, MoveSigned, SwapBytes, Jump, JumpLong, Branch, Call, Exit}
use Rattle.instruction_set.specs.declared.instruction.Source.{Source}
use Rattle.instruction_set.specs.declared.instruction.Source.TheVariants.{Immediate, Register}
use Rattle.instruction_set.specs.declared.operation.Operation.{Operation}
use Rattle.instruction_set.specs.declared.operation.Relation.{Relation}
use Rattle.instruction_set.specs.declared.operation.Size.{Size}
use Rattle.instruction_set.specs.declared.operation.Size.TheVariants.{Byte, HalfWord, Word, DoubleWord}
use Rattle.instruction_set.specs.declared.operation.Width.{Width}
use Rattle.program_meaning.proofs.Proved.{loads_fit}
use Rattle.program_meaning.specs.Cause.{is_exit, next_slot}
use Rattle.program_meaning.specs.steps.Causes.{is_unwritable}
use Rattle.program_meaning.specs.Effect.{address_from, bytes_at, emitted, operand, put, register}
use Rattle.program_meaning.specs.Laws.{changes}
use Rattle.program_meaning.specs.Memory.{Memory, bytes_from, lies_in, loaded, area_offset_of, stored}
use Rattle.program_meaning.specs.State.{IsState, State}
use Rattle.program_meaning.specs.Step.{after, slot_number}
use Rattle.program_meaning.specs.Word.{computed, is_taken}
use Rattle.program_meaning.specs.declared.word.Arithmetic.TheVariants as word
use Rattle.program_interface.specs.Frame.{frame}
use Rattle.program_interface.specs.BlockSize.{IsBlockSize}
use Rattle.program_interface.specs.RunSizes.{AreSizes, Sizes}
use Rattle.program_interface.specs.declared.registers.TheConstants.{REGISTERS}
use Rattle.program_interface.specs.declared.area.Area.{Area}
use Rattle.program_interface.specs.declared.area.Area.TheVariants.{Context, Block, Stack, Scratch}
use Rattle.word_domain.specs.Domain.{BelongAfter, Belongs, IsAtOffset, IsSound, Operations}
use Rattle.word_domain.specs.declared.offsets.Offsets.{Offsets}
use Rattle.accepted_programs.specs.Accepted.{fails, goes_back, stores_outside}
use Rattle.accepted_programs.proofs.CellLaws.{if_some}
use Rattle.accepted_programs.specs.Cells.{cell_of, filled, is_stack, known_in, overwritten}
use Rattle.accepted_programs.specs.Facts.{after_emit, after_store, along, area_of, cell_at, compared_fact, compared_fit, enters_stack, fact, facts_at_target, facts_behind, fit_behind, greatest, greatest_address, is_register, kept_fact, loaded_fact, made_fit, slot_behind, tracked, with_both, with_fact, with_source, with_sums}
use Rattle.accepted_programs.proofs.KnownFacts.{AreFacts, immediate_fits, told_facts}
use Rattle.accepted_programs.proofs.StoreLaws.{cell_loaded, in_stack, stack_stays, stack_written, stored_belong}
use Rattle.accepted_programs.proofs.Unhindered.{size_fits}
use Rattle.accepted_programs.specs.declared.reason.Reason.{Reason}
use Rattle.accepted_programs.specs.declared.reason.Reason.TheVariants as reason
use Rattle.accepted_programs.proofs.Untracked.{tracked_holds}
use Rattle.accepted_programs.proofs.SumLaws.{AreLeft, call_leaves, computed_fits, computed_has, edge_fits, either_fit, either_sum, fit_stays, made_within, others_left, sum_stays}
use Rattle.accepted_programs.specs.Meets.{AreWithin, HasSum, Meets, MeetsSome}
use Rattle.accepted_programs.specs.Sums.{made_sum, sum_behind}
use Rattle.accepted_programs.proofs.Edges.{Moved}
use Rattle.accepted_programs.proofs.Registers.{belong_drop, belong_refined, belong_replicate, belong_set, compared, compared_belongs, compares_low, constant_belongs, one_register, source_belongs, word_of}
use Rattle.accepted_programs.specs.declared.facts.Facts.{Facts}
use Rattle.accepted_programs.specs.declared.sums.Fit.{Fit}
use Rattle.accepted_programs.specs.declared.sums.Sum.{Sum}

behind_is_later : (slot : ℕ) (i : Instruction) → slot < slot_behind slot i
behind_is_later slot (LoadImmediate dst value) = omega arith
behind_is_later slot i = omega arith

-- a jump that doesn't go back
ahead_is : (slot : ℕ) (distance : ℤ) → goes_back (Some distance) ≡ false
    → (target slot distance ≡ pos (slot_number (target slot distance))) × (slot < slot_number (target slot distance))
ahead_is slot (pos n) forth = (refl, omega arith)
ahead_is slot (negsuc n) forth = cc

-- the frame of a record of at most so many bytes
frame_length : (m : Memory) (address n : ℕ) → length (frame (bytes_at m address n)) ≤ 2 + n
frame_length m address n =
    let taken = length-take n (bytes_from m (area_offset_of (length m.block) address n)) in
    omega (arith, taken)

module _ {D : Type 0} {IsFact : D → Type 0} {contains : D → ℕ → Type 0} {operations : Operations D}
    (sound : IsSound IsFact contains operations) where
  module _ (block : ℕ) (facts : Facts D) (s : State) (is_size : IsBlockSize block) (is : IsState s)
      (long : length s.memory.block ≡ block) (are : AreFacts IsFact facts) (meets : Meets contains facts s) where
    -- ---- where it leads

    behind : (i : Instruction) → next_slot s.slot s.registers i ≡ pos (slot_behind s.slot i)
        → MeetsSome contains (facts_behind operations block i facts) (after s i)
        → Moved contains operations block i facts s (after s i)
    behind i next met = record {
      taken = false;
      along = (sym (ap slot_number next), met);
      forward = rw next (behind_is_later s.slot i);
    }

    ahead : (i : Instruction) (distance : ℤ) → distance_of i ≡ Some distance → goes_back (Some distance) ≡ false
        → next_slot s.slot s.registers i ≡ target s.slot distance
        → MeetsSome contains (facts_at_target operations block i facts) (after s i)
        → Moved contains operations block i facts s (after s i)
    ahead i distance jumps forth next met =
        let there = ahead_is s.slot distance forth in
        record {
          taken = true;
          along = (rw (jumps, next, ← there.0) (int_eq_equiv.refl (target s.slot distance)), met);
          forward = rw next there.1;
        }

    -- ---- what is known there

    zero_is : Belongs IsFact contains (operations.constant 0) 0
    zero_is = constant_belongs sound 0 (lit< tt)

    elsewhere : (slot : ℕ) → Meets contains facts (record s { slot = slot })
    elsewhere slot = record { registers = meets.registers; cells = meets.cells; group = meets.group; sum = meets.sum; fit = meets.fit }

    -- what an instruction makes of registers together
    abbrev Makes : Instruction → List ℕ → Type 0
    Makes i words =
        HasSum (made_sum i facts.sum) words × AreWithin (option_and_then (made_fit operations i facts) facts.fit) words

    -- what is known of registers together after an instruction that leaves others as they were
    module _ (i : Instruction) (words : List ℕ) (left : AreLeft (changes i) s.registers words) (makes : Makes i words) where
      sum_meets : HasSum (tracked operations (sum_behind i facts.sum)) words
      sum_meets = tracked_holds operations (λ o. HasSum o words) _ tt
          (either_sum (made_sum i facts.sum) _ words makes.0 (sum_stays (changes i) s.registers words left facts.sum meets.sum))

      fit_meets : AreWithin (tracked operations (fit_behind operations i facts)) words
      fit_meets = tracked_holds operations (λ o. AreWithin o words) _ tt
          (either_fit (option_and_then (made_fit operations i facts) facts.fit) _ words makes.1
          (fit_stays (changes i) s.registers words left facts.fit meets.fit))

    -- most instructions make nothing
    makes_none : (words : List ℕ) (fit : Option Fit) → AreWithin (option_and_then (λ (f : Fit). None) fit) words
    makes_none words (Some f) = tt
    makes_none words None = tt

    put_meets : (i : Instruction) (r : ℕ) (d : D) (w slot : ℕ) → contains d w → AreLeft (changes i) s.registers (set s.registers r w)
        → Makes i (set s.registers r w)
        → Meets contains (with_sums operations i facts (with_fact operations facts r d)) (record (put s r w) { slot = slot })
    put_meets i r d w slot belongs left makes = record {
      registers = belong_set contains facts.registers s.registers r d w belongs meets.registers;
      cells = meets.cells;
      group = meets.group;
      sum = sum_meets i (set s.registers r w) left makes;
      fit = fit_meets i (set s.registers r w) left makes;
    }

    -- what a compare tells of its destination and its source
    told_meets : (dst : ℕ) (width : Width) (source : Source) (both : D × D)
        → contains both.0 (register s dst) × contains both.1 (compared s.registers width source)
        → Meets contains (with_source operations (with_fact operations facts dst both.0) source both.1) s
    told_meets dst width (Register r) both after = record {
      registers =
          belong_refined contains (set facts.registers dst both.0) s.registers r both.1 after.1
          (belong_refined contains facts.registers s.registers dst both.0 after.0 meets.registers);
      cells = meets.cells;
      group = meets.group;
      sum = meets.sum;
      fit = meets.fit;
    }
    told_meets dst width (Immediate z) both after = record {
      registers = belong_refined contains facts.registers s.registers dst both.0 after.0 meets.registers;
      cells = meets.cells;
      group = meets.group;
      sum = meets.sum;
      fit = meets.fit;
    }

    -- and of a sum
    compared_meets : (told : Facts D) (dst : ℕ) (source : Source) (sum : Option Sum) → AreFacts IsFact told → Meets contains told s
        → HasSum sum s.registers → AreWithin (compared_fit operations dst source told sum) s.registers
    compared_meets told dst source (Some k) are_told met has =
        edge_fits s.registers ((k.register == dst) || is_register k.register source) _ k told.fit has met.fit
        (sound.bounds (fact operations told k.register) (register s k.register) (word_of sound told s are_told is met k.register)).1
    compared_meets told dst source None are_told met has = met.fit

    both_meet : (dst : ℕ) (width : Width) (source : Source) (slot : ℕ) (both : Option (D × D))
        → IfSome both (λ facts. IsFact facts.0 × IsFact facts.1)
        → BelongAfter contains (register s dst) (compared s.registers width source) both
        → MeetsSome contains (with_both operations facts dst source both) (record s { slot = slot })
    both_meet dst width source slot None are_both after = absurd after
    both_meet dst width source slot (Some both) are_both after =
        let told = with_source operations (with_fact operations facts dst both.0) source both.1 in
        let met = told_meets dst width source both after in
        record {
          registers = met.registers;
          cells = met.cells;
          group = met.group;
          sum = met.sum;
          fit = tracked_holds operations (λ o. AreWithin o s.registers) _ tt
              (compared_meets told dst source told.sum (told_facts sound.facts facts dst source both are are_both) met met.sum);
        }

    along_meets : (taken : Bool) (width : Width) (relation : Relation) (dst : ℕ) (source : Source) (slot : ℕ)
        → is_taken width relation (register s dst) (operand s.registers source) ≡ taken
        → MeetsSome contains (along operations taken width relation dst source facts) (record s { slot = slot })
    along_meets taken width relation dst source slot answer =
        both_meet dst width source slot _
        (sound.facts.refine width relation taken (fact operations facts dst) (compared_fact operations width facts source)
        (is_register dst source) (word_of sound facts s are is meets dst).fact
        (compared_belongs sound facts s.registers are is.words meets.registers width source).fact)
        (sound.refine width relation taken (fact operations facts dst) (compared_fact operations width facts source)
        (is_register dst source) (register s dst) (compared s.registers width source) (word_of sound facts s are is meets dst)
        (compared_belongs sound facts s.registers are is.words meets.registers width source)
        (one_register s.registers width dst source)
        (compares_low s.registers width relation (register s dst) source ∙ answer))

    emit_meets : (helper : ℤ) (slot : ℕ)
        → Meets contains (with_sums operations (Call helper) facts (after_emit operations facts)) (record (emitted s) { slot = slot })
    emit_meets helper slot = record {
      registers =
          belong_replicate contains 6 (operations.constant 0) 0 (drop 6 facts.registers) (drop 6 s.registers)
          (sound.constant 0 (lit< tt)) (belong_drop contains 6 facts.registers s.registers meets.registers);
      cells = meets.cells;
      group =
          let n = register s 2 in
          let most = sound.bounds (fact operations facts 2) n (word_of sound facts s are is meets 2) in
          let longer = frame_length s.memory (register s 1) n in
          let before = meets.group in
          rw length-append (omega (arith, most, longer, before));
      sum = sum_meets (Call helper) _ (call_leaves s.registers) (tt, makes_none _ facts.fit);
      fit = fit_meets (Call helper) _ (call_leaves s.registers) (tt, makes_none _ facts.fit);
    }

    -- ---- the stack

    -- what is told of the address of an access
    told_at : (r : ℕ) (offsets : Offsets) → operations.offsets (fact operations facts r) ≡ Some offsets
        → IsAtOffset offsets (register s r)
    told_at r offsets told = sound.offsets (fact operations facts r) offsets (register s r) told (word_of sound facts s are is meets r)

    any_loaded : (size : Size) (src : ℕ) (offset : ℤ)
        → contains (operations.loaded size) (loaded s.memory (address_from s.registers src offset) (size_of size))
    any_loaded size src offset =
        let address = address_from s.registers src offset in
        sound.loaded size (loaded s.memory address (size_of size)) (loads_fit s.memory address (size_of size) is.memory)

    module _ (src : ℕ) (offset : ℤ) (near : FitsSigned w16 offset) where
      abbrev eight : ℕ
      eight = loaded s.memory (address_from s.registers src offset) 8

      cell_belongs : (cell : Option ℕ) (d : D) → cell_at operations facts src offset ≡ cell → known_in facts.cells cell ≡ Some d
          → contains d eight
      cell_belongs (Some j) d here known =
          let same = cell_loaded s.memory is.memory (operations.offsets (fact operations facts src)) offset j (register s src)
          (is.words src) near (told_at src) here in
          rw same (meets.cells j d known)
      cell_belongs None d here known = cc

      word_belongs : (o : Option D) → known_in facts.cells (cell_at operations facts src offset) ≡ o
          → contains (unwrap_or o (operations.loaded DoubleWord)) eight
      word_belongs (Some d) known = cell_belongs (cell_at operations facts src offset) d refl known
      word_belongs None known = any_loaded DoubleWord src offset

      load_belongs : (size : Size)
          → contains (loaded_fact operations facts size src offset)
          (loaded s.memory (address_from s.registers src offset) (size_of size))
      load_belongs DoubleWord = word_belongs (known_in facts.cells (cell_at operations facts src offset)) refl
      load_belongs Word = any_loaded Word src offset
      load_belongs HalfWord = any_loaded HalfWord src offset
      load_belongs Byte = any_loaded Byte src offset

    module _ (size : Size) (dst : ℕ) (offset : ℤ) (near : FitsSigned w16 offset) (word slot : ℕ) (small : word < 2 ^ 64)
        (keeps : Option D) (is_kept : (d : D) → keeps ≡ Some d → (size ≡ DoubleWord) × contains d word) where
      abbrev address : ℕ
      address = address_from s.registers dst offset

      abbrev told : Option Offsets
      told = operations.offsets (fact operations facts dst)

      -- the state after the store
      abbrev then_at : State
      then_at = record s { memory = stored s.memory address size word; slot = slot }

      abbrev known_after : Option Area → Facts D
      known_after area =
          if enters_stack area
          then record facts {
            cells = filled (cell_of told offset) keeps facts.cells (overwritten told offset (size_of size) facts.cells);
          }
          else facts

      lies : (area : Area) → area_of operations block facts dst offset (size_of size) ≡ Some area
          → lies_in (length s.memory.block) area address (size_of size) ≡ true
      lies area e = rw long
          (sound.access block (fact operations facts dst) offset (size_of size) area (register s dst)
          (record { beside = is_size; near = near; counted = size_fits size }) e (word_of sound facts s are is meets dst))

      outside_stack : (area : Area) → is_stack area ≡ false → area_of operations block facts dst offset (size_of size) ≡ Some area
          → Meets contains facts then_at
      outside_stack area other e = record {
        registers = meets.registers;
        cells = rw (stack_stays s.memory is.memory address size word area other (lies area e)) meets.cells;
        group = meets.group;
        sum = meets.sum;
        fit = meets.fit;
      }

      inside_stack : area_of operations block facts dst offset (size_of size) ≡ Some Stack
          → Meets contains (known_after (Some Stack)) then_at
      inside_stack e = record {
        registers = meets.registers;
        cells = rw (stack_written s.memory is.memory address size word (lies Stack e))
            (stored_belong contains s.memory.stack size word small (register s dst) told offset (is.memory.lengths Stack) (is.words dst)
            near (told_at dst) (in_stack (length s.memory.block) address (size_of size) (lies Stack e)) facts.cells meets.cells keeps is_kept);
        group = meets.group;
        sum = meets.sum;
        fit = meets.fit;
      }

      by_area : (o : Option Area) → area_of operations block facts dst offset (size_of size) ≡ o → is_unwritable o ≡ false
          → Meets contains (known_after o) then_at
      by_area (Some Stack) e writable = inside_stack e
      by_area (Some Scratch) e writable = outside_stack Scratch refl e
      by_area (Some Context) e writable = cc
      by_area (Some Block) e writable = cc
      by_area None e writable = cc

      store_meets : is_unwritable (area_of operations block facts dst offset (size_of size)) ≡ false
          → Meets contains (after_store operations block facts size dst offset keeps) then_at
      store_meets writable = by_area _ refl writable

    -- a kept word is a whole one
    kept_belongs : (size : Size) (src : ℕ) (d : D) → kept_fact operations facts size src ≡ Some d
        → (size ≡ DoubleWord) × contains d (register s src)
    kept_belongs DoubleWord src d e =
        let from = if_some (nat_le 1 src && nat_le src 9) (Some (fact operations facts src)) d e in
        let same : fact operations facts src ≡ d = cc in
        (refl, subst (λ x. contains x (register s src)) same (word_of sound facts s are is meets src).within)
    kept_belongs Byte src d e = cc
    kept_belongs HalfWord src d e = cc
    kept_belongs Word src d e = cc

    -- ---- the instructions

    branches : (width : Width) (relation : Relation) (dst : ℕ) (source : Source) (distance : ℤ) (taken : Bool)
        → goes_back (Some distance) ≡ false
        → is_taken width relation (register s dst) (operand s.registers source) ≡ taken
        → Moved contains operations block (Branch width relation dst source distance) facts s
        (after s (Branch width relation dst source distance))
    branches width relation dst source distance true forth answer =
        ahead (Branch width relation dst source distance) distance refl forth
        (ap (λ (t : Bool). cond t (target s.slot distance) (pos (s.slot + 1))) answer)
        (along_meets true width relation dst source _ answer)
    branches width relation dst source distance false forth answer =
        behind (Branch width relation dst source distance)
        (ap (λ (t : Bool). cond t (target s.slot distance) (pos (s.slot + 1))) answer)
        (along_meets false width relation dst source _ answer)

    -- the greatest address of a register that is known to have one
    below_greatest : (r n : ℕ) (told : Option Offsets) → option_map (λ told. greatest operations facts r) told ≡ Some n → register s r ≤ n
    below_greatest r n (Some told) e =
        let same : greatest operations facts r ≡ n = cc in
        let most = sound.bounds (fact operations facts r) (register s r) (word_of sound facts s are is meets r) in
        omega (arith, same, most)
    below_greatest r n None e = cc

    arithmetic_makes : (width : Width) (operation : Operation) (dst : ℕ) (source : Source) → dst < REGISTERS
        → Makes (Arithmetic width operation dst source)
        (set s.registers dst (computed (word.Binary width operation) (register s dst) (operand s.registers source)))
    arithmetic_makes width operation dst source into =
        let inside : dst < length s.registers = omega (arith, into, is.eleven) in (
          computed_has s.registers dst inside is.words width operation source facts.sum meets.sum,
          made_within _ facts.fit s.registers _ meets.fit
              (λ f within. computed_fits s.registers dst inside is.words (greatest_address operations facts dst)
              (λ n e. below_greatest dst n (operations.offsets (fact operations facts dst)) e) width operation source
              (source_belongs sound facts s.registers are is.words meets.registers source).word f within),
        )

    moves : (i : Instruction) → FitsSigned w16 (first_slot i).offset → (first_slot i).dst < REGISTERS → is_exit i ≡ false
        → goes_back (distance_of i) ≡ false → stores_outside operations block facts (access_of i) ≡ false → Moved contains operations block i facts s (after s i)
    moves (LoadImmediate dst value) near into goes forth inside =
        behind (LoadImmediate dst value) refl
        (put_meets (LoadImmediate dst value) dst _ _ _ (sound.constant (value % 2 ^ 64) (mod-lt value (lit< tt)))
        (others_left s.registers dst _) (tt, makes_none _ facts.fit))
    moves (Load size dst src offset) near into goes forth inside =
        behind (Load size dst src offset) refl (put_meets (Load size dst src offset) dst _ _ _ (load_belongs src offset near size)
        (others_left s.registers dst _) (tt, makes_none _ facts.fit))
    moves (LoadSigned size dst src offset) near into goes forth inside =
        behind (LoadSigned size dst src offset) refl
        (put_meets (LoadSigned size dst src offset) dst _ _ _
        (sound.loaded_signed size (loaded s.memory (address_from s.registers src offset) (signed_size_of size))
        (loads_fit s.memory (address_from s.registers src offset) (signed_size_of size) is.memory))
        (others_left s.registers dst _) (tt, makes_none _ facts.fit))
    moves (StoreImmediate size dst offset value) near into goes forth inside =
        behind (StoreImmediate size dst offset value) refl
        (store_meets size dst offset near (immediate_word value) _ (immediate_fits value) None (λ d e. cc) inside)
    moves (StoreRegister size dst src offset) near into goes forth inside =
        behind (StoreRegister size dst src offset) refl
        (store_meets size dst offset near (register s src) _ (is.words src) (kept_fact operations facts size src)
        (λ d e. kept_belongs size src d e) inside)
    moves (Arithmetic width operation dst source) near into goes forth inside =
        behind (Arithmetic width operation dst source) refl
        (put_meets (Arithmetic width operation dst source) dst _ _ _
        (sound.alu (word.Binary width operation) _ _ (register s dst) (operand s.registers source) (word_of sound facts s are is meets dst)
        (source_belongs sound facts s.registers are is.words meets.registers source))
        (others_left s.registers dst _) (arithmetic_makes width operation dst source into))
    moves (Negate width dst) near into goes forth inside =
        behind (Negate width dst) refl
        (put_meets (Negate width dst) dst _ _ _
        (sound.alu (word.Negate width) _ _ (register s dst) 0 (word_of sound facts s are is meets dst) zero_is)
        (others_left s.registers dst _) (tt, makes_none _ facts.fit))
    moves (MoveSigned extension dst src) near into goes forth inside =
        behind (MoveSigned extension dst src) refl
        (put_meets (MoveSigned extension dst src) dst _ _ _
        (sound.alu (word.MoveSigned extension) _ _ 0 (register s src) zero_is (word_of sound facts s are is meets src))
        (others_left s.registers dst _) (tt, makes_none _ facts.fit))
    moves (SwapBytes swap size dst) near into goes forth inside =
        behind (SwapBytes swap size dst) refl
        (put_meets (SwapBytes swap size dst) dst _ _ _
        (sound.alu (word.SwapBytes swap size) _ _ (register s dst) 0 (word_of sound facts s are is meets dst) zero_is)
        (others_left s.registers dst _) (tt, makes_none _ facts.fit))
    moves (Jump distance) near into goes forth inside =
        ahead (Jump distance) distance refl forth refl (elsewhere _)
    moves (JumpLong distance) near into goes forth inside =
        ahead (JumpLong distance) distance refl forth refl (elsewhere _)
    moves (Branch width relation dst source distance) near into goes forth inside =
        branches width relation dst source distance _ forth refl
    moves (Call helper) near into goes forth inside = behind (Call helper) refl (emit_meets helper _)
    moves Exit near into goes forth inside = cc

  -- the theorem; of the reasons to refuse, a jump back and a store outside bear on it
  pub moved : (program : List (Option Instruction)) (sizes : Sizes) (i : Instruction) (facts : Facts D) (s : State)
      → AreSizes sizes → IsState s → length s.memory.block ≡ sizes.block → AreFacts IsFact facts → Meets contains facts s
      → FitsSigned w16 (first_slot i).offset → (first_slot i).dst < REGISTERS → is_exit i ≡ false
      → ((r : Reason) → fails operations program sizes s.slot facts i r ≡ false)
      → Moved contains operations sizes.block i facts s (after s i)
  moved program sizes i facts s are_sizes is long are meets near into goes passed =
      moves sizes.block facts s are_sizes.block_size is long are meets i near into goes (passed reason.JumpBack)
      (passed reason.StoreOutside)
