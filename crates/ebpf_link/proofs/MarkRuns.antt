-- Block runs in which a guard has led to what writes its mark.
use Rattle.std.proofs.Common.{ℕ, ℤ, zero, suc, pos, ◌≡◌, ◌≢◌, ◌∙◌, ◌+◌, ◌-◌, ◌*◌, ◌/◌, ◌%◌, ◌^◌, ◌<◌, ◌≤◌, Bool, true, false, cond, List, [], ◌∷◌, ◌++◌, length, take, drop, get_or, Option, Some, None, refl, sym, ap, subst, append_assoc, arith}
use Rattle.std.proofs.Math.IntN.{pos-*ℤ-pos}
use Rattle.std.proofs.Math.Nat.{mod-eq_of_lt}
use Rattle.std.proofs.Math.Seq.{drop-append_seam, drop-append-add, take-append_seam}
use Rattle.std.proofs.lemmas.Bool.Decides.{nat_tests}
use Rattle.std.proofs.lemmas.List.{length-append, length-drop, length-take-le, take-append-drop}
use Rattle.std.proofs.lemmas.Nat.{and_mask}
use Rattle.std.specs.Int.{cast_unsigned, w64}
use Rattle.std.specs.Option.{option_flatten, option_map}
use Rattle.std.specs.Prelude.{IsSome, bit_and, find, is_none, is_some, map, min, nat_le, nat_lt, slice_get, ◌&&◌, ◌+ℤ◌, ◌==◌, ◌||◌}
use Rattle.byteorder.specs.Endian.{little_bytes, little_number}
use Rattle.byteorder.specs.Numbers.{length-bytes_low_first, little_number-reads_back}
use Rattle.common_definitions.specs.Bytes.{spliced}
use Rattle.instruction_set.specs.Instruction.{immediate_word}
use Rattle.instruction_set.specs.declared.instruction.Instruction.{Instruction}
use Rattle.instruction_set.specs.declared.instruction.Instruction.TheVariants as op
use Rattle.instruction_set.specs.declared.instruction.Source.TheVariants.{Immediate, Register}
use Rattle.instruction_set.specs.declared.operation.Operation.TheVariants.{Add, And, Move, RightShift}
use Rattle.instruction_set.specs.declared.operation.Size.TheVariants.{DoubleWord, Word}
use Rattle.instruction_set.specs.declared.operation.Width.TheVariants.{Bits64}
use Rattle.link_notes.specs.Ended.{ended_of}
use Rattle.program_interface.specs.Area.{address_of}
use Rattle.program_interface.specs.declared.area.Area.TheVariants.{Context, Scratch}
use Rattle.program_meaning.proofs.Proved.{areas_are_apart, loads_fit}
use Rattle.program_meaning.specs.BlockRun.{BlockRun, block_run_of, continued, ran}
use Rattle.program_meaning.specs.Cause.{causes, hinders, is_exit, least_cause, next_slot}
use Rattle.program_meaning.specs.steps.Causes.{causes_of_effect}
use Rattle.program_meaning.specs.Effect.{address_from, effect, register}
use Rattle.program_meaning.specs.Memory.{area_offset_of, lies_in, loaded, stored_at}
use Rattle.program_meaning.specs.State.{IsState, State}
use Rattle.program_meaning.specs.Step.{Ends, Goes, StepEnd, after, decided, step_at, step_of}
use Rattle.program_meaning.specs.declared.area_offset.AreaOffset.{AreaOffset}
use Rattle.program_meaning.specs.declared.cause.Cause.{Cause}
use Rattle.program_meaning.specs.declared.cause.Cause.TheVariants.{NextInsideWide, NextOutside}
use Rattle.program_meaning.specs.declared.end.End.TheVariants as end
use Rattle.ebpf_link.specs.Guards.{guard_word}
use Rattle.ebpf_link.specs.Marking.{EndsMarked, GuardsLeaveTheirMarks, IsLedByGuard}
use Rattle.ebpf_link.specs.Marks.{mark_end, mark_word}
use Rattle.ebpf_link.specs.declared.guards.Guard.{Guard}
use Rattle.ebpf_link.specs.declared.guards.Guard.TheVariants as kind

-- ---- steps that go on
find_past : {X : Type 0} (p : X → Bool) (x : X) (xs : List X) → p x ≡ false → find p (x ∷ xs) ≡ find p xs
find_past p x xs stays = rw stays refl

goes_on : (s : State) (i : Instruction) → is_exit i ≡ false → decided s i None ≡ Goes (after s i)
goes_on s i stays = rw stays refl

-- one step, at an instruction that nothing hinders and that doesn't jump, to the one behind it
goes : (program : List (Option Instruction)) (limit fuel n : ℕ) (s : State) (i next : Instruction)
    → slice_get program s.slot ≡ Some (Some i) → slice_get program (s.slot + 1) ≡ Some (Some next)
    → next_slot s.slot s.registers i ≡ pos (s.slot + 1) → is_exit i ≡ false
    → find (hinders program limit s i) causes_of_effect ≡ None
    → block_run_of program limit (suc fuel) n s ≡ block_run_of program limit fuel (n + 1) (after s i)
unfolding block_run_of
goes program limit fuel n s i next here there leads stays none =
    let outside : hinders program limit s i NextOutside ≡ false = rw (stays, leads, there) refl in
    let inside : hinders program limit s i NextInsideWide ≡ false = rw (stays, leads, there) refl in
    let cause : least_cause program limit s i ≡ None =
    find_past (hinders program limit s i) NextOutside (NextInsideWide ∷ causes_of_effect) outside
    ∙ find_past (hinders program limit s i) NextInsideWide causes_of_effect inside ∙ none in
    let step : step_at program limit s (option_flatten (slice_get program s.slot)) ≡ Some (Goes (after s i)) =
    ap (λ (o : Option (Option Instruction)). step_at program limit s (option_flatten o)) here
    ∙ ap (λ (o : Option Cause). Some (decided s i o)) cause ∙ ap (λ (e : StepEnd). Some e) (goes_on s i stays) in
    ap (λ (o : Option StepEnd). continued n s (λ next. block_run_of program limit fuel (n + 1) next) o) step

-- where a block run is over
ends : (program : List (Option Instruction)) (limit fuel n : ℕ) (s : State) → slice_get program s.slot ≡ Some (Some op.Exit)
    → block_run_of program limit (suc fuel) n s ≡ ran (end.Exit (register s 0)) (n + 1) s
unfolding block_run_of
ends program limit fuel n s here =
    ap (λ (o : Option (Option Instruction)). continued n s (λ next. block_run_of program limit fuel (n + 1) next)
    (step_at program limit s (option_flatten o))) here

some_is_not_none : {X : Type 0} (o : Option X) → IsSome o → is_none o ≡ false
some_is_not_none None is = cc
some_is_not_none (Some x) is = refl

-- ---- the instructions of a mark
module _ (program : List (Option Instruction)) (limit : ℕ) (s : State) (tail : List ℕ) where
  -- a state of the block run: three registers and scratch change
  st : ℕ → ℕ → ℕ → ℕ → List ℕ → State
  st p r0 r1 r2 bytes = record s { slot = p; registers = r0 ∷ r1 ∷ r2 ∷ tail; memory = record s.memory { scratch = bytes } }

  run : ℕ → ℕ → State → BlockRun
  run fuel n t = block_run_of program limit fuel n t

  At : ℕ → Instruction → Type 0
  At p i = slice_get program p ≡ Some (Some i)

  arithmetic_kept : (fuel n p r0 r1 r2 : ℕ) (bytes : List ℕ) (next : Instruction)
      → At p (op.Arithmetic Bits64 Move 1 (Register 0)) → At (p + 1) next
      → run (suc fuel) n (st p r0 r1 r2 bytes) ≡ run fuel (n + 1) (st (p + 1) r0 r0 r2 bytes)
  unfolding st run At
  arithmetic_kept fuel n p r0 r1 r2 bytes next here there = goes program limit fuel n (st p r0 r1 r2 bytes) _ next here there refl refl refl

  masked : (fuel n p r0 r1 r2 bits : ℕ) (bytes : List ℕ) (next : Instruction)
      → At p (op.Arithmetic Bits64 And 1 (Immediate (pos bits))) → At (p + 1) next
      → run (suc fuel) n (st p r0 r1 r2 bytes) ≡ run fuel (n + 1) (st (p + 1) r0 (bit_and r1 (bits % 2 ^ 64)) r2 bytes)
  unfolding st run At
  masked fuel n p r0 r1 r2 bits bytes next here there = goes program limit fuel n (st p r0 r1 r2 bytes) _ next here there refl refl refl

  cut_16 : (fuel n p r0 r1 r2 : ℕ) (bytes : List ℕ) (next : Instruction)
      → At p (op.Arithmetic Bits64 RightShift 0 (Immediate (pos 16))) → At (p + 1) next
      → run (suc fuel) n (st p r0 r1 r2 bytes) ≡ run fuel (n + 1) (st (p + 1) (r0 / 65536) r1 r2 bytes)
  unfolding st run At
  cut_16 fuel n p r0 r1 r2 bytes next here there = goes program limit fuel n (st p r0 r1 r2 bytes) _ next here there refl refl refl

  cut_12 : (fuel n p r0 r1 r2 : ℕ) (bytes : List ℕ) (next : Instruction)
      → At p (op.Arithmetic Bits64 RightShift 0 (Immediate (pos 12))) → At (p + 1) next
      → run (suc fuel) n (st p r0 r1 r2 bytes) ≡ run fuel (n + 1) (st (p + 1) (r0 / 4096) r1 r2 bytes)
  unfolding st run At
  cut_12 fuel n p r0 r1 r2 bytes next here there = goes program limit fuel n (st p r0 r1 r2 bytes) _ next here there refl refl refl

  added : (fuel n p r0 r1 r2 : ℕ) (bytes : List ℕ) (next : Instruction)
      → At p (op.Arithmetic Bits64 Add 0 (Immediate (pos 0x7000))) → At (p + 1) next
      → run (suc fuel) n (st p r0 r1 r2 bytes) ≡ run fuel (n + 1) (st (p + 1) ((r0 + 0x7000) % 2 ^ 64) r1 r2 bytes)
  unfolding st run At
  added fuel n p r0 r1 r2 bytes next here there = goes program limit fuel n (st p r0 r1 r2 bytes) _ next here there refl refl refl

  -- eight bytes below the stack's end into R1, and into R2
  cell_to_1 : (fuel n p r0 r1 r2 word : ℕ) (bytes : List ℕ) (offset : ℤ) (next : Instruction)
      → At p (op.Load DoubleWord 1 10 offset) → At (p + 1) next
      → IsSome (area_offset_of (length s.memory.block) (address_from (r0 ∷ r1 ∷ r2 ∷ tail) 10 offset) 8)
      → loaded (record s.memory { scratch = bytes }) (address_from (r0 ∷ r1 ∷ r2 ∷ tail) 10 offset) 8 ≡ word
      → run (suc fuel) n (st p r0 r1 r2 bytes) ≡ run fuel (n + 1) (st (p + 1) r0 word r2 bytes)
  unfolding st run At
  cell_to_1 fuel n p r0 r1 r2 word bytes offset next here there lies has =
      let some = some_is_not_none _ lies in
      goes program limit fuel n (st p r0 r1 r2 bytes) _ next here there refl refl (rw some refl)
      ∙ ap (λ (w : ℕ). run fuel (n + 1) (st (p + 1) r0 w r2 bytes)) has

  cell_to_2 : (fuel n p r0 r1 r2 word : ℕ) (bytes : List ℕ) (offset : ℤ) (next : Instruction)
      → At p (op.Load DoubleWord 2 10 offset) → At (p + 1) next
      → IsSome (area_offset_of (length s.memory.block) (address_from (r0 ∷ r1 ∷ r2 ∷ tail) 10 offset) 8)
      → loaded (record s.memory { scratch = bytes }) (address_from (r0 ∷ r1 ∷ r2 ∷ tail) 10 offset) 8 ≡ word
      → run (suc fuel) n (st p r0 r1 r2 bytes) ≡ run fuel (n + 1) (st (p + 1) r0 r1 word bytes)
  unfolding st run At
  cell_to_2 fuel n p r0 r1 r2 word bytes offset next here there lies has =
      let some = some_is_not_none _ lies in
      goes program limit fuel n (st p r0 r1 r2 bytes) _ next here there refl refl (rw some refl)
      ∙ ap (λ (w : ℕ). run fuel (n + 1) (st (p + 1) r0 r1 w bytes)) has

  -- the block's index, from the context
  index : (fuel n p r0 r2 : ℕ) (bytes : List ℕ) (next : Instruction) → At p (op.Load Word 1 1 (pos 8)) → At (p + 1) next
      → run (suc fuel) n (st p r0 (address_of Context) r2 bytes)
      ≡ run fuel (n + 1) (st (p + 1) r0 (loaded s.memory (address_of Context + 8) 4) r2 bytes)
  unfolding st run At
  index fuel n p r0 r2 bytes next here there =
      goes program limit fuel n (st p r0 (address_of Context) r2 bytes) _ next here there refl refl refl

  -- R1 into scratch, whose address R2 has
  wide_stored : (fuel n p r0 r1 at : ℕ) (bytes : List ℕ) (offset : ℤ) (next : Instruction)
      → At p (op.StoreRegister DoubleWord 2 1 offset) → At (p + 1) next
      → area_offset_of (length s.memory.block) ((address_of Scratch + cast_unsigned w64 offset) % 2 ^ 64) 8
      ≡ Some (record { area = Scratch; offset = at })
      → run (suc fuel) n (st p r0 r1 (address_of Scratch) bytes)
      ≡ run fuel (n + 1) (st (p + 1) r0 r1 (address_of Scratch) (spliced at (little_bytes 8 r1) bytes))
  unfolding st run At
  wide_stored fuel n p r0 r1 at bytes offset next here there lies =
      goes program limit fuel n (st p r0 r1 (address_of Scratch) bytes) _ next here there refl refl (rw lies refl)
      ∙ ap (λ (o : Option AreaOffset). run fuel (n + 1) (record (st p r0 r1 (address_of Scratch) bytes) {
        slot = p + 1;
        memory = stored_at (record s.memory { scratch = bytes }) o (little_bytes 8 r1);
      })) lies

  word_stored : (fuel n p r0 r1 at : ℕ) (bytes : List ℕ) (offset : ℤ) (next : Instruction)
      → At p (op.StoreRegister Word 2 1 offset) → At (p + 1) next
      → area_offset_of (length s.memory.block) ((address_of Scratch + cast_unsigned w64 offset) % 2 ^ 64) 4
      ≡ Some (record { area = Scratch; offset = at })
      → run (suc fuel) n (st p r0 r1 (address_of Scratch) bytes)
      ≡ run fuel (n + 1) (st (p + 1) r0 r1 (address_of Scratch) (spliced at (little_bytes 4 (r1 % 2 ^ 32)) bytes))
  unfolding st run At
  word_stored fuel n p r0 r1 at bytes offset next here there lies =
      goes program limit fuel n (st p r0 r1 (address_of Scratch) bytes) _ next here there refl refl (rw lies refl)
      ∙ ap (λ (o : Option AreaOffset). run fuel (n + 1) (record (st p r0 r1 (address_of Scratch) bytes) {
        slot = p + 1;
        memory = stored_at (record s.memory { scratch = bytes }) o (little_bytes 4 (r1 % 2 ^ 32));
      })) lies

  over : (fuel n p r0 r1 r2 : ℕ) (bytes : List ℕ) → At p op.Exit
      → run (suc fuel) n (st p r0 r1 r2 bytes) ≡ ran (end.Exit r0) (n + 1) (st p r0 r1 r2 bytes)
  unfolding st run At
  over fuel n p r0 r1 r2 bytes here = ends program limit fuel n (st p r0 r1 r2 bytes) here

-- ---- where they stand
placed : {X : Type 0} (xs ys : List X) (k : ℕ) → slice_get (xs ++ ys) (length xs + k) ≡ slice_get ys k
placed [] ys k = let same : 0 + k ≡ k = omega arith in rw same refl
placed (x ∷ xs) ys k = let same : suc (length xs) + k ≡ suc (length xs + k) = omega arith in rw same (placed xs ys k)

at_slot : {X : Type 0} (xs ys : List X) (p k : ℕ) → p ≡ length xs + k → slice_get (xs ++ ys) p ≡ slice_get ys k
at_slot xs ys p k is = rw is (placed xs ys k)

-- some bytes of scratch
in_scratch : (block near at n : ℕ) → block < 2 ^ 32 → near ≡ at → at + n ≤ 1024
    → area_offset_of block ((address_of Scratch + near) % 2 ^ 64) n ≡ Some (record { area = Scratch; offset = at })
in_scratch block near at n fits is inside =
    let whole : (address_of Scratch + near) % 2 ^ 64 ≡ address_of Scratch + at = omega (arith, is) in
    let lies : lies_in block Scratch (address_of Scratch + at) n ≡ true = grind (arith, nat_tests) in
    let far : address_of Scratch + at - address_of Scratch ≡ at = omega arith in
    let found : ℕ → Option AreaOffset = λ k. Some (record { area = Scratch; offset = k }) in
    rw whole (areas_are_apart block Scratch (address_of Scratch + at) n fits lies ∙ ap found far)

-- ---- the words
kind_of : Guard → ℕ
kind_of kind.Memory = 1
kind_of kind.Emit = 2
kind_of kind.Block = 3
kind_of kind.Rounds = 4

word_of : ℕ → ℕ → ℕ → ℕ
word_of which slot number = which * 0x10000000 + slot * 0x10000 + number

told_word : (guard : Guard) (slot number : ℕ) → slot < 2 ^ 12 → number < 2 ^ 16
    → immediate_word (mark_word guard slot number) ≡ word_of (kind_of guard) slot number
unfolding kind_of word_of
told_word kind.Memory slot number few small = omega arith
told_word kind.Emit slot number few small = omega arith
told_word kind.Block slot number few small = omega arith
told_word kind.Rounds slot number few small = omega arith

number_is : (which slot number : ℕ) → number < 2 ^ 16 → bit_and (word_of which slot number) (0xffff % 2 ^ 64) % 2 ^ 32 ≡ number
unfolding word_of
number_is which slot number small =
    let low = and_mask (which * 0x10000000 + slot * 0x10000 + number) 16 in
    rw low (omega arith)

slot_is : (which slot number : ℕ) → slot < 2 ^ 12 → number < 2 ^ 16
    → bit_and (word_of which slot number / 65536) (0xfff % 2 ^ 64) % 2 ^ 32 ≡ slot
unfolding word_of
slot_is which slot number few small =
    let low = and_mask ((which * 0x10000000 + slot * 0x10000 + number) / 65536) 12 in
    rw low (omega arith)

which_is : (which slot number : ℕ) → slot < 2 ^ 12 → number < 2 ^ 16 → word_of which slot number / 65536 / 4096 ≡ which
unfolding word_of
which_is which slot number few small = omega arith

end_word : (guard : Guard) → (kind_of guard + 0x7000) % 2 ^ 64 ≡ immediate_word (guard_word guard)
unfolding kind_of
end_word kind.Memory = refl
end_word kind.Emit = refl
end_word kind.Block = refl
end_word kind.Rounds = refl

-- ---- the bytes
put_in : (a b c new : List ℕ) (at : ℕ) → length a ≡ at → length b ≡ length new → spliced at new (a ++ (b ++ c)) ≡ a ++ (new ++ c)
put_in a b c new at long same =
    let front : take at (a ++ (b ++ c)) ≡ a = rw (← long) (take-append_seam a (b ++ c)) in
    let behind : drop (at + length new) (a ++ (b ++ c)) ≡ c =
    rw (← long, ← same) (drop-append-add a (b ++ c) (length b) ∙ drop-append_seam b c) in
    rw (front, behind) refl

-- four bytes, four and eight, behind others
record AreParts (a n s i : List ℕ) (at : ℕ) : Type 0 where
  front : length a ≡ at
  first : length n ≡ 4
  second : length s ≡ 4
  third : length i ≡ 8

all_put : (a n s i rest n' s' i' : List ℕ) (at : ℕ) → AreParts a n s i at → AreParts a n' s' i' at
    → spliced (at + 4) s' (spliced at n' (spliced (at + 8) i' (a ++ (n ++ (s ++ (i ++ rest)))))) ≡ a ++ (n' ++ (s' ++ (i' ++ rest)))
all_put a n s i rest n' s' i' at old new =
    let assoc : a ++ (n ++ (s ++ (i ++ rest))) ≡ (a ++ (n ++ s)) ++ (i ++ rest) = simp append_assoc in
    let assoc' : a ++ (n' ++ (s ++ (i' ++ rest))) ≡ (a ++ n') ++ (s ++ (i' ++ rest)) = simp append_assoc in
    let one : spliced (at + 8) i' (a ++ (n ++ (s ++ (i ++ rest)))) ≡ a ++ (n ++ (s ++ (i' ++ rest))) =
    ap (λ (x : List ℕ). spliced (at + 8) i' x) assoc
    ∙ (put_in (a ++ (n ++ s)) i rest i' (at + 8)
    (simp length-append (omega (arith, old.front, old.first, old.second))) (old.third ∙ sym new.third) ∙ simp append_assoc) in
    let two : spliced at n' (a ++ (n ++ (s ++ (i' ++ rest)))) ≡ a ++ (n' ++ (s ++ (i' ++ rest))) =
    put_in a n (s ++ (i' ++ rest)) n' at old.front (old.first ∙ sym new.first) in
    let three : spliced (at + 4) s' (a ++ (n' ++ (s ++ (i' ++ rest)))) ≡ a ++ (n' ++ (s' ++ (i' ++ rest))) =
    ap (λ (x : List ℕ). spliced (at + 4) s' x) assoc'
    ∙ (put_in (a ++ n') s (i' ++ rest) s' (at + 4)
    (simp length-append (omega (arith, old.front, new.first))) (old.second ∙ sym new.second) ∙ simp append_assoc) in
    ap (λ (x : List ℕ). spliced (at + 4) s' (spliced at n' x)) one ∙ (ap (λ (x : List ℕ). spliced (at + 4) s' x) two ∙ three)

behind_all : (a n s i rest : List ℕ) (at : ℕ) → AreParts a n s i at → drop (at + 16) (a ++ (n ++ (s ++ (i ++ rest)))) ≡ rest
behind_all a n s i rest at old =
    let assoc : a ++ (n ++ (s ++ (i ++ rest))) ≡ (a ++ (n ++ (s ++ i))) ++ rest = simp append_assoc in
    let long : at + 16 ≡ length (a ++ (n ++ (s ++ i))) =
    simp length-append (omega (arith, old.front, old.first, old.second, old.third)) in
    rw (assoc, long) (drop-append_seam (a ++ (n ++ (s ++ i))) rest)

in_parts : (bytes : List ℕ) (at : ℕ) → bytes ≡ take at bytes ++ (take 4 (drop at bytes)
    ++ (take 4 (drop 4 (drop at bytes)) ++ (take 8 (drop 4 (drop 4 (drop at bytes))) ++ drop 8 (drop 4 (drop 4 (drop at bytes))))))
in_parts bytes at =
    let r = drop at bytes in
    sym (ap (λ (x : List ℕ). take at bytes ++ (take 4 r ++ (take 4 (drop 4 r) ++ x))) (take-append-drop 8 (drop 4 (drop 4 r)))
    ∙ (ap (λ (x : List ℕ). take at bytes ++ (take 4 r ++ x)) (take-append-drop 4 (drop 4 r))
    ∙ (ap (λ (x : List ℕ). take at bytes ++ x) (take-append-drop 4 r) ∙ take-append-drop at bytes)))

are_parts : (bytes : List ℕ) (at : ℕ) → at + 16 ≤ length bytes
    → AreParts (take at bytes) (take 4 (drop at bytes)) (take 4 (drop 4 (drop at bytes))) (take 8 (drop 4 (drop 4 (drop at bytes)))) at
are_parts bytes at fits =
    let far = length-drop at bytes in
    let far' = length-drop 4 (drop at bytes) in
    let far'' = length-drop 4 (drop 4 (drop at bytes)) in
    record {
      front = length-take-le at bytes (omega arith);
      first = length-take-le 4 (drop at bytes) (omega arith);
      second = length-take-le 4 (drop 4 (drop at bytes)) (omega arith);
      third = length-take-le 8 (drop 4 (drop 4 (drop at bytes))) (omega arith);
    }

-- what they spell
spelled : (number slot block : ℕ) (rest : List ℕ) → 0 < number → number < 2 ^ 32 → slot < 2 ^ 32 → block < 2 ^ 64
    → ended_of (little_bytes 4 number ++ (little_bytes 4 slot ++ (little_bytes 8 block ++ rest)))
    ≡ Some (record { number = number; slot = slot; block = block })
spelled number slot block rest some one two three =
    let n = little_bytes 4 number in
    let s = little_bytes 4 slot in
    let i = little_bytes 8 block in
    let written = n ++ (s ++ (i ++ rest)) in
    let n_long : length n ≡ 4 = length-bytes_low_first 0 4 number in
    let s_long : length s ≡ 4 = length-bytes_low_first 0 4 slot in
    let i_long : length i ≡ 8 = length-bytes_low_first 0 8 block in
    let number_read : little_number 4 written ≡ number = little_number-reads_back 4 number (s ++ (i ++ rest)) one in
    let past_n : drop 4 written ≡ s ++ (i ++ rest) = drop-append_seam n (s ++ (i ++ rest)) in
    let slot_read : little_number 4 (drop 4 written) ≡ slot = ap (λ (x : List ℕ). little_number 4 x) past_n ∙ little_number-reads_back 4 slot (i ++ rest) two in
    let past_s : drop 8 written ≡ i ++ rest = drop-append_seam (n ++ s) (i ++ rest) in
    let block_read : little_number 8 (drop 8 written) ≡ block = ap (λ (x : List ℕ). little_number 8 x) past_s ∙ little_number-reads_back 8 block rest three in
    let long : length written ≡ 16 + length rest = simp length-append (omega (arith, n_long, s_long, i_long)) in
    let enough : nat_lt (length written) 16 ≡ false = grind (arith, nat_tests, long) in
    let is_one : (little_number 4 written == 0) ≡ false = rw number_read (grind (arith, nat_tests)) in
    rw (enough, is_one, number_read, slot_read, block_read) refl

-- ---- the whole run
record HasThree (registers : List ℕ) : Type 0 where
  r0 : ℕ
  r1 : ℕ
  r2 : ℕ
  tail : List ℕ
  are : registers ≡ r0 ∷ r1 ∷ r2 ∷ tail

three : (registers : List ℕ) → length registers ≡ 11 → HasThree registers
three [] long = absurd (omega (arith, long))
three (a ∷ []) long = absurd (omega (arith, long))
three (a ∷ b ∷ []) long = absurd (omega (arith, long))
three (a ∷ b ∷ c ∷ rest) long = record { r0 = a; r1 = b; r2 = c; tail = rest; are = refl }

-- scratch, where its bytes from one on are a mark
marked_bytes : ℕ → ℕ → ℕ → List ℕ → List ℕ
marked_bytes at word block bytes =
    spliced (at + 4) (little_bytes 4 (bit_and (word / 65536) (0xfff % 2 ^ 64) % 2 ^ 32))
    (spliced at (little_bytes 4 (bit_and word (0xffff % 2 ^ 64) % 2 ^ 32)) (spliced (at + 8) (little_bytes 8 block) bytes))

record IsOver (s : State) (word at : ℕ) (run : BlockRun) : Type 0 where
  exits : run.end ≡ end.Exit ((word / 65536 / 4096 + 0x7000) % 2 ^ 64)
  bytes : run.state.memory.scratch ≡ marked_bytes at word (loaded s.memory (address_of Context + 8) 4) s.memory.scratch
  group : run.state.group ≡ s.group

module _ (before rest : List (Option Instruction)) (limit fuel n : ℕ) (s : State) (context scratch : ℤ) (at : ℕ) (guard : Guard)
    (slot number : ℕ) (is : s.slot ≡ length before) (led : IsLedByGuard s context scratch guard slot number) (fits : at ≤ 1008) where
  program : List (Option Instruction)
  program = before ++ (map Some (mark_end context scratch at) ++ rest)

  there : (p k : ℕ) → p ≡ length before + k → slice_get program p ≡ slice_get (map Some (mark_end context scratch at) ++ rest) k
  unfolding program
  there p k same = at_slot before (map Some (mark_end context scratch at) ++ rest) p k same

  is_over : (parts : HasThree s.registers) → IsOver s parts.r0 at (block_run_of program limit (14 + fuel) n s)
  unfolding marked_bytes st run At
  is_over parts =
      let p0 = s.slot in
      let p1 = p0 + 1 in let p2 = p1 + 1 in let p3 = p2 + 1 in let p4 = p3 + 1 in let p5 = p4 + 1 in let p6 = p5 + 1 in
      let p7 = p6 + 1 in let p8 = p7 + 1 in let p9 = p8 + 1 in let p10 = p9 + 1 in let p11 = p10 + 1 in let p12 = p11 + 1 in
      let p13 = p12 + 1 in
      let a0 = there p0 0 (omega arith) in let a1 = there p1 1 (omega arith) in let a2 = there p2 2 (omega arith) in
      let a3 = there p3 3 (omega arith) in let a4 = there p4 4 (omega arith) in let a5 = there p5 5 (omega arith) in
      let a6 = there p6 6 (omega arith) in let a7 = there p7 7 (omega arith) in let a8 = there p8 8 (omega arith) in
      let a9 = there p9 9 (omega arith) in let a10 = there p10 10 (omega arith) in let a11 = there p11 11 (omega arith) in
      let a12 = there p12 12 (omega arith) in let a13 = there p13 13 (omega arith) in
      let w = parts.r0 in
      let block = loaded s.memory (address_of Context + 8) 4 in
      let bytes = s.memory.scratch in
      let low = led.state.memory.block_fits in
      let at_8 = in_scratch (length s.memory.block) (min at 1008 + 8) (at + 8) 8 low (omega arith) (omega arith) in
      let at_0 = in_scratch (length s.memory.block) (min at 1008) at 4 low (omega arith) (omega arith) in
      let at_4 = in_scratch (length s.memory.block) (min at 1008 + 4) (at + 4) 4 low (omega arith) (omega arith) in
      let lies_c = subst (λ (rs : List ℕ). IsSome (area_offset_of (length s.memory.block) (address_from rs 10 context) 8))
      parts.are led.context_kept.lies in
      let has_c = subst (λ (rs : List ℕ). loaded s.memory (address_from rs 10 context) 8 ≡ address_of Context)
      parts.are led.context_kept.has in
      let lies_s = subst (λ (rs : List ℕ). IsSome (area_offset_of (length s.memory.block) (address_from rs 10 scratch) 8))
      parts.are led.scratch_kept.lies in
      let has_s = subst (λ (rs : List ℕ). loaded s.memory (address_from rs 10 scratch) 8 ≡ address_of Scratch)
      parts.are led.scratch_kept.has in
      let t = parts.tail in
      let b1 = spliced (at + 8) (little_bytes 8 block) bytes in
      let n1 = bit_and w (0xffff % 2 ^ 64) in
      let b2 = spliced at (little_bytes 4 (n1 % 2 ^ 32)) b1 in
      let w' = w / 65536 in
      let s1 = bit_and w' (0xfff % 2 ^ 64) in
      let b3 = spliced (at + 4) (little_bytes 4 (s1 % 2 ^ 32)) b2 in
      let fuel_is : 14 + fuel ≡ suc (suc (suc (suc (suc (suc (suc (suc (suc (suc (suc (suc (suc (suc fuel))))))))))))) = omega arith in
      let state_is : s ≡ record s { registers = parts.r0 ∷ parts.r1 ∷ parts.r2 ∷ parts.tail } =
      ap (λ (rs : List ℕ). record s { registers = rs }) parts.are in
      let whole = ap (λ (f : ℕ). block_run_of program limit f n s) fuel_is
      ∙ (ap (λ (x : State). block_run_of program limit
      (suc (suc (suc (suc (suc (suc (suc (suc (suc (suc (suc (suc (suc (suc fuel)))))))))))))) n x) state_is
      ∙ (cell_to_1 program limit s t _ _ p0 w parts.r1 parts.r2 (address_of Context) bytes context _ a0 a1 lies_c has_c
      ∙ (index program limit s t _ _ p1 w parts.r2 bytes _ a1 a2
      ∙ (cell_to_2 program limit s t _ _ p2 w block parts.r2 (address_of Scratch) bytes scratch _ a2 a3 lies_s has_s
      ∙ (wide_stored program limit s t _ _ p3 w block (at + 8) bytes _ _ a3 a4 at_8
      ∙ (arithmetic_kept program limit s t _ _ p4 w block (address_of Scratch) b1 _ a4 a5
      ∙ (masked program limit s t _ _ p5 w w (address_of Scratch) 0xffff b1 _ a5 a6
      ∙ (word_stored program limit s t _ _ p6 w n1 at b1 _ _ a6 a7 at_0
      ∙ (cut_16 program limit s t _ _ p7 w n1 (address_of Scratch) b2 _ a7 a8
      ∙ (arithmetic_kept program limit s t _ _ p8 w' n1 (address_of Scratch) b2 _ a8 a9
      ∙ (masked program limit s t _ _ p9 w' w' (address_of Scratch) 0xfff b2 _ a9 a10
      ∙ (word_stored program limit s t _ _ p10 w' s1 (at + 4) b2 _ _ a10 a11 at_4
      ∙ (cut_12 program limit s t _ _ p11 w' s1 (address_of Scratch) b3 _ a11 a12
      ∙ (added program limit s t _ _ p12 (w' / 4096) s1 (address_of Scratch) b3 _ a12 a13
      ∙ over program limit s t _ _ p13 ((w' / 4096 + 0x7000) % 2 ^ 64) s1 (address_of Scratch) b3 a13)))))))))))))) in
      subst (λ (r : BlockRun). IsOver s parts.r0 at r) (sym whole) (record { exits = refl; bytes = refl; group = refl })

ends_marked : (s : State) (run : BlockRun) (guard : Guard) (slot number at r0 : ℕ) → IsState s → at ≤ 1008
    → slot < 2 ^ 12 → 0 < number → number < 2 ^ 16 → r0 ≡ word_of (kind_of guard) slot number → IsOver s r0 at run
    → EndsMarked s at guard slot number run
unfolding marked_bytes
ends_marked s run guard slot number at r0 is fits slot_fits some number_fits told over =
    let block = loaded s.memory (address_of Context + 8) 4 in
    let bytes = s.memory.scratch in
    let k = kind_of guard in
    let n_is : bit_and r0 (0xffff % 2 ^ 64) % 2 ^ 32 ≡ number = rw told (number_is k slot number number_fits) in
    let s_is : bit_and (r0 / 65536) (0xfff % 2 ^ 64) % 2 ^ 32 ≡ slot = rw told (slot_is k slot number slot_fits number_fits) in
    let which : r0 / 65536 / 4096 ≡ k = rw told (which_is k slot number slot_fits number_fits) in
    let block_fits = loads_fit s.memory (address_of Context + 8) 4 is.memory in
    let long = is.memory.lengths Scratch in
    let old = are_parts bytes at (omega (arith, long)) in
    let a = take at bytes in
    let rest = drop 8 (drop 4 (drop 4 (drop at bytes))) in
    let n' = little_bytes 4 number in
    let s' = little_bytes 4 slot in
    let i' = little_bytes 8 block in
    let new : AreParts a n' s' i' at = record {
      front = old.front;
      first = length-bytes_low_first 0 4 number;
      second = length-bytes_low_first 0 4 slot;
      third = length-bytes_low_first 0 8 block;
    } in
    let there : run.state.memory.scratch ≡ a ++ (n' ++ (s' ++ (i' ++ rest))) =
    over.bytes
    ∙ (ap (λ (x : ℕ). spliced (at + 4) (little_bytes 4 x) (spliced at (little_bytes 4 (bit_and r0 (0xffff % 2 ^ 64) % 2 ^ 32))
    (spliced (at + 8) i' bytes))) s_is
    ∙ (ap (λ (x : ℕ). spliced (at + 4) s' (spliced at (little_bytes 4 x) (spliced (at + 8) i' bytes))) n_is
    ∙ (ap (λ (x : List ℕ). spliced (at + 4) s' (spliced at n' (spliced (at + 8) i' x))) (in_parts bytes at)
    ∙ all_put a _ _ _ rest n' s' i' at old new))) in
    let front_kept : drop at (a ++ (n' ++ (s' ++ (i' ++ rest)))) ≡ n' ++ (s' ++ (i' ++ rest)) =
    ap (λ (x : ℕ). drop x (a ++ (n' ++ (s' ++ (i' ++ rest))))) (sym old.front) ∙ drop-append_seam a _ in
    let front : take at (a ++ (n' ++ (s' ++ (i' ++ rest)))) ≡ a =
    ap (λ (x : ℕ). take x (a ++ (n' ++ (s' ++ (i' ++ rest))))) (sym old.front) ∙ take-append_seam a _ in
    record {
      exits = over.exits ∙ ap (λ (x : ℕ). end.Exit ((x + 0x7000) % 2 ^ 64)) which ∙ ap (λ (x : ℕ). end.Exit x) (end_word guard);
      mark = ap (λ (x : List ℕ). ended_of (drop at x)) there ∙ (ap ended_of front_kept
          ∙ spelled number slot block rest some (omega arith) (omega arith) (omega (arith, block_fits)));
      before = ap (λ (x : List ℕ). take at x) there ∙ front;
      behind = ap (λ (x : List ℕ). drop (at + 16) x) there
          ∙ (behind_all a n' s' i' rest at new ∙ sym (ap (λ (x : List ℕ). drop (at + 16) x) (in_parts bytes at) ∙ behind_all a _ _ _ rest at old));
      group = over.group;
    }

pub guards_leave_their_marks : GuardsLeaveTheirMarks
unfolding program
guards_leave_their_marks before rest limit fuel n s context scratch at guard slot number is led fits slot_fits some number_fits =
    let parts = three s.registers led.state.eleven in
    let r0_is : parts.r0 ≡ word_of (kind_of guard) slot number =
    sym (ap (λ (rs : List ℕ). get_or rs 0 0) parts.are) ∙ (led.told ∙ told_word guard slot number slot_fits number_fits) in
    ends_marked s _ guard slot number at parts.r0 led.state fits slot_fits some number_fits r0_is
    (is_over before rest limit fuel n s context scratch at guard slot number is led fits parts)
