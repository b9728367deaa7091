-- The fault that is told is that of the lowest line that has one by itself, or else that jumps amiss.
use Rattle.std.proofs.Common.{◌≡◌, ℕ, ◌+◌, ◌<◌, ◌≤◌, Bool, true, false, ltb, List, [], ◌∷◌, ◌++◌, length, take, Option, Some, None, Result, Ok, Err, refl, sym, ap, ◌∙◌, append_assoc, subst, arith, inl, inr}
use Rattle.std.proofs.lemmas.Option.{same_Some, slice_get_past}
use Rattle.std.specs.List.{slice_get}
use Rattle.std.specs.Option.{option_and_then}
use Rattle.std.specs.Result.{result_err}
use Rattle.std.proofs.Math.Seq.{take-append_seam}
use Rattle.std.proofs.lemmas.Result.{IfErr-at_err}
use Rattle.std.proofs.lemmas.Bool.{ltb-true, ltb-false}
use Rattle.std.proofs.lemmas.List.{append-nil, length-append}
use Rattle.instruction_set.specs.declared.instruction.Instruction.{Instruction}
use Rattle.common_definitions.specs.Readings.{unless_fault}
use Rattle.ebpf_asm.specs.declared.fault.Fault.{Fault}
use Rattle.ebpf_asm.specs.declared.fault.FaultKind.{FaultKind}
use Rattle.ebpf_asm.specs.Line.{Line, slots_in}
use Rattle.ebpf_asm.specs.Assembly.{before_later, bytes_of_lines, bytes_in_front, fault_behind, first_fault, label_map, lines_of, resolved, slot_count, told_first}
use Rattle.ebpf_asm.specs.LowestFault.{HaveNone, IsLowest, IsLowestFault, jump_fault, jump_fault_of, own_fault}
use Rattle.ebpf_asm.specs.Laws.{FaultIsLowest}
use Rattle.ebpf_asm.proofs.Passes.{slot_count-push}
use Rattle.ebpf_asm.proofs.Programs.{none_told}

-- ---- the line behind some lines

get_behind : (before rest : List Line) (line : Line) → slice_get (before ++ line ∷ rest) (length before) ≡ Some line
get_behind [] rest line = refl
get_behind (b ∷ before) rest line = get_behind before rest line

-- what a reading of each line, with the lines before it, makes of the line behind some lines
at_behind : {X : Type 0} (f : List Line → Line → Option X) (before rest all : List Line) (line : Line) → all ≡ before ++ line ∷ rest
    → option_and_then (λ l. f (take (length before) all) l) (slice_get all (length before)) ≡ f before line
at_behind f before rest all line are =
    ap (λ ls. option_and_then (λ l. f (take (length before) ls) l) (slice_get ls (length before))) are
    ∙ ap (λ o. option_and_then (λ l. f (take (length before) (before ++ line ∷ rest)) l) o) (get_behind before rest line)
    ∙ ap (λ ls. f ls line) (take-append_seam before (line ∷ rest))

-- what holds below and of the next holds below that
below_more : (fault_at : ℕ → Option FaultKind) (n : ℕ) → ((k : ℕ) → k < n → fault_at k ≡ None) → fault_at n ≡ None → (k : ℕ) → k < n + 1 → fault_at k ≡ None
below_more fault_at n below here k h = by_test (ltb k n) refl
  where
    by_test : (b : Bool) → ltb k n ≡ b → fault_at k ≡ None
    by_test true is = below k (ltb-true k n is)
    by_test false is = let over = ltb-false k n is in let same : n ≡ k = omega (arith, h, over) in subst (λ m. fault_at m ≡ None) same here

below_pushed : (fault_at : ℕ → Option FaultKind) (before : List Line) (line : Line) → ((k : ℕ) → k < length before → fault_at k ≡ None) → fault_at (length before) ≡ None
    → (k : ℕ) → k < length (before ++ line ∷ []) → fault_at k ≡ None
below_pushed fault_at before line below here k h = below_more fault_at (length before) below here k (omega (arith, h, length-append before (line ∷ [])))

pushed : (before rest all : List Line) (line : Line) → all ≡ before ++ line ∷ rest → all ≡ (before ++ line ∷ []) ++ rest
pushed before rest all line are = are ∙ sym (append_assoc before (line ∷ []) rest)

-- ---- the first pass

module _ (all : List Line) where
  abbrev OwnBelow : List Line → Type 0
  OwnBelow before = (k : ℕ) → k < length before → own_fault all k ≡ None

  own_told : (before rest : List Line) (line : Line) (fault : Fault) (kind : Option FaultKind) (later : Option Fault) → all ≡ before ++ line ∷ rest → OwnBelow before
      → own_fault all (length before) ≡ kind → told_first (length before + 1) kind later ≡ Some fault
      → (own_fault all (length before) ≡ None → later ≡ Some fault → IsLowest (own_fault all) fault) → IsLowest (own_fault all) fault
  own_told before rest line fault (Some kind) later are below here e more =
      let told : record { line = length before + 1; kind = kind } ≡ fault = same_Some _ _ e in
      record {
        index = length before;
        number = sym (ap (λ (f : Fault). f.line) told);
        told = here ∙ ap (λ (f : Fault). Some f.kind) told;
        lower = below;
      }
  own_told before rest line fault None later are below here e more = more here e

  own_lowest : (before rest : List Line) (fault : Fault) → all ≡ before ++ rest → OwnBelow before → first_fault before rest ≡ Some fault → IsLowest (own_fault all) fault
  own_lowest before [] fault are below e = absurd cc
  own_lowest before (line ∷ rest) fault are below e =
      own_told before rest line fault (fault_behind before line) (first_fault (before ++ line ∷ []) rest) are below (at_behind fault_behind before rest all line are) e
      (λ here later. own_lowest (before ++ line ∷ []) rest fault (pushed before rest all line are) (below_pushed (own_fault all) before line below here) later)

  pub own_none : (before rest : List Line) → all ≡ before ++ rest → OwnBelow before → first_fault before rest ≡ None → HaveNone (own_fault all)
  own_none before [] are below e k = by_test (ltb k (length before)) refl
    where
      whole : all ≡ before
      whole = are ∙ append-nil before

      by_test : (b : Bool) → ltb k (length before) ≡ b → own_fault all k ≡ None
      by_test true is = below k (ltb-true k (length before) is)
      by_test false is =
          let behind : length all ≤ k = omega (arith, ltb-false k (length before) is, ap length whole) in
          ap (option_and_then (λ l. fault_behind (take k all) l)) (slice_get_past all k behind)
  own_none before (line ∷ rest) are below e k =
      let none = none_told (length before + 1) (fault_behind before line) (first_fault (before ++ line ∷ []) rest) e in
      own_none (before ++ line ∷ []) rest (pushed before rest all line are) (below_pushed (own_fault all) before line below (at_behind fault_behind before rest all line are ∙ none.0)) none.1 k

  -- ---- the second pass

  abbrev jump : List Line → Line → Option FaultKind
  jump before line = jump_fault_of (label_map all) (slot_count before) line.instruction line.target

  abbrev JumpBelow : List Line → Type 0
  JumpBelow before = (k : ℕ) → k < length before → jump_fault all k ≡ None

  jump_read : (before : List Line) (fault : Fault) (read : Result Instruction FaultKind) (later : Result (List ℕ) Fault) → JumpBelow before
      → jump_fault all (length before) ≡ result_err read → before_later (length before + 1) read later ≡ Err fault
      → (jump_fault all (length before) ≡ None → later ≡ Err fault → IsLowest (jump_fault all) fault) → IsLowest (jump_fault all) fault
  jump_read before fault (Err kind) later below here e more =
      let told : record { line = length before + 1; kind = kind } ≡ fault = IfErr-at_err (λ (f : Fault). record { line = length before + 1; kind = kind } ≡ f) e refl in
      record {
        index = length before;
        number = sym (ap (λ (f : Fault). f.line) told);
        told = here ∙ ap (λ (f : Fault). Some f.kind) told;
        lower = below;
      }
  jump_read before fault (Ok made) (Err lower) below here e more = more here e
  jump_read before fault (Ok made) (Ok bytes) below here e more = absurd cc

  jump_told : (before : List Line) (fault : Fault) (instruction : Result (Option Instruction) FaultKind) (target : Option (List ℕ)) (later : Result (List ℕ) Fault) → JumpBelow before
      → jump_fault all (length before) ≡ jump_fault_of (label_map all) (slot_count before) instruction target
      → bytes_in_front (label_map all) (length before + 1) (slot_count before) instruction target later ≡ Err fault
      → (jump_fault all (length before) ≡ None → later ≡ Err fault → IsLowest (jump_fault all) fault) → IsLowest (jump_fault all) fault
  jump_told before fault (Ok (Some instruction)) target later below here e more =
      jump_read before fault (resolved (label_map all) (slot_count before) instruction target) later below here e more
  jump_told before fault (Ok None) target later below here e more = more here e
  jump_told before fault (Err kind) target later below here e more = more here e

  jump_lowest : (before rest : List Line) (number slot : ℕ) (fault : Fault) → all ≡ before ++ rest → number ≡ length before + 1 → slot ≡ slot_count before → JumpBelow before
      → bytes_of_lines (label_map all) number slot rest ≡ Err fault → IsLowest (jump_fault all) fault
  jump_lowest before [] number slot fault are n s below e = absurd cc
  jump_lowest before (line ∷ rest) number slot fault are n s below e =
      let later = bytes_of_lines (label_map all) (number + 1) (slot + slots_in line) rest in
      jump_told before fault line.instruction line.target later below (at_behind jump before rest all line are)
      (ap (λ m. bytes_in_front (label_map all) m (slot_count before) line.instruction line.target later) (sym n) ∙ ap (λ t. bytes_in_front (label_map all) number t line.instruction line.target later) (sym s) ∙ e)
      (λ here behind.
      jump_lowest (before ++ line ∷ []) rest (number + 1) (slot + slots_in line) fault (pushed before rest all line are)
      (omega (arith, n, length-append before (line ∷ []))) (omega (arith, s, slot_count-push before line))
      (below_pushed (jump_fault all) before line below here) behind)

  lowest : (first : Option Fault) (fault : Fault) → first_fault [] all ≡ first → unless_fault first (bytes_of_lines (label_map all) 1 0 all) ≡ Err fault → IsLowestFault all fault
  lowest (Some told) fault is e =
      let same : told ≡ fault = IfErr-at_err (λ f. told ≡ f) e refl in
      inl (own_lowest [] all fault refl (λ k h. absurd (omega (arith, h))) (is ∙ ap (λ (f : Fault). Some f) same))
  lowest None fault is e =
      inr (own_none [] all refl (λ k h. absurd (omega (arith, h))) is, jump_lowest [] all 1 0 fault refl refl refl (λ k h. absurd (omega (arith, h))) e)

pub fault_is_lowest : FaultIsLowest
fault_is_lowest text fault e = lowest (lines_of text) (first_fault [] (lines_of text)) fault refl e
