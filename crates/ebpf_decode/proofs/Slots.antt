-- The slots of bytes, and reading them one by one.
use Rattle.std.proofs.Common.{◌≡◌, ℕ, zero, suc, ◌+◌, ◌*◌, ◌<◌, ◌≤◌, Bool, List, [], ◌∷◌, ◌++◌, length, drop, Option, Some, Result, Ok, Err, refl, sym, ap, ◌∙◌, add-one, arith}
use Rattle.std.specs.List.{slice_get}
use Rattle.std.proofs.lemmas.List.{append-nil, drop-drop, drop_all}
use Rattle.ebpf_decode.specs.declared.fault.Fault.{Fault}
use Rattle.ebpf_decode.specs.declared.fault.FaultKind.{FaultKind}
use Rattle.instruction_set.specs.declared.fields.Fields.{Fields}
use Rattle.instruction_set.specs.declared.instruction.Instruction.{Instruction}
use Rattle.ebpf_decode.specs.Reading.{begins_wide, begun, fields_at, read_slots, slots_at, then_read}
use Rattle.common_definitions.specs.Readings.{with_front}
use Rattle.common_definitions.proofs.Proved.{with_front-more}

pub slots-get : (count : ℕ) (bytes : List ℕ) (k : ℕ) → k < count → slice_get (slots_at count bytes) k ≡ Some (fields_at (drop (8 * k) bytes))
slots-get zero bytes k h = absurd (omega arith)
slots-get (suc count) bytes zero h = refl
slots-get (suc count) bytes (suc k) h =
    let places : 8 + 8 * k ≡ 8 * suc k = omega arith in
    slots-get count (drop 8 bytes) k (omega arith)
    ∙ ap (λ (xs : List ℕ). Some (fields_at xs)) (drop-drop (8 * k) 8 bytes ∙ ap (λ n. drop n bytes) places)

pub length-slots : (count : ℕ) (bytes : List ℕ) → length (slots_at count bytes) ≡ count
length-slots zero bytes = refl
length-slots (suc count) bytes = ap suc (length-slots count (drop 8 bytes))

-- the slot at a place, and those after it
drop-at : (fs : List Fields) (s : ℕ) (f : Fields) → slice_get fs s ≡ Some f → drop s fs ≡ f ∷ drop (suc s) fs
drop-at [] s f h = absurd cc
drop-at (x ∷ fs) zero f h = cc
drop-at (x ∷ fs) (suc s) f h = drop-at fs s f h

get-drop : (fs : List Fields) (s : ℕ) → slice_get (drop s fs) 0 ≡ slice_get fs s
get-drop [] zero = refl
get-drop [] (suc s) = refl
get-drop (x ∷ fs) zero = refl
get-drop (x ∷ fs) (suc s) = get-drop fs s

-- what begins at a slot, and then the slots after it
read-at : (fs : List Fields) (s : ℕ) (f : Fields) (second : Bool) → slice_get fs s ≡ Some f
    → read_slots second s (drop s fs) ≡ then_read (begun second f (slice_get fs (s + 1))) s (λ wide. read_slots wide (s + 1) (drop (s + 1) fs))
read-at fs s f second h =
    ap (read_slots second s) (drop-at fs s f h)
    ∙ ap (λ n. then_read (begun second f n) s (λ wide. read_slots wide (s + 1) (drop (suc s) fs))) (get-drop fs (suc s))
    ∙ ap (λ n. then_read (begun second f (slice_get fs n)) s (λ wide. read_slots wide (s + 1) (drop n fs))) (sym (add-one s))

-- one more slot
pub goes_on : (fs : List Fields) (s : ℕ) (f : Fields) (second : Bool) (found : Option Instruction) (front : List (Option Instruction)) (total : Result (List (Option Instruction)) Fault)
    → slice_get fs s ≡ Some f → begun second f (slice_get fs (s + 1)) ≡ Ok found
    → with_front front (read_slots second s (drop s fs)) ≡ total
    → with_front (front ++ found ∷ []) (read_slots (begins_wide found) (s + 1) (drop (s + 1) fs)) ≡ total
goes_on fs s f second found front total here read so_far =
    sym (with_front-more front (found ∷ []) (read_slots (begins_wide found) (s + 1) (drop (s + 1) fs)))
    ∙ ap (λ r. with_front front (then_read r s (λ wide. read_slots wide (s + 1) (drop (s + 1) fs)))) (sym read)
    ∙ ap (with_front front) (sym (read-at fs s f second here))
    ∙ so_far

-- a slot with a fault
pub ends : (fs : List Fields) (s : ℕ) (f : Fields) (second : Bool) (kind : FaultKind) (front : List (Option Instruction)) (total : Result (List (Option Instruction)) Fault)
    → slice_get fs s ≡ Some f → begun second f (slice_get fs (s + 1)) ≡ Err kind
    → with_front front (read_slots second s (drop s fs)) ≡ total
    → total ≡ Err (record { slot = s; kind = kind })
ends fs s f second kind front total here read so_far =
    sym so_far
    ∙ ap (with_front front) (read-at fs s f second here)
    ∙ ap (λ r. with_front front (then_read r s (λ wide. read_slots wide (s + 1) (drop (s + 1) fs)))) read

-- no slot is left
pub is_done : (fs : List Fields) (s : ℕ) (second : Bool) (front : List (Option Instruction)) (total : Result (List (Option Instruction)) Fault)
    → length fs ≤ s → with_front front (read_slots second s (drop s fs)) ≡ total → total ≡ Ok front
is_done fs s second front total h so_far =
    sym so_far
    ∙ ap (λ xs. with_front front (read_slots second s xs)) (drop_all s fs h)
    ∙ ap (λ xs. Ok xs) (append-nil front)
