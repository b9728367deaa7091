-- The two passes over the lines, a line at a time.
use Rattle.std.proofs.Common.{◌≡◌, ℕ, ◌+◌, ◌≤◌, ◌<◌, Bool, true, false, cond, ltb, List, [], ◌∷◌, ◌++◌, length, take, drop, get_or, Option, Some, None, Result, Ok, Err, refl, sym, ap, ◌∙◌, append_assoc, subst, arith}
use Rattle.std.specs.Option.{option_or, option_and_then, is_some}
use Rattle.std.specs.Map.{lookup}
use Rattle.std.specs.Str.{bytes_eq}
use Rattle.std.proofs.lemmas.List.{append-nil, drop_more, drop-map, take_more, take-map, map_push, length-map, length-take}
use Rattle.std.proofs.lemmas.List.Sums.{sum_by-append, sum_by-cons}
use Rattle.std.proofs.lemmas.Bool.{ltb-false}
use Rattle.std.proofs.lemmas.Slice.Eq.{bytes_eq-Decides}
use Rattle.instruction_set.specs.declared.instruction.Instruction.{Instruction}
use Rattle.instruction_set.specs.Spelling.{spelling}
use Rattle.common_definitions.specs.Readings.{with_front}
use Rattle.common_definitions.proofs.Proved.{with_front-more}
use Rattle.ebpf_asm.specs.declared.fault.Fault.{Fault}
use Rattle.ebpf_asm.specs.declared.fault.FaultKind.{FaultKind}
use Rattle.ebpf_asm.specs.declared.fault.FaultKind.TheVariants.{TooLong}
use Rattle.ebpf_asm.specs.declared.line as code
use Rattle.ebpf_asm.specs.Line.{Line, slots_in, slots_of_instruction}
use Rattle.ebpf_asm.specs.steps.LineView.{line_view, line_views}
use Rattle.ebpf_asm.specs.Assembly.{LabelMap, label_at, labels_from, label_map, slot_named, slot_count, is_twice, line_fault, first_fault, resolved, before_later, bytes_in_front, bytes_of_lines, told_first}
use Rattle.ebpf_asm.specs.steps.Labels.{with_label}

-- ---- the lines that are left, and those before

drop_lines : (all : List code.Line.Line) (i : ℕ) (line : code.Line.Line) → i < length all → line ≡ get_or all i line → drop i (line_views all) ≡ line_view line ∷ drop (i + 1) (line_views all)
drop_lines all i line lt e =
    drop-map line_view i all ∙ ap line_views (drop_more all i line lt) ∙ ap (λ l. line_view l ∷ line_views (drop (i + 1) all)) (sym e) ∙ ap (λ ls. line_view line ∷ ls) (sym (drop-map line_view (i + 1) all))

take_lines : (all : List code.Line.Line) (i : ℕ) (line : code.Line.Line) → i < length all → line ≡ get_or all i line → take (i + 1) (line_views all) ≡ take i (line_views all) ++ line_view line ∷ []
take_lines all i line lt e =
    take-map line_view (i + 1) all ∙ ap line_views (take_more all i line lt) ∙ map_push line_view (take i all) (get_or all i line) ∙ ap (λ l. line_views (take i all) ++ line_view l ∷ []) (sym e) ∙ ap (λ ls. ls ++ line_view line ∷ []) (sym (take-map line_view i all))

-- ---- slots

pub slot_count-cons : (line : Line) (rest : List Line) → slot_count (line ∷ rest) ≡ slots_in line + slot_count rest
slot_count-cons line rest = sum_by-cons slots_in line rest

pub slot_count-push : (before : List Line) (line : Line) → slot_count (before ++ line ∷ []) ≡ slot_count before + slots_in line
slot_count-push before line = omega (arith, sum_by-append slots_in before (line ∷ []))

-- ---- labels

labels_from-push : (slot : ℕ) (before : List Line) (line : Line) → labels_from slot (before ++ line ∷ []) ≡ labels_from slot before ++ label_at (slot + slot_count before) line.label
labels_from-push slot [] line = append-nil (label_at slot line.label) ∙ ap (λ s. label_at s line.label) (omega arith)
labels_from-push slot (b ∷ before) line =
    ap (λ t. label_at slot b.label ++ t) (labels_from-push (slot + slots_in b) before line ∙ ap (λ s. labels_from (slot + slots_in b) before ++ label_at s line.label) (omega (arith, slot_count-cons b before)))
    ∙ sym (append_assoc (label_at slot b.label) (labels_from (slot + slots_in b) before) (label_at (slot + slot_count (b ∷ before)) line.label))

lookup-push : (test : List ℕ → Bool) (es : List (List ℕ × ℕ)) (e : List ℕ × ℕ) → lookup test (es ++ e ∷ []) ≡ option_or (lookup test es) (cond (test e.0) (Some e.1) None)
lookup-push test [] e = refl
lookup-push test (x ∷ es) e = found (test x.0) (lookup-push test es e)
  where
    found : (b : Bool) → lookup test (es ++ e ∷ []) ≡ option_or (lookup test es) (cond (test e.0) (Some e.1) None)
        → cond b (Some x.1) (lookup test (es ++ e ∷ [])) ≡ option_or (cond b (Some x.1) (lookup test es)) (cond (test e.0) (Some e.1) None)
    found true more = refl
    found false more = more

none_behind : (o : Option ℕ) → option_or o None ≡ o
none_behind None = refl
none_behind (Some x) = refl

new_label : (es : List (List ℕ × ℕ)) (label name : List ℕ) (slot : ℕ) (b : Bool) → bytes_eq label name ≡ b → slot_named es label ≡ None
    → option_or (slot_named es name) (cond b (Some slot) None) ≡ cond b (Some slot) (slot_named es name)
new_label es label name slot false e none = none_behind (slot_named es name)
new_label es label name slot true e none =
    let same : label ≡ name = (bytes_eq-Decides label name).0 e in
    ap (λ n. option_or (slot_named es n) (Some slot)) (sym same) ∙ ap (λ o. option_or o (Some slot)) none

none_if : {X : Type 0} (o : Option X) → is_some o ≡ false → o ≡ None
none_if None e = refl
none_if (Some x) e = absurd cc

label_map-push : (before : List Line) (line : Line) (name : List ℕ) → is_twice before line ≡ false → label_map (before ++ line ∷ []) name ≡ with_label (label_map before) line.label (slot_count before) name
label_map-push before line name once =
    ap (λ es. slot_named es name) (labels_from-push 0 before line ∙ ap (λ s. labels_from 0 before ++ label_at s line.label) (omega arith)) ∙ at_label line.label once
  where
    at_label : (label : Option (List ℕ)) → is_some (option_and_then (label_map before) label) ≡ false → slot_named (labels_from 0 before ++ label_at (slot_count before) label) name ≡ with_label (label_map before) label (slot_count before) name
    at_label None e = ap (λ es. slot_named es name) (append-nil (labels_from 0 before))
    at_label (Some label) e =
        lookup-push (λ l. bytes_eq l name) (labels_from 0 before) (label, slot_count before) ∙ new_label (labels_from 0 before) label name (slot_count before) (bytes_eq label name) refl (none_if (label_map before label) e)

-- ---- the first pass

-- what the first pass knows after these lines
pub record HasRead (before rest all : List Line) (labels : LabelMap) (slots : ℕ) : Type 0 where
  pub named : (name : List ℕ) → labels name ≡ label_map before name
  pub counted : slots ≡ slot_count before
  pub room : slots ≤ 4096
  pub fault : first_fault before rest ≡ first_fault [] all

pub fits_if : (slots n : ℕ) (instruction : Result (Option Instruction) FaultKind) (twice : Bool) → line_fault twice slots instruction ≡ None → n ≡ slots_of_instruction instruction → (twice ≡ false) × (slots + n ≤ 4096)
fits_if slots n instruction true e same = absurd cc
fits_if slots n (Err kind) false e same = absurd cc
fits_if slots n (Ok instruction) false e same = (refl, fits (ltb 4096 (slots + slots_of_instruction (Ok instruction))) refl e)
  where
    fits : (b : Bool) → ltb 4096 (slots + slots_of_instruction (Ok instruction)) ≡ b → cond b (Some TooLong) None ≡ None → slots + n ≤ 4096
    fits true f h = absurd cc
    fits false f h = rw same (ltb-false _ _ f)

known_in : (f g : LabelMap) (label : Option (List ℕ)) → ((name : List ℕ) → f name ≡ g name) → is_some (option_and_then f label) ≡ is_some (option_and_then g label)
known_in f g None e = refl
known_in f g (Some name) e = ap is_some (e name)

with_same : (f g : LabelMap) (label : Option (List ℕ)) (slot : ℕ) (name : List ℕ) → ((name : List ℕ) → f name ≡ g name) → with_label f label slot name ≡ with_label g label slot name
with_same f g None slot name e = e name
with_same f g (Some label) slot name e = ap (cond (bytes_eq label name) (Some slot)) (e name)

same_twice : (before rest all : List Line) (line : Line) (twice : Bool) (labels : LabelMap) (slots : ℕ) → HasRead before rest all labels slots → twice ≡ is_some (option_and_then labels line.label) → twice ≡ is_twice before line
same_twice before rest all line twice labels slots h known = known ∙ known_in labels (label_map before) line.label h.named

-- the fault that the lines told first have is this line's, or a later one's
told_here : (before rest all : List Line) (line : Line) (twice : Bool) (fault : Option FaultKind) (labels : LabelMap) (slots : ℕ)
    → HasRead before (line ∷ rest) all labels slots → twice ≡ is_some (option_and_then labels line.label) → fault ≡ line_fault twice slots line.instruction
    → first_fault [] all ≡ told_first (length before + 1) fault (first_fault (before ++ line ∷ []) rest)
told_here before rest all line twice fault labels slots h known told =
    let n = length before + 1 in
    let later = first_fault (before ++ line ∷ []) rest in
    sym h.fault
    ∙ ap (λ t. told_first n (line_fault t (slot_count before) line.instruction) later) (sym (same_twice before (line ∷ rest) all line twice labels slots h known))
    ∙ ap (λ s. told_first n (line_fault twice s line.instruction) later) (sym h.counted)
    ∙ ap (λ f. told_first n f later) (sym told)

HasRead-more : (before rest all : List Line) (line : Line) (twice : Bool) (fault : Option FaultKind) (labels more : LabelMap) (slots n : ℕ)
    → HasRead before (line ∷ rest) all labels slots → twice ≡ is_some (option_and_then labels line.label) → fault ≡ line_fault twice slots line.instruction → fault ≡ None
    → ((name : List ℕ) → more name ≡ with_label labels line.label slots name) → n ≡ slots_in line → HasRead (before ++ line ∷ []) rest all more (slots + n)
HasRead-more before rest all line twice fault labels more slots n h known told none put taken =
    let once = fits_if slots n line.instruction twice (sym told ∙ none) taken in
    let twice_is = sym (same_twice before (line ∷ rest) all line twice labels slots h known) ∙ once.0 in
    record {
      named = λ name. put name ∙ with_same labels (label_map before) line.label slots name h.named ∙ ap (λ s. with_label (label_map before) line.label s name) h.counted ∙ sym (label_map-push before line name twice_is);
      counted = ap (λ s. s + n) h.counted ∙ ap (λ k. slot_count before + k) taken ∙ sym (slot_count-push before line);
      room = once.1;
      fault = sym (told_here before rest all line twice fault labels slots h known told ∙ ap (λ f. told_first (length before + 1) f (first_fault (before ++ line ∷ []) rest)) none);
    }

HasRead-fault : (before rest all : List Line) (line : Line) (twice : Bool) (kind : FaultKind) (labels : LabelMap) (slots : ℕ)
    → HasRead before (line ∷ rest) all labels slots → twice ≡ is_some (option_and_then labels line.label) → Some kind ≡ line_fault twice slots line.instruction
    → first_fault [] all ≡ Some (record { line = length before + 1; kind = kind })
HasRead-fault before rest all line twice kind labels slots h known told = told_here before rest all line twice (Some kind) labels slots h known told

-- ---- the second pass

-- what the second pass knows before these lines
pub record HasMade (left all : List Line) (labels : LabelMap) (number slot : ℕ) (bytes : List ℕ) : Type 0 where
  pub so_far : with_front bytes (bytes_of_lines labels number slot left) ≡ bytes_of_lines labels 1 0 all
  pub room : slot + slot_count left ≤ 4096

-- a line without an instruction
HasMade-nothing : (left all : List Line) (line : Line) (labels : LabelMap) (number slot : ℕ) (bytes : List ℕ) → ((instruction : Instruction) → line.instruction ≡ Ok (Some instruction) → ⊥)
    → HasMade (line ∷ left) all labels number slot bytes → HasMade left all labels (number + 1) slot bytes
HasMade-nothing left all line labels number slot bytes none h = at line.instruction refl
  where
    later : ℕ → Result (List ℕ) Fault
    later s = bytes_of_lines labels (number + 1) s left

    skipped : slots_in line ≡ 0 → bytes_in_front labels number slot line.instruction line.target (later (slot + slots_in line)) ≡ later (slot + slots_in line) → HasMade left all labels (number + 1) slot bytes
    skipped no_slot skips = record {
      so_far = ap (λ s. with_front bytes (later s)) (omega (arith, no_slot)) ∙ ap (with_front bytes) (sym skips) ∙ h.so_far;
      room = omega (arith, h.room, no_slot, slot_count-cons line left);
    }

    at : (instruction : Result (Option Instruction) FaultKind) → line.instruction ≡ instruction → HasMade left all labels (number + 1) slot bytes
    at (Ok (Some instruction)) e = absurd (none instruction e)
    at (Ok None) e = skipped (ap slots_of_instruction e) (ap (λ i. bytes_in_front labels number slot i line.target (later (slot + slots_in line))) e)
    at (Err kind) e = skipped (ap slots_of_instruction e) (ap (λ i. bytes_in_front labels number slot i line.target (later (slot + slots_in line))) e)

HasMade-more : (left all : List Line) (line : Line) (labels : LabelMap) (number slot n : ℕ) (bytes more : List ℕ) (instruction made : Instruction) → line.instruction ≡ Ok (Some instruction) → Ok made ≡ resolved labels slot instruction line.target
    → more ≡ bytes ++ spelling made → n ≡ slots_in line → HasMade (line ∷ left) all labels number slot bytes → HasMade left all labels (number + 1) (slot + n) more
HasMade-more left all line labels number slot n bytes more instruction made e r m taken h =
    let later = bytes_of_lines labels (number + 1) (slot + slots_in line) left in
    record {
      so_far = ap (λ s. with_front more (bytes_of_lines labels (number + 1) (slot + s) left)) taken ∙ ap (λ b. with_front b later) m ∙ sym (with_front-more bytes (spelling made) later)
          ∙ ap (λ i. with_front bytes (before_later number i later)) r ∙ ap (λ i. with_front bytes (bytes_in_front labels number slot i line.target later)) (sym e) ∙ h.so_far;
      room = omega (arith, h.room, slot_count-cons line left);
    }

HasMade-fault : (left all : List Line) (line : Line) (labels : LabelMap) (number slot : ℕ) (bytes : List ℕ) (instruction : Instruction) (kind : FaultKind) → line.instruction ≡ Ok (Some instruction) → Err kind ≡ resolved labels slot instruction line.target
    → HasMade (line ∷ left) all labels number slot bytes → bytes_of_lines labels 1 0 all ≡ Err (record { line = number; kind = kind })
HasMade-fault left all line labels number slot bytes instruction kind e r h =
    let later = bytes_of_lines labels (number + 1) (slot + slots_in line) left in
    sym h.so_far ∙ ap (λ i. with_front bytes (bytes_in_front labels number slot i line.target later)) e ∙ ap (λ i. with_front bytes (before_later number i later)) (sym r)

-- ---- both, over the lines that the assembler holds

counted_before : (all : List code.Line.Line) (i : ℕ) → i < length all → length (take i (line_views all)) ≡ i
counted_before all i lt = omega (arith, length-take i (line_views all), length-map all line_view)

pub read_fault : (all : List code.Line.Line) (i : ℕ) (line : code.Line.Line) (twice : Bool) (kind : FaultKind) (labels : LabelMap) (slots : ℕ) → i < length all → line ≡ get_or all i line
    → HasRead (take i (line_views all)) (drop i (line_views all)) (line_views all) labels slots → twice ≡ is_some (option_and_then labels (line_view line).label) → Some kind ≡ line_fault twice slots line.instruction
    → first_fault [] (line_views all) ≡ Some (record { line = i + 1; kind = kind })
read_fault all i line twice kind labels slots lt is h known told =
    let views = line_views all in
    let here = subst (λ (ls : List Line). HasRead (take i views) ls views labels slots) (drop_lines all i line lt is) h in
    HasRead-fault (take i views) (drop (i + 1) views) views (line_view line) twice kind labels slots here known told
    ∙ ap (λ (n : ℕ). Some (record { line = n + 1; kind = kind })) (counted_before all i lt)

pub read_more : (all : List code.Line.Line) (i : ℕ) (line : code.Line.Line) (twice : Bool) (fault : Option FaultKind) (labels more : LabelMap) (slots n : ℕ) → i < length all → line ≡ get_or all i line
    → HasRead (take i (line_views all)) (drop i (line_views all)) (line_views all) labels slots → twice ≡ is_some (option_and_then labels (line_view line).label) → fault ≡ line_fault twice slots line.instruction → fault ≡ None
    → ((name : List ℕ) → more name ≡ with_label labels (line_view line).label slots name) → n ≡ slots_of_instruction line.instruction
    → HasRead (take (i + 1) (line_views all)) (drop (i + 1) (line_views all)) (line_views all) more (slots + n)
read_more all i line twice fault labels more slots n lt is h known told none put taken =
    let views = line_views all in
    let here = subst (λ (ls : List Line). HasRead (take i views) ls views labels slots) (drop_lines all i line lt is) h in
    subst (λ (ls : List Line). HasRead ls (drop (i + 1) views) views more (slots + n)) (sym (take_lines all i line lt is))
    (HasRead-more (take i views) (drop (i + 1) views) views (line_view line) twice fault labels more slots n here known told none put taken)

at_line : (all : List code.Line.Line) (i : ℕ) (line : code.Line.Line) (labels : LabelMap) (slot : ℕ) (bytes : List ℕ) → i < length all → line ≡ get_or all i line
    → HasMade (drop i (line_views all)) (line_views all) labels (i + 1) slot bytes → HasMade (line_view line ∷ drop (i + 1) (line_views all)) (line_views all) labels (i + 1) slot bytes
at_line all i line labels slot bytes lt is h = subst (λ (ls : List Line). HasMade ls (line_views all) labels (i + 1) slot bytes) (drop_lines all i line lt is) h

pub made_nothing : (all : List code.Line.Line) (i : ℕ) (line : code.Line.Line) (labels : LabelMap) (slot : ℕ) (bytes : List ℕ) → i < length all → line ≡ get_or all i line → ((instruction : Instruction) → line.instruction ≡ Ok (Some instruction) → ⊥)
    → HasMade (drop i (line_views all)) (line_views all) labels (i + 1) slot bytes → HasMade (drop (i + 1) (line_views all)) (line_views all) labels (i + 1 + 1) slot bytes
made_nothing all i line labels slot bytes lt is none h =
    HasMade-nothing (drop (i + 1) (line_views all)) (line_views all) (line_view line) labels (i + 1) slot bytes none (at_line all i line labels slot bytes lt is h)

pub made_more : (all : List code.Line.Line) (i : ℕ) (line : code.Line.Line) (labels : LabelMap) (slot n : ℕ) (bytes more : List ℕ) (instruction made : Instruction) → i < length all → line ≡ get_or all i line
    → line.instruction ≡ Ok (Some instruction) → Ok made ≡ resolved labels slot instruction (line_view line).target → more ≡ bytes ++ spelling made → n ≡ slots_of_instruction line.instruction
    → HasMade (drop i (line_views all)) (line_views all) labels (i + 1) slot bytes → HasMade (drop (i + 1) (line_views all)) (line_views all) labels (i + 1 + 1) (slot + n) more
made_more all i line labels slot n bytes more instruction made lt is e r m taken h =
    HasMade-more (drop (i + 1) (line_views all)) (line_views all) (line_view line) labels (i + 1) slot n bytes more instruction made e r m taken (at_line all i line labels slot bytes lt is h)

pub made_fault : (all : List code.Line.Line) (i : ℕ) (line : code.Line.Line) (labels : LabelMap) (slot : ℕ) (bytes : List ℕ) (instruction : Instruction) (kind : FaultKind) → i < length all → line ≡ get_or all i line
    → line.instruction ≡ Ok (Some instruction) → Err kind ≡ resolved labels slot instruction (line_view line).target
    → HasMade (drop i (line_views all)) (line_views all) labels (i + 1) slot bytes → bytes_of_lines labels 1 0 (line_views all) ≡ Err (record { line = i + 1; kind = kind })
made_fault all i line labels slot bytes instruction kind lt is e r h =
    HasMade-fault (drop (i + 1) (line_views all)) (line_views all) (line_view line) labels (i + 1) slot bytes instruction kind e r (at_line all i line labels slot bytes lt is h)
