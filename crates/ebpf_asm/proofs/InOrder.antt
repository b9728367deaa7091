-- The bytes that a text assembles to, line by line.
use Rattle.std.proofs.Common.{◌≡◌, ℕ, zero, suc, pos, ◌-ℤ◌, ◌+◌, ◌*◌, ◌<◌, Bool, true, false, cond, ltb, List, [], ◌∷◌, ◌++◌, length, take, drop, Option, Some, None, Result, Ok, Err, refl, sym, ap, ◌∙◌, subst, arith, length-append}
use Rattle.std.specs.Prelude.{IfOk, IfSome}
use Rattle.std.specs.List.{AllByRecursion, slice_get}
use Rattle.std.specs.Option.{is_some, option_and_then}
use Rattle.std.specs.Str.{bytes_eq}
use Rattle.std.specs.Str.Lines.{lines}
use Rattle.std.proofs.Math.IntN.{+ℤ_comm, -ℤ-+ℤ_cancel}
use Rattle.std.proofs.Math.Seq.{drop-append-add, take-append_seam}
use Rattle.std.proofs.lemmas.Bool.{ltb-true, ltb-false}
use Rattle.std.proofs.lemmas.Option.{same_Some}
use Rattle.std.proofs.lemmas.Slice.Eq.{bytes_eq-Decides}
use Rattle.instruction_set.specs.declared.instruction.Instruction.{Instruction}
use Rattle.instruction_set.specs.declared.instruction.Instruction.TheVariants.{LoadImmediate}
use Rattle.instruction_set.specs.Program.{slots_taken}
use Rattle.instruction_set.specs.Spelling.{Fits, spelling}
use Rattle.ebpf_asm.specs.declared.fault.Fault.{Fault}
use Rattle.ebpf_asm.specs.declared.fault.FaultKind.{FaultKind}
use Rattle.ebpf_asm.specs.Line.{Line, slots_in, slots_of_instruction}
use Rattle.ebpf_asm.specs.Assembly.{LabelMap, before_later, bytes_of_lines, bytes_in_front, fault_behind, first_fault, is_twice, jump_to, label_at, label_map, labels_from, line_fault, lines_of, resolved, slot_count, slot_named, slot_of_line}
use Rattle.ebpf_asm.specs.LowestFault.{HaveNone, own_fault}
use Rattle.ebpf_asm.specs.InOrder.{IsInPlace, IsMadeOf, LeadsToLabel, label_of_line}
use Rattle.ebpf_asm.specs.Laws.{LinesAreInOrder}
use Rattle.ebpf_asm.proofs.Fitting.{Fills, LineFits, lines_fit, resolved_fits}
use Rattle.ebpf_asm.proofs.Jumps.{Jumps, LineJumps, lines_jump}
use Rattle.ebpf_asm.proofs.LowestFaults.{own_none}
use Rattle.ebpf_asm.proofs.Passes.{slot_count-cons}
use Rattle.common_definitions.proofs.Proved.{no_fault}

length-spelling : (i : Instruction) → length (spelling i) ≡ 8 * slots_taken i
length-spelling (LoadImmediate dst value) = refl
length-spelling i = refl

-- ---- the second pass

-- what the second pass makes of the instruction of the line at an index, where the first line begins at this slot
record IsPut (labels : LabelMap) (slot : ℕ) (lines : List Line) (bytes : List ℕ) (index : ℕ) (line : Line) (instruction : Instruction) : Type 0 where
  pub made : Instruction
  pub resolves : resolved labels (slot + slot_of_line lines index) instruction line.target ≡ Ok made
  pub fits : Fits made
  pub jumps : IfSome line.target (λ (label : List ℕ). Jumps instruction)
  pub spelled : take (8 * slots_in line) (drop (8 * slot_of_line lines index) bytes) ≡ spelling made

record ArePut (labels : LabelMap) (slot : ℕ) (lines : List Line) (bytes : List ℕ) : Type 0 where
  pub whole : length bytes ≡ 8 * slot_count lines
  pub each : (index : ℕ) (line : Line) (instruction : Instruction) → slice_get lines index ≡ Some line → line.instruction ≡ Ok (Some instruction)
      → IsPut labels slot lines bytes index line instruction

module _ (labels : LabelMap) (slot : ℕ) (line : Line) (rest : List Line) where
  abbrev Behind : List ℕ → Type 0
  Behind more = ArePut labels (slot + slots_in line) rest more

  behind : (front more : List ℕ) → length front ≡ 8 * slots_in line → Behind more → (index : ℕ) (other : Line) (instruction : Instruction) → slice_get rest index ≡ Some other
      → other.instruction ≡ Ok (Some instruction) → IsPut labels slot (line ∷ rest) (front ++ more) (suc index) other instruction
  behind front more long h index other instruction at is =
      let one = h.each index other instruction at is in
      let both = slot_count-cons line (take index rest) in
      let same : slot + slot_of_line (line ∷ rest) (suc index) ≡ slot + slots_in line + slot_of_line rest index = omega (arith, both) in
      let bytes : 8 * slot_of_line (line ∷ rest) (suc index) ≡ length front + 8 * slot_of_line rest index = omega (arith, long, both) in
      record {
        made = one.made;
        resolves = ap (λ (n : ℕ). resolved labels n instruction other.target) same ∙ one.resolves;
        fits = one.fits;
        jumps = one.jumps;
        spelled =
            ap (λ (n : ℕ). take (8 * slots_in other) (drop n (front ++ more))) bytes
            ∙ ap (λ (bs : List ℕ). take (8 * slots_in other) bs) (drop-append-add front more (8 * slot_of_line rest index))
            ∙ one.spelled;
      }

  nothing_more : (bytes : List ℕ) → ((instruction : Instruction) → line.instruction ≡ Ok (Some instruction) → ⊥) → slots_in line ≡ 0 → Behind bytes → ArePut labels slot (line ∷ rest) bytes
  nothing_more bytes nothing none h = record { whole = omega (arith, h.whole, none, slot_count-cons line rest); each = each }
    where
      each : (index : ℕ) (other : Line) (instruction : Instruction) → slice_get (line ∷ rest) index ≡ Some other → other.instruction ≡ Ok (Some instruction)
          → IsPut labels slot (line ∷ rest) bytes index other instruction
      each zero other instruction at is = absurd (nothing instruction (ap (λ (l : Line). l.instruction) (same_Some _ _ at) ∙ is))
      each (suc index) other instruction at is = behind [] bytes (omega (arith, none)) h index other instruction at is

  one_more : (instruction made : Instruction) (more : List ℕ) → line.instruction ≡ Ok (Some instruction) → resolved labels slot instruction line.target ≡ Ok made → Fills instruction made
      → IfSome line.target (λ (label : List ℕ). Jumps instruction) → Behind more → ArePut labels slot (line ∷ rest) (spelling made ++ more)
  one_more instruction made more has resolves fills jumps h = record { whole = omega (arith, length-append (spelling made) more, long, h.whole, slot_count-cons line rest); each = each }
    where
      long : length (spelling made) ≡ 8 * slots_in line
      long = omega (arith, length-spelling made, fills.1, ap slots_of_instruction has)

      here : IsPut labels slot (line ∷ rest) (spelling made ++ more) 0 line instruction
      here =
          let same : slot + 0 ≡ slot = omega arith in
          record {
            made = made;
            resolves = ap (λ (n : ℕ). resolved labels n instruction line.target) same ∙ resolves;
            fits = fills.0;
            jumps = jumps;
            spelled = ap (λ (n : ℕ). take n (spelling made ++ more)) (sym long) ∙ take-append_seam (spelling made) more;
          }

      each : (index : ℕ) (other : Line) (i : Instruction) → slice_get (line ∷ rest) index ≡ Some other → other.instruction ≡ Ok (Some i) → IsPut labels slot (line ∷ rest) (spelling made ++ more) index other i
      each zero other i at is =
          let one : line ≡ other = same_Some _ _ at in
          let both : instruction ≡ i = let e : Ok (Some instruction) ≡ Ok (Some i) = sym has ∙ ap (λ (l : Line). l.instruction) one ∙ is in cc in
          subst (λ (l : Line). IsPut labels slot (line ∷ rest) (spelling made ++ more) 0 l i) one
          (subst (λ (j : Instruction). IsPut labels slot (line ∷ rest) (spelling made ++ more) 0 line j) both here)
      each (suc index) other i at is = behind (spelling made) more long h index other i at is

  one_read : (number : ℕ) (instruction : Instruction) (read : Result Instruction FaultKind) (later : Result (List ℕ) Fault) (bytes : List ℕ) → line.instruction ≡ Ok (Some instruction)
      → resolved labels slot instruction line.target ≡ read → IfOk read (Fills instruction) → IfSome line.target (λ (label : List ℕ). Jumps instruction)
      → ((more : List ℕ) → later ≡ Ok more → Behind more) → before_later number read later ≡ Ok bytes → ArePut labels slot (line ∷ rest) bytes
  one_read number instruction (Err kind) later bytes has resolves fills jumps next e = absurd cc
  one_read number instruction (Ok made) (Err fault) bytes has resolves fills jumps next e = absurd cc
  one_read number instruction (Ok made) (Ok more) bytes has resolves fills jumps next e =
      let are : spelling made ++ more ≡ bytes = cc in
      subst (λ (bs : List ℕ). ArePut labels slot (line ∷ rest) bs) are (one_more instruction made more has resolves fills jumps (next more refl))

  line_read : (number : ℕ) (read : Result (Option Instruction) FaultKind) (later : Result (List ℕ) Fault) (bytes : List ℕ) → line.instruction ≡ read → IfOk read (λ i. IfSome i Fits)
      → IfOk read (λ instruction. IfSome instruction (λ i. IfSome line.target (λ (label : List ℕ). Jumps i)))
      → ((more : List ℕ) → later ≡ Ok more → Behind more) → bytes_in_front labels number slot read line.target later ≡ Ok bytes → ArePut labels slot (line ∷ rest) bytes
  line_read number (Ok (Some instruction)) later bytes has fits jumps next e =
      one_read number instruction (resolved labels slot instruction line.target) later bytes has refl (resolved_fits labels slot instruction line.target fits) jumps next e
  line_read number (Ok None) later bytes has fits jumps next e = nothing_more bytes (λ i is. absurd cc) (ap slots_of_instruction has) (next bytes e)
  line_read number (Err kind) later bytes has fits jumps next e = nothing_more bytes (λ i is. absurd cc) (ap slots_of_instruction has) (next bytes e)

are_put : (labels : LabelMap) (number slot : ℕ) (all : List Line) (bytes : List ℕ) → AllByRecursion LineFits all → AllByRecursion LineJumps all → bytes_of_lines labels number slot all ≡ Ok bytes → ArePut labels slot all bytes
are_put labels number slot [] bytes fits jumps e =
    let none : bytes ≡ [] = cc in
    record { whole = ap length none; each = λ index line instruction at is. absurd cc }
are_put labels number slot (line ∷ rest) bytes fits jumps e =
    line_read labels slot line rest number line.instruction (bytes_of_lines labels (number + 1) (slot + slots_in line) rest) bytes refl fits.0 jumps.0
    (λ more h. are_put labels (number + 1) (slot + slots_in line) rest more fits.1 jumps.1 h) e

-- ---- labels

-- the line that a label of some lines names, where the first begins at this slot
record IsNamed (slot to : ℕ) (all : List Line) (name : List ℕ) : Type 0 where
  pub at : ℕ
  pub labelled : label_of_line all at ≡ Some name
  pub begins : to ≡ slot + slot_of_line all at

named_behind : (slot to : ℕ) (line : Line) (rest : List Line) (name : List ℕ) → IsNamed (slot + slots_in line) to rest name → IsNamed slot to (line ∷ rest) name
named_behind slot to line rest name h = record { at = suc h.at; labelled = h.labelled; begins = omega (arith, h.begins, slot_count-cons line (take h.at rest)) }

named_here : (slot to : ℕ) (line : Line) (rest : List Line) (name : List ℕ) (label : Option (List ℕ)) → line.label ≡ label
    → (slot_named (labels_from (slot + slots_in line) rest) name ≡ Some to → IsNamed (slot + slots_in line) to rest name)
    → slot_named (label_at slot label ++ labels_from (slot + slots_in line) rest) name ≡ Some to → IsNamed slot to (line ∷ rest) name
named_here slot to line rest name None is later e = named_behind slot to line rest name (later e)
named_here slot to line rest name (Some label) is later e = by (bytes_eq label name) refl e
  where
    by : (b : Bool) → bytes_eq label name ≡ b → cond b (Some slot) (slot_named (labels_from (slot + slots_in line) rest) name) ≡ Some to → IsNamed slot to (line ∷ rest) name
    by true same first = record {
      at = 0;
      labelled = is ∙ ap (λ (n : List ℕ). Some n) ((bytes_eq-Decides label name).0 same);
      begins = omega (arith, same_Some slot to first);
    }
    by false other first = named_behind slot to line rest name (later first)

named : (slot to : ℕ) (all : List Line) (name : List ℕ) → slot_named (labels_from slot all) name ≡ Some to → IsNamed slot to all name
named slot to [] name e = absurd cc
named slot to (line ∷ rest) name e = named_here slot to line rest name line.label refl (λ later. named (slot + slots_in line) to rest name later) e

known_behind : (slot : ℕ) (label : Option (List ℕ)) (labels : List (List ℕ × ℕ)) (name : List ℕ) → is_some (slot_named labels name) ≡ true → is_some (slot_named (label_at slot label ++ labels) name) ≡ true
known_behind slot None labels name h = h
known_behind slot (Some label) labels name h = by (bytes_eq label name)
  where
    by : (b : Bool) → is_some (cond b (Some slot) (slot_named labels name)) ≡ true
    by true = refl
    by false = h

-- a label on a line is known
known : (slot : ℕ) (all : List Line) (name : List ℕ) (at : ℕ) → label_of_line all at ≡ Some name → is_some (slot_named (labels_from slot all) name) ≡ true
known slot [] name at e = absurd cc
known slot (line ∷ rest) name zero e =
    let later = labels_from (slot + slots_in line) rest in
    ap (λ (label : Option (List ℕ)). is_some (slot_named (label_at slot label ++ later) name)) e
    ∙ ap (λ (b : Bool). is_some (cond b (Some slot) (slot_named later name))) ((bytes_eq-Decides name name).1 refl)
known slot (line ∷ rest) name (suc at) e = known_behind slot line.label (labels_from (slot + slots_in line) rest) name (known (slot + slots_in line) rest name at e)

label_before : (all : List Line) (count at : ℕ) → at < count → label_of_line (take count all) at ≡ label_of_line all at
label_before all zero at lt = absurd (omega arith)
label_before [] (suc count) at lt = refl
label_before (line ∷ all) (suc count) zero lt = refl
label_before (line ∷ all) (suc count) (suc at) lt = label_before all count at (omega arith)

twice_told : (before : List Line) (name : List ℕ) (line : Option Line) → is_some (label_map before name) ≡ true → option_and_then (λ (l : Line). l.label) line ≡ Some name
    → option_and_then (fault_behind before) line ≡ None → ⊥
twice_told before name None known labelled e = absurd cc
twice_told before name (Some line) known labelled e =
    let twice : is_twice before line ≡ true = ap (λ (label : Option (List ℕ)). is_some (option_and_then (label_map before) label)) labelled ∙ known in
    let told = ap (λ (b : Bool). line_fault b (slot_count before) line.instruction) twice in
    absurd cc

module _ (all : List Line) (faultless : HaveNone (own_fault all)) where
  -- no label is an earlier line's
  once : (name : List ℕ) (at later : ℕ) → at < later → label_of_line all at ≡ Some name → label_of_line all later ≡ Some name → ⊥
  once name at later lt labelled again =
      twice_told (take later all) name (slice_get all later) (known 0 (take later all) name at (label_before all later at lt ∙ labelled)) again (faultless later)

  alone : (name : List ℕ) (at other : ℕ) → label_of_line all at ≡ Some name → label_of_line all other ≡ Some name → other ≡ at
  alone name at other labelled again = by (ltb at other) (ltb other at) refl refl
    where
      by : (later earlier : Bool) → ltb at other ≡ later → ltb other at ≡ earlier → other ≡ at
      by true earlier e f = absurd (once name at other (ltb-true at other e) labelled again)
      by false true e f = absurd (once name other at (ltb-true other at f) again labelled)
      by false false e f = let above = ltb-false at other e in let below = ltb-false other at f in omega (arith, above, below)

  leads : (index : ℕ) (name : List ℕ) (instruction made : Instruction) (to : Option ℕ) → Jumps instruction → label_map all name ≡ to → jump_to instruction (slot_of_line all index) to ≡ Ok made
      → LeadsToLabel all index name instruction made
  leads index name instruction made None jumps is e = absurd cc
  leads index name instruction made (Some to) jumps is e =
      let there = named 0 to all name is in
      let next = slot_of_line all index + 1 in
      let distance = pos to -ℤ pos next in
      record {
        at = there.at;
        labelled = there.labelled;
        alone = λ other again. alone name there.at other there.labelled again;
        distance = distance;
        leads = +ℤ_comm (pos next) (pos to -ℤ pos next) ∙ -ℤ-+ℤ_cancel (pos to) (pos next) ∙ ap pos (let same : to ≡ slot_of_line all there.at = omega (arith, there.begins) in same);
        changed = jumps distance made e;
      }

  made_of : (index : ℕ) (target : Option (List ℕ)) (instruction made : Instruction) → IfSome target (λ (label : List ℕ). Jumps instruction)
      → resolved (label_map all) (slot_of_line all index) instruction target ≡ Ok made → IsMadeOf all index target instruction made
  made_of index None instruction made jumps e = let is : made ≡ instruction = cc in is
  made_of index (Some name) instruction made jumps e = leads index name instruction made (label_map all name) jumps refl e

  in_place : (bytes : List ℕ) (index : ℕ) (line : Line) (instruction : Instruction) → IsPut (label_map all) 0 all bytes index line instruction → IsInPlace all bytes index line instruction
  in_place bytes index line instruction h =
      let same : slot_of_line all index ≡ 0 + slot_of_line all index = omega arith in
      record {
        made = h.made;
        from = made_of index line.target instruction h.made h.jumps (ap (λ (n : ℕ). resolved (label_map all) n instruction line.target) same ∙ h.resolves);
        fits = h.fits;
        spelled = h.spelled;
      }

pub lines_are_in_order : LinesAreInOrder
lines_are_in_order text bytes e =
    let all = lines_of text in
    let done = no_fault (first_fault [] all) (bytes_of_lines (label_map all) 1 0 all) bytes e in
    let faultless = own_none all [] all refl (λ k h. absurd (omega (arith, h))) done.0 in
    let put = are_put (label_map all) 1 0 all bytes (lines_fit (lines text)) (lines_jump (lines text)) done.1 in
    record {
      faultless = faultless;
      whole = put.whole;
      each = λ index line instruction at is. in_place all faultless bytes index line instruction (put.each index line instruction at is);
    }
