-- What the program of a question does with a block: the records one by one, from the start to EXIT.
use Rattle.std.proofs.Common.{ℕ, zero, suc, pos, ◌+◌, ◌*◌, ◌≤◌, ◌≡◌, Bool, true, false, cond, List, [], ◌∷◌, ◌++◌, length, take, drop, replicate, refl, sym, ap, ◌∙◌, subst, arith, append_assoc, length-append}
use Rattle.std.proofs.lemmas.Grind.{flat_map-append}
use Rattle.std.proofs.lemmas.List.{append-nil, drop-drop, length-replicate, map-append}
use Rattle.std.specs.Prelude.{filter}
use Rattle.common_definitions.specs.Bytes.{pieces}
use Rattle.instruction_set.specs.Program.{instruction_count}
use Rattle.instruction_set.specs.declared.instruction.Instruction.TheVariants.{Arithmetic, Exit, Load}
use Rattle.instruction_set.specs.declared.instruction.Source.TheVariants.{Register}
use Rattle.instruction_set.specs.declared.operation.Operation.TheVariants.{Move}
use Rattle.instruction_set.specs.declared.operation.Size.TheVariants.{Word}
use Rattle.instruction_set.specs.declared.operation.Width.TheVariants.{Bits64}
use Rattle.program_interface.specs.Area.{address_of}
use Rattle.program_interface.specs.Frame.{frame}
use Rattle.program_interface.specs.Frame as interface
use Rattle.program_interface.specs.declared.area.Area.TheVariants as areas
use Rattle.program_interface.specs.declared.area.TheConstants.{STACK_BYTES}
use Rattle.program_meaning.specs.BlockRun.{BlockRun, block_run_of}
use Rattle.program_meaning.specs.Memory.{IsMemory}
use Rattle.program_meaning.specs.State.{at_start}
use Rattle.program_meaning.specs.TrapFree.{IsExit}
use Rattle.record_questions.proofs.Accesses.{context_loaded_is, cut_is}
use Rattle.record_questions.proofs.Comparisons.{skipped, skips}
use Rattle.record_questions.proofs.Course.{Course, Temporaries, between}
use Rattle.record_questions.proofs.Groups.{grouped_comes, grouped_slots_are}
use Rattle.record_questions.proofs.Stacking.{emitted_slots_are, stacked_comes}
use Rattle.record_questions.proofs.Matches.{emit_comes}
use Rattle.record_questions.proofs.Numbers.{word_field_fits}
use Rattle.record_questions.proofs.Reaching.{Reaches, begins, ends, goes}
use Rattle.record_questions.proofs.Standing.{Stands, back_stands, front_stands, program_stands, slot_count-append}
use Rattle.record_questions.proofs.Tests.{Comes, at_slot, test_comes}
use Rattle.record_questions.specs.declared.question.ByteRange.{ByteRange}
use Rattle.record_questions.specs.declared.question.Question.{Question}
use Rattle.record_questions.specs.Asked.{AreRanges, IsQuestion, stacked_bytes}
use Rattle.record_questions.specs.Code.{match_code, match_slots, question_code, question_program, emitted_code, record_code, records_code, slot_count, grouped_code, test_code}
use Rattle.record_questions.specs.Laws.{Answers, AnswersBlocks, argument_in}
use Rattle.record_questions.specs.Question.{answer, bytes_in, cut, cuts, matches, matching}
use Rattle.record_questions.specs.Tallies.{group_of, tallied_in, tallied_of}

-- those of one record that match: the record or none
abbrev one : Bool → List ℕ → List (List ℕ)
one b r = cond b (r ∷ []) []

one_first : (b : Bool) (r : List ℕ) (kept : List (List ℕ)) → cond b (r ∷ kept) kept ≡ one b r ++ kept
one_first true r kept = refl
one_first false r kept = refl

pub cuts_both : (ranges : List ByteRange) (xs ys : List (List ℕ)) → cuts ranges (xs ++ ys) ≡ cuts ranges xs ++ cuts ranges ys
cuts_both [] xs ys = refl
cuts_both (range ∷ ranges) xs ys = map-append (cut (range ∷ ranges)) xs ys

cuts_none : (ranges : List ByteRange) → cuts ranges [] ≡ []
cuts_none [] = refl
cuts_none (range ∷ ranges) = refl

pub tallied_both : (q : Question) (xs ys : List (List ℕ)) (scratch : List ℕ)
    → tallied_of q (xs ++ ys) scratch ≡ tallied_of q ys (tallied_of q xs scratch)
tallied_both q [] ys scratch = refl
tallied_both q (x ∷ xs) ys scratch = tallied_both q xs ys (tallied_in q.tallies.items (group_of q.by x) x scratch)

pub match_slots_are : (q : Question) (byte : ℕ) → slot_count (match_code q byte) ≡ match_slots q
match_slots_are q byte =
    let a = grouped_slots_are byte q.by q.tallies.items in
    let b = emitted_slots_are byte q.emitted.items in
    omega (arith, a, b, slot_count-append (grouped_code byte q.by q.tallies.items) (emitted_code byte q.emitted.items))

module _ (w : Course) (q : Question) (is : IsQuestion (length w.memory.block) q) where
  -- the block run comes to this slot, and these records that match are answered, after what was there before
  abbrev Answered : ℕ → List ℕ → List ℕ → ℕ → List (List ℕ) → Type 0
  Answered slot scratch group frames found =
      Comes w (tallied_of q found scratch) (group ++ interface.frames (cuts q.emitted.items found)) (frames + length (cuts q.emitted.items found)) slot

  emitted_comes : (ranges : List ByteRange) (slot byte : ℕ) (scratch group : List ℕ) (frames : ℕ)
      → AreRanges q.size ranges → stacked_bytes ranges ≤ STACK_BYTES → byte + q.size ≤ length w.memory.block
      → Stands w.program slot (emitted_code byte ranges) → Comes w scratch group frames slot
      → let found = take q.size (drop byte w.memory.block) ∷ [] in
      Comes w scratch (group ++ interface.frames (cuts ranges found)) (frames + length (cuts ranges found)) (slot + slot_count (emitted_code byte ranges))
  emitted_comes [] slot byte scratch group frames are room fits stands come =
      let e : slot ≡ slot + 0 = omega arith in
      let f : frames + 0 ≡ frames = omega arith in
      rw (append-nil group, f) (at_slot w scratch group frames _ _ e come)
  emitted_comes (range ∷ []) slot byte scratch group frames are room fits stands come =
      let r = take q.size (drop byte w.memory.block) in
      let same = cut_is w.memory.block byte range.offset range.size q.size are.0.1 in
      rw (append-nil (bytes_in range r), append-nil (frame (bytes_in range r)), same)
      (emit_comes w scratch group frames slot (byte + range.offset) range.size (omega (arith, are.0.1)) stands come)
  emitted_comes (first ∷ second ∷ more) slot byte scratch group frames are room fits stands come =
      let ranges = first ∷ second ∷ more in
      rw (append-nil (frame (cut ranges (take q.size (drop byte w.memory.block)))))
      (stacked_comes w scratch group frames ranges slot byte q.size room are fits stands come)

  nothing_found : (slot : ℕ) (scratch group : List ℕ) (frames : ℕ) → Comes w scratch group frames slot → Answered slot scratch group frames []
  nothing_found slot scratch group frames come =
      let f : frames + 0 ≡ frames = omega arith in
      rw (cuts_none q.emitted.items, append-nil group, f) come

  matched : (b : Bool) (slot long : ℕ) (scratch group : List ℕ) (frames : ℕ) (r : List ℕ)
      → Comes w scratch group frames (slot + skipped (skips true b) long)
      → (Comes w scratch group frames slot → Answered (slot + long) scratch group frames (r ∷ []))
      → Answered (slot + long) scratch group frames (one b r)
  matched true slot long scratch group frames r come act =
      let e : slot + 0 ≡ slot = omega arith in
      act (at_slot w scratch group frames (slot + 0) slot e come)
  matched false slot long scratch group frames r come act = nothing_found (slot + long) scratch group frames come

  record_comes : (slot byte : ℕ) (scratch group : List ℕ) (frames : ℕ) → byte + q.size ≤ length w.memory.block
      → Stands w.program slot (record_code q byte) → Comes w scratch group frames slot
      → let r = take q.size (drop byte w.memory.block) in
      Answered (slot + slot_count (record_code q byte)) scratch group frames (one (matches w.argument q.wanted r) r)
  record_comes slot byte scratch group frames fits stands come =
      let act = match_code q byte in
      let test = test_code byte true q.wanted (match_slots q) in
      let r = take q.size (drop byte w.memory.block) in
      let ts = grouped_code byte q.by q.tallies.items in
      let cs = emitted_code byte q.emitted.items in
      let tested = test_comes w scratch group frames q.wanted true slot byte q.size (match_slots q) is.wanted fits (front_stands w.program slot test act stands) come in
      let acts = back_stands w.program slot test act stands in
      let slots = match_slots_are q byte in
      let e : slot + slot_count test + match_slots q ≡ slot + slot_count (test ++ act) = omega (arith, slots, slot_count-append test act) in
      let f : slot + slot_count test + slot_count ts + slot_count cs ≡ slot + slot_count test + match_slots q = omega (arith, slots, slot_count-append ts cs) in
      at_slot w _ _ _ _ _ e
      (matched (matches w.argument q.wanted r) (slot + slot_count test) (match_slots q) scratch group frames r tested
      (λ there. at_slot w _ _ _ _ _ f
      (emitted_comes q.emitted.items (slot + slot_count test + slot_count ts) byte (tallied_in q.tallies.items (group_of q.by r) r scratch) group frames is.emitted is.stacked fits
      (back_stands w.program (slot + slot_count test) ts cs acts)
      (grouped_comes w group frames byte q.size q.tallies.items scratch is.tallies fits q.by (slot + slot_count test) is.by is.few_tallies
      (front_stands w.program (slot + slot_count test) ts cs acts) there))))

  records_come : (n slot byte : ℕ) (scratch group : List ℕ) (frames : ℕ) → byte + n * q.size ≤ length w.memory.block
      → Stands w.program slot (records_code q n byte) → Comes w scratch group frames slot
      → Answered (slot + slot_count (records_code q n byte)) scratch group frames
      (filter (matches w.argument q.wanted) (pieces q.size n (drop byte w.memory.block)))
  records_come zero slot byte scratch group frames fits stands come =
      let e : slot ≡ slot + 0 = omega arith in
      nothing_found (slot + 0) scratch group frames (at_slot w scratch group frames _ _ e come)
  records_come (suc n) slot byte scratch group frames fits stands come =
      let a = record_code q byte in
      let b = records_code q n (byte + q.size) in
      let r = take q.size (drop byte w.memory.block) in
      let wanted = matches w.argument q.wanted in
      let xs = one (wanted r) r in
      let ys = filter wanted (pieces q.size n (drop (byte + q.size) w.memory.block)) in
      let this = record_comes slot byte scratch group frames (omega arith) (front_stands w.program slot a b stands) come in
      let rest = records_come n (slot + slot_count a) (byte + q.size) _ _ _ (omega arith) (back_stands w.program slot a b stands) this in
      let e : slot + slot_count a + slot_count b ≡ slot + slot_count (a ++ b) = omega (arith, slot_count-append a b) in
      let whole : filter wanted (pieces q.size (suc n) (drop byte w.memory.block)) ≡ xs ++ ys
      = ap (λ zs. filter wanted (r ∷ pieces q.size n zs)) (drop-drop q.size byte w.memory.block) ∙ one_first (wanted r) r ys in
      rw whole (both xs ys (slot + slot_count (a ++ b)) (at_slot w _ _ _ _ _ e rest))
    where
      both : (xs ys : List (List ℕ)) (slot : ℕ)
          → Answered slot (tallied_of q xs scratch) (group ++ interface.frames (cuts q.emitted.items xs)) (frames + length (cuts q.emitted.items xs)) ys
          → Answered slot scratch group frames (xs ++ ys)
      both xs ys slot come =
          let these = cuts q.emitted.items xs in
          let those = cuts q.emitted.items ys in
          let g : group ++ interface.frames (these ++ those) ≡ (group ++ interface.frames these) ++ interface.frames those
          = ap (λ (bytes : List ℕ). group ++ bytes) (flat_map-append frame these those)
          ∙ sym (append_assoc group (interface.frames these) (interface.frames those)) in
          let f : frames + length (these ++ those) ≡ frames + length these + length those = omega (arith, length-append these those) in
          rw (cuts_both q.emitted.items xs ys, g, f, tallied_both q xs ys scratch) come

-- ---- the whole program

-- the registers at the start, but R8, and the stack
abbrev at_first : Temporaries
at_first = record {
  r1 = address_of areas.Context;
  r2 = address_of areas.Block;
  r3 = address_of areas.Scratch;
  r4 = 0;
  r5 = 0;
  stack = replicate STACK_BYTES 0;
  whole = length-replicate {A = ℕ} STACK_BYTES 0;
}

pub answers_from : (q : Question) (limit fuel : ℕ) (bytes context scratch : List ℕ) → IsQuestion (length bytes) q
    → IsMemory (at_start bytes context scratch).memory
    → IsExit (block_run_of (question_program q) limit fuel 0 (at_start bytes context scratch)).end
    → Answers q (argument_in context) bytes scratch (block_run_of (question_program q) limit fuel 0 (at_start bytes context scratch))
answers_from q limit fuel bytes context scratch is fits exits =
    let program = question_program q in
    let start = at_start bytes context scratch in
    let m = start.memory in
    let code = records_code q q.count q.first in
    let stands = program_stands (question_code q) in
    let argument = argument_in context in
    let w : Course = record {
      program = program;
      limit = limit;
      fuel = fuel;
      start = start;
      exits = exits;
      memory = m;
      argument = argument;
      short = fits.block_fits;
      bytes = fits.bytes areas.Block;
      small = word_field_fits context 20 (fits.bytes areas.Context);
    } in
    let raw = goes program limit fuel start exits start (Load Word 8 1 (pos 20)) stands.0 refl (begins program limit fuel start) in
    let told : Reaches program limit fuel start (record start {
      slot = 1;
      registers = 0 ∷ address_of areas.Context ∷ address_of areas.Block ∷ address_of areas.Scratch ∷ 0 ∷ 0 ∷ 0 ∷ 0 ∷ argument ∷ 0
          ∷ (address_of areas.Stack + STACK_BYTES) ∷ [];
    })
    = subst (λ x. Reaches program limit fuel start (record start {
      slot = 1;
      registers = 0 ∷ address_of areas.Context ∷ address_of areas.Block ∷ address_of areas.Scratch ∷ 0 ∷ 0 ∷ 0 ∷ 0 ∷ x ∷ 0
          ∷ (address_of areas.Stack + STACK_BYTES) ∷ [];
    })) (context_loaded_is m fits.block_fits 20 4 (omega arith)) raw in
    let moved = goes program limit fuel start exits _ (Arithmetic Bits64 Move 6 (Register 2)) stands.1.0 refl told in
    let ready : Reaches program limit fuel start (between w 3 at_first scratch [] 0)
    = goes program limit fuel start exits _ (Arithmetic Bits64 Move 7 (Register 3)) stands.1.1.0 refl moved in
    let done = records_come w q is q.count 3 q.first scratch [] 0 is.inside (front_stands program 3 code (Exit ∷ []) stands.1.1.1)
    (record { t = at_first; reached = ready }) in
    let found = matching q argument bytes in
    let emitted = answer q argument bytes in
    let last = ends program limit fuel start exits
    (between w (3 + slot_count code) done.t (tallied_of q found scratch) (interface.frames emitted) (0 + length emitted)) done.reached
    (back_stands program 3 code (Exit ∷ []) stands.1.1.1).0 in
    let f : 0 + length emitted ≡ length emitted = omega arith in
    record {
      goes_on = ap (λ (run : BlockRun). run.end) last;
      group = ap (λ (run : BlockRun). run.state.group) last;
      counted = ap (λ (run : BlockRun). run.state.frames) last ∙ f;
      tallied = ap (λ (run : BlockRun). run.state.memory.scratch) last;
    }

pub answers_blocks : AnswersBlocks
answers_blocks q limit block is never bytes context scratch long start =
    answers_from q limit (instruction_count (question_program q)) bytes context scratch
    (subst (λ n. IsQuestion n q) (sym long) is) start.memory (never bytes context scratch long start).exit
