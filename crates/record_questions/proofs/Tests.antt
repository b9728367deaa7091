-- Where a block run goes after the test of a record.
use Rattle.std.proofs.Common.{ℕ, ℤ, pos, ◌+◌, ◌≤◌, ◌≡◌, Bool, true, false, not, ◌&&◌, ◌||◌, cond, List, [], ◌∷◌, ◌++◌, length, take, drop, Option, Some, None, refl, sym, ap, ◌∙◌, subst, arith, length-drop, length-take}
use Rattle.std.specs.Int.{w64, cast_unsigned}
use Rattle.std.proofs.lemmas.List.{drop-drop}
use Rattle.byteorder.specs.Endian.{little_number}
use Rattle.common_definitions.proofs.Proved.{bytes_from}
use Rattle.common_definitions.specs.Bytes.{AreBytes}
use Rattle.instruction_set.specs.Program.{instruction_at}
use Rattle.instruction_set.specs.declared.instruction.Instruction.TheVariants.{Branch, Jump, LoadImmediate}
use Rattle.instruction_set.specs.declared.instruction.Source.{Source}
use Rattle.instruction_set.specs.declared.operation.Relation.{Relation}
use Rattle.instruction_set.specs.declared.operation.Width.TheVariants.{Bits64}
use Rattle.program_meaning.specs.Effect.{operand}
use Rattle.program_meaning.specs.Step.{slot_number}
use Rattle.program_meaning.specs.Word.{is_taken}
use Rattle.record_questions.proofs.Comparisons.{skipped, skips, taken_is, twice}
use Rattle.record_questions.proofs.Course.{At, Course, Fourth, Temporaries, between, field_comes, holding, moved, operand_comes, registers_of}
use Rattle.record_questions.proofs.Numbers.{argument_is_number, number_fits, record_bytes, signed_is_number, value_is_number}
use Rattle.record_questions.proofs.Reaching.{goes}
use Rattle.record_questions.proofs.Standing.{Stands, back_stands, front_stands, slot_count-append}
use Rattle.instruction_set.specs.Instruction.{size_of, target}
use Rattle.instruction_set.specs.declared.operation.Size.{Size}
use Rattle.record_questions.proofs.ChunkSizes.{total, total_is}
use Rattle.record_questions.proofs.Spelled.{all_chunks, chunks_are}
use Rattle.record_questions.specs.declared.question.Sign.TheVariants.{Unsigned}
use Rattle.record_questions.specs.declared.question.ByteOrder.TheVariants.{Little}
use Rattle.record_questions.specs.declared.question.Comparison.TheVariants.{Equal}
use Rattle.record_questions.specs.declared.question.Field.{Field}
use Rattle.record_questions.specs.declared.question.Comparison.{Comparison}
use Rattle.record_questions.specs.declared.question.Operand.{Operand}
use Rattle.record_questions.specs.declared.question.Operand.TheVariants as operands
use Rattle.record_questions.specs.declared.question.Predicate.{Predicate}
use Rattle.record_questions.specs.declared.question.Predicate.TheVariants.{Compare, Bytes, And', Or', Not'}
use Rattle.record_questions.specs.Asked.{IsNumber, IsOperand, IsPredicate}
use Rattle.record_questions.specs.Code.{bytes_code, bytes_slots, chunk_field, chunk_operand, chunk_sizes, chunks_code, chunks_slots, comparison_code, comparison_slots, extension_of, field_code, field_slots, is_immediate, jump_of, operand_code, operand_slots, over, slot_count, source_of, some_slots, swap_code, extension_code, swap_of, test_code, test_slots}
use Rattle.record_questions.specs.Question.{compares, matches, operand_value, value_of}
use Rattle.record_questions.specs.Tallies.{word_in}
use Rattle.instruction_set.specs.declared.operation.SignExtension.{SignExtension}
use Rattle.instruction_set.specs.declared.operation.SwapSize.{SwapSize}

-- ---- how many slots a test takes

swap_slots : (register : ℕ) (o : Option SwapSize) → slot_count (swap_code register o) ≡ some_slots o
swap_slots register None = refl
swap_slots register (Some size) = refl

extension_slots : (register : ℕ) (o : Option SignExtension) → slot_count (extension_code register o) ≡ some_slots o
extension_slots register None = refl
extension_slots register (Some extension) = refl

pub field_slots_are : (register byte : ℕ) (f : Field) → slot_count (field_code register byte f) ≡ field_slots f
field_slots_are register byte f =
    let a = swap_code register (swap_of f.order f.size) in
    let b = extension_code register (extension_of f.sign f.size) in
    ap (λ n. 1 + n) (slot_count-append a b
    ∙ (ap (λ n. n + slot_count b) (swap_slots register (swap_of f.order f.size))
    ∙ ap (λ n. some_slots (swap_of f.order f.size) + n) (extension_slots register (extension_of f.sign f.size))))

number_slots : (immediate : Bool) (z : ℤ)
    → slot_count (cond immediate [] (LoadImmediate 5 (cast_unsigned w64 z) ∷ [])) ≡ cond immediate 0 2
number_slots true z = refl
number_slots false z = refl

operand_slots_are : (byte : ℕ) (o : Operand) → slot_count (operand_code byte o) ≡ operand_slots o
operand_slots_are byte (operands.Number z) = number_slots (is_immediate z) z
operand_slots_are byte operands.Argument = refl
operand_slots_are byte (operands.Field f) = field_slots_are 5 byte f

comparison_slots_are : (byte : ℕ) (on : Bool) (f : Field) (c : Comparison) (o : Operand) (skip : ℕ)
    → slot_count (comparison_code byte on f c o skip) ≡ comparison_slots f o
comparison_slots_are byte on f c o skip =
    let a = field_slots_are 4 byte f in
    let b = operand_slots_are byte o in
    let jump = Branch Bits64 (jump_of f.sign on c) 4 (source_of o) (pos skip) in
    omega (arith, a, b, slot_count-append (field_code 4 byte f) (operand_code byte o ++ jump ∷ []), slot_count-append (operand_code byte o) (jump ∷ []))

chunks_slots_are : (ss : List Size) (byte offset : ℕ) (these : List ℕ) (skip : ℕ)
    → slot_count (chunks_code byte offset ss these skip) ≡ chunks_slots ss these
chunks_slots_are [] byte offset these skip = refl
chunks_slots_are (s ∷ ss) byte offset these skip =
    let rest = drop (size_of s) these in
    let f = chunk_field s offset in
    let o = chunk_operand s these in
    let further = chunks_slots ss rest + skip in
    slot_count-append (comparison_code byte true f Equal o further) (chunks_code byte (offset + size_of s) ss rest skip)
    ∙ (ap (λ n. n + slot_count (chunks_code byte (offset + size_of s) ss rest skip)) (comparison_slots_are byte true f Equal o further)
    ∙ ap (λ n. comparison_slots f o + n) (chunks_slots_are ss byte (offset + size_of s) rest skip))

bytes_slots_are : (on : Bool) (byte offset : ℕ) (these : List ℕ) (skip : ℕ) → slot_count (bytes_code byte on offset these skip) ≡ bytes_slots on these
bytes_slots_are true byte offset these skip = chunks_slots_are (chunk_sizes (length these)) byte offset these skip
bytes_slots_are false byte offset these skip =
    let a = chunks_slots_are (chunk_sizes (length these)) byte offset these 1 in
    slot_count-append (chunks_code byte offset (chunk_sizes (length these)) these 1) (Jump (pos skip) ∷ []) ∙ ap (λ n. n + 1) a

pub test_slots_are : (p : Predicate) (byte : ℕ) (on : Bool) (skip : ℕ) → slot_count (test_code byte on p skip) ≡ test_slots on p
test_slots_are (Compare f c o) byte on skip = comparison_slots_are byte on f c o skip
test_slots_are (Bytes offset these) byte on skip = bytes_slots_are on byte offset these.items skip
test_slots_are (And' x p y q) byte on skip =
    let a = test_code byte true p (over on (test_slots on q) skip) in
    let b = test_code byte on q skip in
    let e = test_slots_are p byte true (over on (test_slots on q) skip) in
    let f = test_slots_are q byte on skip in
    omega (arith, e, f, slot_count-append a b)
test_slots_are (Or' x p y q) byte on skip =
    let a = test_code byte false p (over (not on) (test_slots on q) skip) in
    let b = test_code byte on q skip in
    let e = test_slots_are p byte false (over (not on) (test_slots on q) skip) in
    let f = test_slots_are q byte on skip in
    omega (arith, e, f, slot_count-append a b)
test_slots_are (Not' x p) byte on skip = test_slots_are p byte (not on) skip

-- ---- which way two codes go, one after the other

and_same : (on b c : Bool) → skips true b ≡ false → skips on (b && c) ≡ skips on c
and_same on true c e = refl
and_same on false c e = cc

or_same : (on b c : Bool) → skips false b ≡ false → skips on (b || c) ≡ skips on c
or_same on false c e = refl
or_same on true c e = cc

and_leads : (on b c : Bool) (n skip : ℕ) → skips true b ≡ true → over on n skip ≡ n + skipped (skips on (b && c)) skip
and_leads true false c n skip e = refl
and_leads false false c n skip e = omega arith
and_leads on true c n skip e = cc

or_leads : (on b c : Bool) (n skip : ℕ) → skips false b ≡ true → over (not on) n skip ≡ n + skipped (skips on (b || c)) skip
or_leads true true c n skip e = omega arith
or_leads false true c n skip e = refl
or_leads on false c n skip e = cc

not_skips : (on b : Bool) → skips (not on) b ≡ skips on (not b)
not_skips true b = twice b
not_skips false b = refl

-- where a jump leads
leads_to : (taken : Bool) (slot skip : ℕ) → slot_number (cond taken (target slot (pos skip)) (pos (slot + 1))) ≡ slot + 1 + skipped taken skip
leads_to true slot skip = refl
leads_to false slot skip = omega arith

module _ (w : Course) (scratch group : List ℕ) (frames : ℕ) where
  -- the block run comes to this slot, between pieces
  pub record Comes (slot : ℕ) : Type 0 where
    pub t : Temporaries
    pub reached : At w scratch group frames slot t

  pub at_slot : (slot other : ℕ) → slot ≡ other → Comes slot → Comes other
  at_slot slot other same c = subst Comes same c

  branch_comes : (relation : Relation) (source : Source) (x y : ℕ) (taken : Bool) (slot skip : ℕ) (t : Temporaries)
      → t.r4 ≡ x → operand (registers_of w.argument t) source ≡ y → is_taken Bits64 relation x y ≡ taken
      → instruction_at w.program slot ≡ Some (Branch Bits64 relation 4 source (pos skip)) → At w scratch group frames slot t
      → Comes (slot + 1 + skipped taken skip)
  branch_comes relation source x y taken slot skip t first second e stands r =
      let raw = goes w.program w.limit w.fuel w.start w.exits (between w slot t scratch group frames)
      (Branch Bits64 relation 4 source (pos skip)) stands refl r in
      let same : is_taken Bits64 relation t.r4 (operand (registers_of w.argument t) source) ≡ taken
      = ap (λ k. is_taken Bits64 relation k (operand (registers_of w.argument t) source)) first ∙ (ap (is_taken Bits64 relation x) second ∙ e) in
      let there = ap (λ (b : Bool). slot_number (cond b (target slot (pos skip)) (pos (slot + 1)))) same ∙ leads_to taken slot skip in
      record { t = t; reached = subst (λ k. At w scratch group frames k t) there raw }

  comparison_comes : (f : Field) (c : Comparison) (o : Operand) (on : Bool) (slot byte size skip : ℕ)
      → IsPredicate size (Compare f c o) → byte + size ≤ length w.memory.block
      → Stands w.program slot (test_code byte on (Compare f c o) skip) → Comes slot
      → Comes (slot + slot_count (test_code byte on (Compare f c o) skip)
      + skipped (skips on (matches w.argument (Compare f c o) (take size (drop byte w.memory.block)))) skip)
  comparison_comes f c o on slot byte size skip is fits stands come =
      let r = take size (drop byte w.memory.block) in
      let a = field_code 4 byte f in
      let b = operand_code byte o in
      let jump = Branch Bits64 (jump_of f.sign on c) 4 (source_of o) (pos skip) in
      let bytes = record_bytes size byte w.memory.block w.bytes in
      let x = value_of f r in
      let y = operand_value w.argument o r in
      let later = back_stands w.program slot a (b ++ jump ∷ []) stands in
      let loaded = field_comes w scratch group frames Fourth f slot byte size come.t is.0 fits (front_stands w.program slot a (b ++ jump ∷ []) stands) come.reached in
      let ready = operand_comes w scratch group frames o f (slot + slot_count a) byte size (holding Fourth (word_in f r) come.t) is.1 fits
      (front_stands w.program (slot + slot_count a) b (jump ∷ []) later) loaded in
      let taken = taken_is f.sign on c x y (value_is_number f r bytes) (operand_is_number o f size r is.1 bytes) in
      let jumped = branch_comes (jump_of f.sign on c) (source_of o) (cast_unsigned w64 x) (cast_unsigned w64 y) (skips on (compares c x y))
      (slot + slot_count a + slot_count b) skip ready.t ready.first ready.second taken
      (back_stands w.program (slot + slot_count a) b (jump ∷ []) later).0 ready.reached in
      let n = skipped (skips on (compares c x y)) skip in
      let e : slot + slot_count a + slot_count b + 1 + n ≡ slot + slot_count (a ++ (b ++ jump ∷ [])) + n
      = omega (arith, slot_count-append a (b ++ jump ∷ []), slot_count-append b (jump ∷ [])) in
      at_slot _ _ e jumped
    where
      operand_is_number : (o : Operand) (f : Field) (size : ℕ) (r : List ℕ) → IsOperand size f.sign o → AreBytes r
          → IsNumber f.sign (operand_value w.argument o r)
      operand_is_number (operands.Number z) f size r is bytes = is
      operand_is_number operands.Argument f size r is bytes = argument_is_number f.sign w.argument w.small
      operand_is_number (operands.Field g) f size r is bytes = subst (λ sign. IsNumber sign (value_of g r)) is.1 (value_is_number g r bytes)

  -- two codes, one after the other, where the program goes on in the second just where the first isn't skipped
  joined : (slot a b n skip other : ℕ) (skip_a skip_b skip_both : Bool) → n ≡ a + b
      → (skip_a ≡ false → skip_both ≡ skip_b) → (skip_a ≡ true → other ≡ b + skipped skip_both skip)
      → Comes (slot + a + skipped skip_a other)
      → (Comes (slot + a) → Comes (slot + a + b + skipped skip_b skip))
      → Comes (slot + n + skipped skip_both skip)
  joined slot a b n skip other false skip_b skip_both long same leads first next =
      let e : slot + a + 0 ≡ slot + a = omega arith in
      let there = next (at_slot _ _ e first) in
      at_slot _ _ (rw (same refl) (omega (arith, long))) there
  joined slot a b n skip other true skip_b skip_both long same leads first next =
      at_slot _ _ (omega (arith, long, leads refl)) first

  -- the code of chunks is skipped just where one of them differs
  chunks_come : (ss : List Size) (slot byte size offset : ℕ) (these : List ℕ) (skip : ℕ) → offset + total ss ≤ size → AreBytes these
      → byte + size ≤ length w.memory.block
      → Stands w.program slot (chunks_code byte offset ss these skip) → Comes slot
      → Comes (slot + slot_count (chunks_code byte offset ss these skip)
      + skipped (skips true (all_chunks ss these (drop offset (take size (drop byte w.memory.block))))) skip)
  chunks_come [] slot byte size offset these skip inside are fits stands come =
      let e : slot ≡ slot + 0 + 0 = omega arith in
      at_slot _ _ e come
  chunks_come (s ∷ ss) slot byte size offset these skip inside are fits stands come =
      let r = take size (drop byte w.memory.block) in
      let n = size_of s in
      let rest = drop n these in
      let f = chunk_field s offset in
      let o = chunk_operand s these in
      let other = chunks_slots ss rest + skip in
      let a = comparison_code byte true f Equal o other in
      let b = chunks_code byte (offset + n) ss rest skip in
      let this = compares Equal (value_of f r) (operand_value w.argument o r) in
      let that = all_chunks ss rest (drop (offset + n) r) in
      let number = signed_is_number Unsigned s (little_number n these) (number_fits Little n these are) in
      let first = comparison_comes f Equal o true slot byte size other (omega (arith, inside), number) fits (front_stands w.program slot a b stands) come in
      let both = joined slot (slot_count a) (slot_count b) (slot_count (a ++ b)) skip other (skips true this) (skips true that) (skips true (this && that))
      (slot_count-append a b) (and_same true this that)
      (λ e. and_leads true this that (chunks_slots ss rest) skip e
      ∙ ap (λ k. k + skipped (skips true (this && that)) skip) (sym (chunks_slots_are ss byte (offset + n) rest skip)))
      first
      (λ there. chunks_come ss (slot + slot_count a) byte size (offset + n) rest skip (omega (arith, inside)) (bytes_from n these are) fits
      (back_stands w.program slot a b stands) there) in
      subst (λ xs. Comes (slot + slot_count (a ++ b) + skipped (skips true (this && all_chunks ss rest xs)) skip)) (sym (drop-drop n offset r)) both

  -- a jump that is jumped over where the bytes differ
  jump_comes : (same : Bool) (slot n skip : ℕ) → instruction_at w.program (slot + n) ≡ Some (Jump (pos skip))
      → Comes (slot + n + skipped (skips true same) 1) → Comes (slot + (n + 1) + skipped (skips false same) skip)
  jump_comes true slot n skip stands come =
      let e : slot + n + 0 ≡ slot + n = omega arith in
      let there = at_slot _ _ e come in
      let raw = goes w.program w.limit w.fuel w.start w.exits (between w (slot + n) there.t scratch group frames) (Jump (pos skip)) stands refl there.reached in
      let f : slot + n + 1 + skip ≡ slot + (n + 1) + skip = omega arith in
      record { t = there.t; reached = moved w scratch group frames _ _ there.t f raw }
  jump_comes false slot n skip stands come = at_slot _ _ (omega arith) come

  bytes_come : (on : Bool) (slot byte size offset : ℕ) (these : List ℕ) (skip : ℕ) → offset + length these ≤ size → AreBytes these
      → byte + size ≤ length w.memory.block
      → Stands w.program slot (bytes_code byte on offset these skip) → Comes slot
      → Comes (slot + slot_count (bytes_code byte on offset these skip)
      + skipped (skips on (all_chunks (chunk_sizes (length these)) these (drop offset (take size (drop byte w.memory.block))))) skip)
  bytes_come true slot byte size offset these skip inside are fits stands come =
      let all = total_is (length these) in
      chunks_come (chunk_sizes (length these)) slot byte size offset these skip (omega (arith, inside, all)) are fits stands come
  bytes_come false slot byte size offset these skip inside are fits stands come =
      let all = total_is (length these) in
      let ss = chunk_sizes (length these) in
      let a = chunks_code byte offset ss these 1 in
      let b = Jump (pos skip) ∷ [] in
      let first = chunks_come ss slot byte size offset these 1 (omega (arith, inside, all)) are fits (front_stands w.program slot a b stands) come in
      rw (slot_count-append a b)
      (jump_comes (all_chunks ss these (drop offset (take size (drop byte w.memory.block)))) slot (slot_count a) skip
      (back_stands w.program slot a b stands).0 first)

  pub test_comes : (p : Predicate) (on : Bool) (slot byte size skip : ℕ) → IsPredicate size p → byte + size ≤ length w.memory.block
      → Stands w.program slot (test_code byte on p skip) → Comes slot
      → Comes (slot + slot_count (test_code byte on p skip)
      + skipped (skips on (matches w.argument p (take size (drop byte w.memory.block)))) skip)
  test_comes (Compare f c o) on slot byte size skip is fits stands come = comparison_comes f c o on slot byte size skip is fits stands come
  test_comes (Bytes offset bytes) on slot byte size skip is fits stands come =
      let r = take size (drop byte w.memory.block) in
      let dropped = length-drop byte w.memory.block in
      let taken = length-take size (drop byte w.memory.block) in
      let left = length-drop offset r in
      let whole = chunks_are bytes.items (drop offset r) (omega (arith, is.1, fits, dropped, taken, left)) is.2
      (bytes_from offset r (record_bytes size byte w.memory.block w.bytes)) in
      subst (λ b. Comes (slot + slot_count (bytes_code byte on offset bytes.items skip) + skipped (skips on b) skip)) whole
      (bytes_come on slot byte size offset bytes.items skip is.1 is.2 fits stands come)
  test_comes (And' x p y q) on slot byte size skip is fits stands come =
      let other = over on (test_slots on q) skip in
      let a = test_code byte true p other in
      let b = test_code byte on q skip in
      let r = take size (drop byte w.memory.block) in
      let this = matches w.argument p r in
      let that = matches w.argument q r in
      joined slot (slot_count a) (slot_count b) (slot_count (a ++ b)) skip other (skips true this) (skips on that) (skips on (this && that))
      (slot_count-append a b) (and_same on this that)
      (λ e. and_leads on this that (test_slots on q) skip e ∙ ap (λ n. n + skipped (skips on (this && that)) skip) (sym (test_slots_are q byte on skip)))
      (test_comes p true slot byte size other is.0 fits (front_stands w.program slot a b stands) come)
      (λ there. test_comes q on (slot + slot_count a) byte size skip is.1 fits (back_stands w.program slot a b stands) there)
  test_comes (Or' x p y q) on slot byte size skip is fits stands come =
      let other = over (not on) (test_slots on q) skip in
      let a = test_code byte false p other in
      let b = test_code byte on q skip in
      let r = take size (drop byte w.memory.block) in
      let this = matches w.argument p r in
      let that = matches w.argument q r in
      joined slot (slot_count a) (slot_count b) (slot_count (a ++ b)) skip other (skips false this) (skips on that) (skips on (this || that))
      (slot_count-append a b) (or_same on this that)
      (λ e. or_leads on this that (test_slots on q) skip e ∙ ap (λ n. n + skipped (skips on (this || that)) skip) (sym (test_slots_are q byte on skip)))
      (test_comes p false slot byte size other is.0 fits (front_stands w.program slot a b stands) come)
      (λ there. test_comes q on (slot + slot_count a) byte size skip is.1 fits (back_stands w.program slot a b stands) there)
  test_comes (Not' x p) on slot byte size skip is fits stands come =
      subst (λ b. Comes (slot + slot_count (test_code byte (not on) p skip) + skipped b skip))
      (not_skips on (matches w.argument p (take size (drop byte w.memory.block))))
      (test_comes p (not on) slot byte size skip is fits stands come)
