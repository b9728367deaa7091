-- What a block run does of a record that matches: its tallies and its frame.
use Rattle.std.proofs.Common.{ℕ, pos, ◌+◌, ◌-◌, ◌*◌, ◌<◌, ◌≤◌, ◌^◌, ◌%◌, ◌≡◌, Bool, true, false, cond, List, [], ◌∷◌, ◌++◌, length, take, drop, Some, refl, ap, ◌∙◌, subst, arith}
use Rattle.std.proofs.Math.Nat.{mod-eq_of_lt}
use Rattle.std.proofs.lemmas.Bool.{leb-true}
use Rattle.std.proofs.lemmas.Bool.Decides.{nat_tests}
use Rattle.std.specs.Prelude.{max, nat_le, neg_ℤ}
use Rattle.byteorder.specs.Endian.{little_bytes}
use Rattle.common_definitions.specs.Bytes.{field, spliced}
use Rattle.instruction_set.specs.Instruction.{immediate_word, target}
use Rattle.instruction_set.specs.Program.{instruction_at}
use Rattle.instruction_set.specs.declared.instruction.Instruction.TheVariants.{Load, LoadImmediate, Arithmetic, Branch, Call, Negate, StoreRegister}
use Rattle.instruction_set.specs.declared.instruction.Source.TheVariants.{Immediate, Register}
use Rattle.instruction_set.specs.declared.operation.Operation.TheVariants.{Add, Move}
use Rattle.instruction_set.specs.declared.operation.Size.TheVariants.{DoubleWord}
use Rattle.instruction_set.specs.declared.operation.Relation.TheVariants as jumps
use Rattle.instruction_set.specs.declared.operation.Width.TheVariants.{Bits64}
use Rattle.program_interface.specs.Area.{address_of}
use Rattle.program_interface.specs.Frame.{frame}
use Rattle.program_interface.specs.declared.area.Area.TheVariants.{Block, Scratch}
use Rattle.program_interface.specs.declared.area.TheConstants.{SCRATCH_BYTES}
use Rattle.program_interface.specs.declared.frame.TheConstants.{EMIT}
use Rattle.program_meaning.specs.Effect.{bytes_at}
use Rattle.program_meaning.specs.Memory.{Memory, loaded, stored}
use Rattle.program_meaning.specs.Step.{slot_number}
use Rattle.record_questions.proofs.Accesses.{address_is, emitted_is, scratch_loaded_is, scratch_stored_is}
use Rattle.record_questions.proofs.Course.{At, ComesTo, Course, Fifth, Temporaries, between, field_comes, moved}
use Rattle.record_questions.proofs.Numbers.{record_bytes, value_is_number}
use Rattle.record_questions.proofs.Ranks.{rank_in_fits, rank_word, rank_word_is}
use Rattle.record_questions.proofs.Reaching.{goes}
use Rattle.record_questions.proofs.Standing.{Stands, back_stands, front_stands, slot_count-append}
use Rattle.record_questions.proofs.Tests.{Comes, at_slot, field_slots_are}
use Rattle.record_questions.specs.declared.question.Sign.{Sign}
use Rattle.record_questions.specs.declared.question.Sign.TheVariants.{Unsigned, Signed}
use Rattle.record_questions.specs.declared.question.Field.{Field}
use Rattle.record_questions.specs.declared.question.Tally.{Tally}
use Rattle.record_questions.specs.declared.question.Tally.TheVariants.{Count, Sum, Least, Greatest}
use Rattle.record_questions.specs.Asked.{AreTallies, IsField, IsTally}
use Rattle.record_questions.specs.Code.{change_code, change_slots, emit_code, field_code, rank_code, rank_slots, ranked_code, ranked_slots, slot_count, taken_code, taken_slots, tallies_code, tallies_slots, tally_code}
use Rattle.record_questions.specs.Question.{value_of}
use Rattle.record_questions.specs.Tallies.{rank_in, tallied_from, tally_step, word_in}

-- ---- how many slots tallies take

rank_slots_are : (sign : Sign) → slot_count (rank_code sign) ≡ rank_slots sign
rank_slots_are Unsigned = refl
rank_slots_are Signed = refl

ranked_slots_are : (byte : ℕ) (f : Field) → slot_count (ranked_code byte f) ≡ ranked_slots f
ranked_slots_are byte f =
    let a = field_slots_are 5 byte f in
    let b = rank_slots_are f.sign in
    omega (arith, a, b, slot_count-append (field_code 5 byte f) (rank_code f.sign))

taken_slots_are : (byte : ℕ) (y : Tally) → slot_count (taken_code byte y) ≡ taken_slots y
taken_slots_are byte Count = refl
taken_slots_are byte (Sum f) = field_slots_are 5 byte f
taken_slots_are byte (Least f) =
    let a = ranked_slots_are byte f in
    let turned = Negate Bits64 5 ∷ Arithmetic Bits64 Add 5 (Immediate (neg_ℤ (pos 1))) ∷ [] in
    omega (arith, a, slot_count-append (ranked_code byte f) turned)
taken_slots_are byte (Greatest f) = ranked_slots_are byte f

change_slots_are : (y : Tally) → slot_count (change_code y) ≡ change_slots y
change_slots_are Count = refl
change_slots_are (Sum f) = refl
change_slots_are (Least f) = refl
change_slots_are (Greatest f) = refl

tally_slots_are : (base byte at : ℕ) (y : Tally) → slot_count (tally_code base byte at y) ≡ taken_slots y + (change_slots y + 2)
tally_slots_are base byte at y =
    let a = taken_slots_are byte y in
    let b = change_slots_are y in
    let store = StoreRegister DoubleWord base 4 (pos at) ∷ [] in
    omega (
      arith,
      a,
      b,
      slot_count-append (taken_code byte y) (Load DoubleWord 4 base (pos at) ∷ (change_code y ++ store)),
      slot_count-append (change_code y) store,
    )

pub tallies_slots_are : (base byte at : ℕ) (ys : List Tally) → slot_count (tallies_code base byte at ys) ≡ tallies_slots ys
tallies_slots_are base byte at [] = refl
tallies_slots_are base byte at (y ∷ ys) =
    let a = tally_slots_are base byte at y in
    let b = tallies_slots_are base byte (at + 8) ys in
    omega (arith, a, b, slot_count-append (tally_code base byte at y) (tallies_code base byte (at + 8) ys))

-- ---- what a tally takes of a record

-- the number that a tally takes
abbrev pub taken_of : Tally → List ℕ → ℕ → ℕ
taken_of Count r before = before
taken_of (Sum f) r before = word_in f r
taken_of (Least f) r before = 2 ^ 64 - 1 - rank_in f r
taken_of (Greatest f) r before = rank_in f r

-- what R4 has then
abbrev after_rank : Sign → ℕ → ℕ
after_rank Unsigned before = before
after_rank Signed before = 2 ^ 63

abbrev after_taken : Tally → ℕ → ℕ
after_taken Count before = before
after_taken (Sum f) before = before
after_taken (Least f) before = after_rank f.sign before
after_taken (Greatest f) before = after_rank f.sign before

-- the word after the record
abbrev pub changed : Tally → ℕ → ℕ → ℕ
changed Count word x = (word + 1) % 2 ^ 64
changed (Sum f) word x = (word + x) % 2 ^ 64
changed (Least f) word x = max word x
changed (Greatest f) word x = max word x

changed_is : (y : Tally) (r : List ℕ) (word before : ℕ) → changed y word (taken_of y r before) ≡ tally_step y r word
changed_is Count r word before = refl
changed_is (Sum f) r word before = refl
changed_is (Least f) r word before = refl
changed_is (Greatest f) r word before = refl

left : (x : ℕ) → x < 2 ^ 64 → ((2 ^ 64 - x) % 2 ^ 64 + immediate_word (neg_ℤ (pos 1))) % 2 ^ 64 ≡ 2 ^ 64 - 1 - x
left x small = omega arith

max_first : (w x : ℕ) → x ≤ w → w ≡ max w x
max_first w x le = omega arith

max_second : (w x : ℕ) → nat_le x w ≡ false → x ≡ max w x
max_second w x e = grind (arith, nat_tests)

-- the register with the address of a group's first word: R7, that of scratch, or R3
pub data Base : Type 0 where
  Seventh : Base
  Third : Base

abbrev pub base_register : Base → ℕ
base_register Seventh = 7
base_register Third = 3

-- it has the address of a byte of scratch, where R3 is so
abbrev pub IsBase : Base → ℕ → ℕ → Type 0
IsBase Seventh start third = start ≡ 0
IsBase Third start third = third ≡ address_of Scratch + start

module _ (w : Course) (group : List ℕ) (frames : ℕ) where
  -- the block run comes to this slot, between pieces, with that address
  pub record Based (b : Base) (start : ℕ) (scratch : List ℕ) (slot : ℕ) : Type 0 where
    pub t : Temporaries
    pub reached : At w scratch group frames slot t
    pub base : IsBase b start t.r3

  -- ---- words of scratch

  word_loaded : (b : Base) (start slot at place : ℕ) (scratch : List ℕ) (t : Temporaries) → IsBase b start t.r3 → place ≡ start + at
      → place + 8 ≤ SCRATCH_BYTES → instruction_at w.program slot ≡ Some (Load DoubleWord 4 (base_register b) (pos at))
      → At w scratch group frames slot t → At w scratch group frames (slot + 1) (record t { r4 = field scratch place 8 })
  word_loaded Seventh start slot at place scratch t is e inside stands r =
      let m = record w.memory { scratch = scratch; stack = t.stack } in
      let same : at ≡ place = omega (arith, e, is) in
      subst (λ x. At w scratch group frames (slot + 1) (record t { r4 = x }))
      (ap (λ (k : ℕ). loaded m ((address_of Scratch + k) % 2 ^ 64) 8) same ∙ scratch_loaded_is m w.short place inside)
      (goes w.program w.limit w.fuel w.start w.exits (between w slot t scratch group frames) (Load DoubleWord 4 7 (pos at)) stands refl r)
  word_loaded Third start slot at place scratch t is e inside stands r =
      let m = record w.memory { scratch = scratch; stack = t.stack } in
      let same : t.r3 + at ≡ address_of Scratch + place = omega (arith, e, is) in
      subst (λ x. At w scratch group frames (slot + 1) (record t { r4 = x }))
      (ap (λ (k : ℕ). loaded m (k % 2 ^ 64) 8) same ∙ scratch_loaded_is m w.short place inside)
      (goes w.program w.limit w.fuel w.start w.exits (between w slot t scratch group frames) (Load DoubleWord 4 3 (pos at)) stands refl r)

  word_stored : (b : Base) (start slot at place : ℕ) (scratch : List ℕ) (t : Temporaries) → IsBase b start t.r3 → place ≡ start + at
      → place + 8 ≤ SCRATCH_BYTES → instruction_at w.program slot ≡ Some (StoreRegister DoubleWord (base_register b) 4 (pos at))
      → At w scratch group frames slot t → At w (spliced place (little_bytes 8 t.r4) scratch) group frames (slot + 1) t
  word_stored Seventh start slot at place scratch t is e inside stands r =
      let m = record w.memory { scratch = scratch; stack = t.stack } in
      let same : at ≡ place = omega (arith, e, is) in
      subst (λ (n : Memory). ComesTo w (record (between w (slot + 1) t scratch group frames) { memory = n }))
      (ap (λ (k : ℕ). stored m ((address_of Scratch + k) % 2 ^ 64) DoubleWord t.r4) same ∙ scratch_stored_is m w.short place inside t.r4)
      (goes w.program w.limit w.fuel w.start w.exits (between w slot t scratch group frames) (StoreRegister DoubleWord 7 4 (pos at)) stands refl r)
  word_stored Third start slot at place scratch t is e inside stands r =
      let m = record w.memory { scratch = scratch; stack = t.stack } in
      let same : t.r3 + at ≡ address_of Scratch + place = omega (arith, e, is) in
      subst (λ (n : Memory). ComesTo w (record (between w (slot + 1) t scratch group frames) { memory = n }))
      (ap (λ (k : ℕ). stored m (k % 2 ^ 64) DoubleWord t.r4) same ∙ scratch_stored_is m w.short place inside t.r4)
      (goes w.program w.limit w.fuel w.start w.exits (between w slot t scratch group frames) (StoreRegister DoubleWord 3 4 (pos at)) stands refl r)

  -- ---- one tally

  module _ (scratch : List ℕ) where
    rank_comes : (sign : Sign) (slot word : ℕ) (t : Temporaries) → Stands w.program slot (rank_code sign)
        → At w scratch group frames slot (record t { r5 = word })
        → At w scratch group frames (slot + slot_count (rank_code sign)) (record t { r4 = after_rank sign t.r4; r5 = rank_word sign word })
    rank_comes Unsigned slot word t stands r = let e : slot ≡ slot + 0 = omega arith in moved w scratch group frames _ _ (record t { r5 = word }) e r
    rank_comes Signed slot word t stands r =
        let a : At w scratch group frames (slot + 2) (record t { r4 = 2 ^ 63; r5 = word })
        = goes w.program w.limit w.fuel w.start w.exits (between w slot (record t { r5 = word }) scratch group frames) (LoadImmediate 4 (2 ^ 63)) stands.0 refl r in
        let b : At w scratch group frames (slot + 2 + 1) (record t { r4 = 2 ^ 63; r5 = (word + 2 ^ 63) % 2 ^ 64 })
        = goes w.program w.limit w.fuel w.start w.exits (between w (slot + 2) (record t { r4 = 2 ^ 63; r5 = word }) scratch group frames)
        (Arithmetic Bits64 Add 5 (Register 4)) stands.1.0 refl a in
        let e : slot + 2 + 1 ≡ slot + 3 = omega arith in
        moved w scratch group frames _ _ (record t { r4 = 2 ^ 63; r5 = (word + 2 ^ 63) % 2 ^ 64 }) e b

    ranked_comes : (f : Field) (slot byte size : ℕ) (t : Temporaries) → IsField size f → byte + size ≤ length w.memory.block
        → Stands w.program slot (ranked_code byte f) → At w scratch group frames slot t
        → At w scratch group frames (slot + slot_count (ranked_code byte f))
        (record t { r4 = after_rank f.sign t.r4; r5 = rank_in f (take size (drop byte w.memory.block)) })
    ranked_comes f slot byte size t is fits stands r =
        let block = w.memory.block in
        let bytes = take size (drop byte block) in
        let load = field_code 5 byte f in
        let rank = rank_code f.sign in
        let a = field_comes w scratch group frames Fifth f slot byte size t is fits (front_stands w.program slot load rank stands) r in
        let b = rank_comes f.sign (slot + slot_count load) (word_in f bytes) t (back_stands w.program slot load rank stands) a in
        let e : slot + slot_count load + slot_count rank ≡ slot + slot_count (load ++ rank) = omega (arith, slot_count-append load rank) in
        let same = rank_word_is f.sign (value_of f bytes) (value_is_number f bytes (record_bytes size byte block w.bytes)) in
        subst (λ x. At w scratch group frames (slot + slot_count (load ++ rank)) (record t { r4 = after_rank f.sign t.r4; r5 = x })) same
        (moved w scratch group frames _ _ (record t { r4 = after_rank f.sign t.r4; r5 = rank_word f.sign (word_in f bytes) }) e b)

    taken_comes : (y : Tally) (slot byte size : ℕ) (t : Temporaries) → IsTally size y → byte + size ≤ length w.memory.block
        → Stands w.program slot (taken_code byte y) → At w scratch group frames slot t
        → At w scratch group frames (slot + slot_count (taken_code byte y))
        (record t { r4 = after_taken y t.r4; r5 = taken_of y (take size (drop byte w.memory.block)) t.r5 })
    taken_comes Count slot byte size t is fits stands r = let e : slot ≡ slot + 0 = omega arith in moved w scratch group frames _ _ t e r
    taken_comes (Sum f) slot byte size t is fits stands r = field_comes w scratch group frames Fifth f slot byte size t is fits stands r
    taken_comes (Greatest f) slot byte size t is fits stands r = ranked_comes f slot byte size t is fits stands r
    taken_comes (Least f) slot byte size t is fits stands r =
        let block = w.memory.block in
        let bytes = take size (drop byte block) in
        let x = rank_in f bytes in
        let load = ranked_code byte f in
        let turned = Negate Bits64 5 ∷ Arithmetic Bits64 Add 5 (Immediate (neg_ℤ (pos 1))) ∷ [] in
        let n = slot + slot_count load in
        let u = record t { r4 = after_rank f.sign t.r4 } in
        let later = back_stands w.program slot load turned stands in
        let a = ranked_comes f slot byte size t is fits (front_stands w.program slot load turned stands) r in
        let b : At w scratch group frames (n + 1) (record u { r5 = (2 ^ 64 - x) % 2 ^ 64 })
        = goes w.program w.limit w.fuel w.start w.exits (between w n (record u { r5 = x }) scratch group frames) (Negate Bits64 5) later.0 refl a in
        let c : At w scratch group frames (n + 1 + 1) (record u { r5 = ((2 ^ 64 - x) % 2 ^ 64 + immediate_word (neg_ℤ (pos 1))) % 2 ^ 64 })
        = goes w.program w.limit w.fuel w.start w.exits (between w (n + 1) (record u { r5 = (2 ^ 64 - x) % 2 ^ 64 }) scratch group frames)
        (Arithmetic Bits64 Add 5 (Immediate (neg_ℤ (pos 1)))) later.1.0 refl b in
        let e : n + 1 + 1 ≡ slot + slot_count (load ++ turned) = omega (arith, slot_count-append load turned) in
        subst (λ v. At w scratch group frames (slot + slot_count (load ++ turned)) (record u { r5 = v }))
        (left x (rank_in_fits f bytes (record_bytes size byte block w.bytes))) (moved w scratch group frames _ _ (record u { r5 = ((2 ^ 64 - x) % 2 ^ 64 + immediate_word (neg_ℤ (pos 1))) % 2 ^ 64 }) e c)

    greater : (b : Bool) (slot v x : ℕ) (t : Temporaries) → t.r4 ≡ v → t.r5 ≡ x → nat_le x v ≡ b
        → instruction_at w.program (slot + 1) ≡ Some (Arithmetic Bits64 Move 4 (Register 5))
        → At w scratch group frames (slot_number (cond b (target slot (pos 1)) (pos (slot + 1)))) t
        → At w scratch group frames (slot + 2) (record t { r4 = max v x })
    greater true slot v x t e4 e5 e stands r =
        let same : t.r4 ≡ max v x = e4 ∙ max_first v x (leb-true x v e) in
        let s : slot + 1 + 1 ≡ slot + 2 = omega arith in
        subst (λ y. At w scratch group frames (slot + 2) (record t { r4 = y })) same (moved w scratch group frames _ _ t s r)
    greater false slot v x t e4 e5 e stands r =
        let raw : At w scratch group frames (slot + 1 + 1) (record t { r4 = t.r5 })
        = goes w.program w.limit w.fuel w.start w.exits (between w (slot + 1) t scratch group frames) (Arithmetic Bits64 Move 4 (Register 5)) stands refl r in
        let same : t.r5 ≡ max v x = e5 ∙ max_second v x e in
        let s : slot + 1 + 1 ≡ slot + 2 = omega arith in
        subst (λ y. At w scratch group frames (slot + 2) (record t { r4 = y })) same (moved w scratch group frames _ _ (record t { r4 = t.r5 }) s raw)

    greatest_comes : (slot : ℕ) (t : Temporaries)
        → Stands w.program slot (Branch Bits64 jumps.GreaterOrEqual 4 (Register 5) (pos 1) ∷ Arithmetic Bits64 Move 4 (Register 5) ∷ [])
        → At w scratch group frames slot t → At w scratch group frames (slot + 2) (record t { r4 = max t.r4 t.r5 })
    greatest_comes slot t stands r =
        greater (nat_le t.r5 t.r4) slot t.r4 t.r5 t refl refl refl stands.1.0
        (goes w.program w.limit w.fuel w.start w.exits (between w slot t scratch group frames)
        (Branch Bits64 jumps.GreaterOrEqual 4 (Register 5) (pos 1)) stands.0 refl r)

    change_comes : (y : Tally) (slot : ℕ) (t : Temporaries) → Stands w.program slot (change_code y) → At w scratch group frames slot t
        → At w scratch group frames (slot + slot_count (change_code y)) (record t { r4 = changed y t.r4 t.r5 })
    change_comes Count slot t stands r =
        goes w.program w.limit w.fuel w.start w.exits (between w slot t scratch group frames) (Arithmetic Bits64 Add 4 (Immediate (pos 1))) stands.0 refl r
    change_comes (Sum f) slot t stands r =
        goes w.program w.limit w.fuel w.start w.exits (between w slot t scratch group frames) (Arithmetic Bits64 Add 4 (Register 5)) stands.0 refl r
    change_comes (Least f) slot t stands r = greatest_comes slot t stands r
    change_comes (Greatest f) slot t stands r = greatest_comes slot t stands r

    tally_comes : (y : Tally) (b : Base) (start slot byte size at place : ℕ) → IsTally size y → byte + size ≤ length w.memory.block
        → place ≡ start + at → place + 8 ≤ SCRATCH_BYTES
        → Stands w.program slot (tally_code (base_register b) byte at y) → Based b start scratch slot
        → Based b start (spliced place (little_bytes 8 (tally_step y (take size (drop byte w.memory.block)) (field scratch place 8))) scratch)
        (slot + slot_count (tally_code (base_register b) byte at y))
    tally_comes y b start slot byte size at place is fits e room stands come =
        let r = take size (drop byte w.memory.block) in
        let a = taken_code byte y in
        let c = change_code y in
        let store = StoreRegister DoubleWord (base_register b) 4 (pos at) ∷ [] in
        let rest = Load DoubleWord 4 (base_register b) (pos at) ∷ (c ++ store) in
        let later = back_stands w.program slot a rest stands in
        let n = slot + slot_count a in
        let x = taken_of y r come.t.r5 in
        let word = field scratch place 8 in
        let taken = taken_comes y slot byte size come.t is fits (front_stands w.program slot a rest stands) come.reached in
        let known = record come.t { r4 = after_taken y come.t.r4; r5 = x } in
        let loaded = word_loaded b start n at place scratch known come.base e room later.0 taken in
        let t = record come.t { r4 = word; r5 = x } in
        let done = change_comes y (n + 1) t (front_stands w.program (n + 1) c store later.1) loaded in
        let u = record t { r4 = changed y word x } in
        let last = word_stored b start (n + 1 + slot_count c) at place scratch u come.base e room (back_stands w.program (n + 1) c store later.1).0 done in
        let whole : n + 1 + slot_count c + 1 ≡ slot + slot_count (a ++ rest) = omega (arith, slot_count-append a rest, slot_count-append c store) in
        let same = changed_is y r word come.t.r5 in
        let all : Based b start (spliced place (little_bytes 8 (changed y word x)) scratch) (slot + slot_count (a ++ rest))
        = record { t = u; reached = moved w _ group frames _ _ u whole last; base = come.base } in
        subst (λ v. Based b start (spliced place (little_bytes 8 v) scratch) (slot + slot_count (a ++ rest))) same all

  pub tallies_come : (ys : List Tally) (b : Base) (start slot byte size at place : ℕ) (scratch : List ℕ) → AreTallies size ys
      → byte + size ≤ length w.memory.block → place ≡ start + at → place + 8 * length ys ≤ SCRATCH_BYTES
      → Stands w.program slot (tallies_code (base_register b) byte at ys) → Based b start scratch slot
      → Comes w (tallied_from place ys (take size (drop byte w.memory.block)) scratch) group frames
      (slot + slot_count (tallies_code (base_register b) byte at ys))
  tallies_come [] b start slot byte size at place scratch is fits e room stands come =
      let f : slot ≡ slot + 0 = omega arith in
      at_slot w scratch group frames _ _ f (record { t = come.t; reached = come.reached })
  tallies_come (y ∷ ys) b start slot byte size at place scratch is fits e room stands come =
      let a = tally_code (base_register b) byte at y in
      let c = tallies_code (base_register b) byte (at + 8) ys in
      let this = tally_comes scratch y b start slot byte size at place is.0 fits e (omega arith) (front_stands w.program slot a c stands) come in
      let rest = tallies_come ys b start (slot + slot_count a) byte size (at + 8) (place + 8) _ is.1 fits (omega (arith, e)) (omega arith)
      (back_stands w.program slot a c stands) this in
      let f : slot + slot_count a + slot_count c ≡ slot + slot_count (a ++ c) = omega (arith, slot_count-append a c) in
      at_slot w _ group frames _ _ f rest

module _ (w : Course) (scratch group : List ℕ) (frames : ℕ) where
  -- ---- emits

  pub emit_comes : (slot at size : ℕ) → at + size ≤ length w.memory.block → Stands w.program slot (emit_code at size)
      → Comes w scratch group frames slot
      → Comes w scratch (group ++ frame (take size (drop at w.memory.block))) (frames + 1) (slot + 4)
  emit_comes slot at size inside stands come =
      let t = come.t in
      let m = record w.memory { scratch = scratch; stack = t.stack } in
      let w_at : immediate_word (pos at) ≡ at = mod-eq_of_lt (omega (arith, w.short)) in
      let w_size : immediate_word (pos size) ≡ size = mod-eq_of_lt (omega (arith, w.short)) in
      let first : At w scratch group frames (slot + 1) (record t { r1 = address_of Block })
      = goes w.program w.limit w.fuel w.start w.exits (between w slot t scratch group frames) (Arithmetic Bits64 Move 1 (Register 6)) stands.0 refl come.reached in
      let raw : At w scratch group frames (slot + 1 + 1) (record t { r1 = (address_of Block + immediate_word (pos at)) % 2 ^ 64 })
      = goes w.program w.limit w.fuel w.start w.exits (between w (slot + 1) (record t { r1 = address_of Block }) scratch group frames)
      (Arithmetic Bits64 Add 1 (Immediate (pos at))) stands.1.0 refl first in
      let address = ap (λ (k : ℕ). (address_of Block + k) % 2 ^ 64) w_at ∙ address_is m w.short at size inside in
      let second = subst (λ (x : ℕ). At w scratch group frames (slot + 1 + 1) (record t { r1 = x })) address raw in
      let u = record t { r1 = address_of Block + at } in
      let raw2 : At w scratch group frames (slot + 1 + 1 + 1) (record u { r2 = immediate_word (pos size) })
      = goes w.program w.limit w.fuel w.start w.exits (between w (slot + 1 + 1) u scratch group frames)
      (Arithmetic Bits64 Move 2 (Immediate (pos size))) stands.1.1.0 refl second in
      let third = subst (λ (x : ℕ). At w scratch group frames (slot + 1 + 1 + 1) (record u { r2 = x })) w_size raw2 in
      let zeros = record t { r1 = 0; r2 = 0; r3 = 0; r4 = 0; r5 = 0 } in
      let last : At w scratch (group ++ frame (bytes_at m (address_of Block + at) size)) (frames + 1) (slot + 1 + 1 + 1 + 1) zeros
      = goes w.program w.limit w.fuel w.start w.exits (between w (slot + 1 + 1 + 1) (record u { r2 = size }) scratch group frames)
      (Call EMIT) stands.1.1.1.0 refl third in
      let e : slot + 1 + 1 + 1 + 1 ≡ slot + 4 = omega arith in
      let bytes = ap (λ (xs : List ℕ). group ++ frame xs) (emitted_is m w.short at size inside) in
      record {
        t = zeros;
        reached = moved w scratch _ (frames + 1) _ _ zeros e
            (subst (λ g. At w scratch g (frames + 1) (slot + 1 + 1 + 1 + 1) zeros) bytes last);
      }
