-- What a block run does of a record that matches: it tallies it in the words of its group.
use Rattle.std.proofs.Common.{ℕ, pos, ◌+◌, ◌-◌, ◌*◌, ◌<◌, ◌≤◌, ◌^◌, ◌%◌, ◌≡◌, ◌&&◌, Bool, true, false, not, cond, List, ◌++◌, length, take, drop, Option, Some, None, refl, ap, ◌∙◌, subst, arith}
use Rattle.std.proofs.Math.Nat.{mod-eq_of_lt}
use Rattle.std.proofs.lemmas.Bool.Decides.{nat_tests}
use Rattle.std.proofs.lemmas.Nat.{mul-le}
use Rattle.std.specs.Prelude.{if◌then◌else◌, nat_le, nat_lt}
use Rattle.instruction_set.specs.Instruction.{immediate_word, target}
use Rattle.instruction_set.specs.declared.instruction.Instruction.{Instruction}
use Rattle.instruction_set.specs.declared.instruction.Instruction.TheVariants.{Arithmetic, Branch}
use Rattle.instruction_set.specs.declared.instruction.Source.TheVariants.{Immediate, Register}
use Rattle.instruction_set.specs.declared.operation.Operation.TheVariants.{Add, Subtract, Multiply, Move}
use Rattle.instruction_set.specs.declared.operation.Relation.TheVariants as jumps
use Rattle.instruction_set.specs.declared.operation.Width.TheVariants.{Bits64}
use Rattle.program_interface.specs.Area.{address_of}
use Rattle.program_interface.specs.declared.area.Area.TheVariants.{Scratch}
use Rattle.program_interface.specs.declared.area.TheConstants.{SCRATCH_BYTES}
use Rattle.program_meaning.specs.Step.{slot_number}
use Rattle.record_questions.proofs.Course.{At, Course, Fifth, Temporaries, between, field_comes}
use Rattle.record_questions.proofs.Matches.{Based, Seventh, Third, tallies_come, tallies_slots_are}
use Rattle.record_questions.proofs.Numbers.{number_in_fits, record_bytes}
use Rattle.record_questions.proofs.Reaching.{goes}
use Rattle.record_questions.proofs.Standing.{Stands, back_stands, front_stands, slot_count-append}
use Rattle.record_questions.proofs.Tests.{Comes, at_slot, field_slots_are}
use Rattle.record_questions.specs.declared.question.Sign.TheVariants.{Unsigned}
use Rattle.record_questions.specs.declared.question.Field.{Field}
use Rattle.record_questions.specs.declared.question.Tally.{Tally}
use Rattle.record_questions.specs.declared.question.Grouping.{Grouping}
use Rattle.record_questions.specs.Asked.{AreTallies, IsGrouping}
use Rattle.record_questions.specs.Code.{base_code, field_code, grouped_code, grouped_slots, slot_count, tallies_code, tallies_slots}
use Rattle.record_questions.specs.Question.{number_in}
use Rattle.record_questions.specs.Tallies.{group_of, groups, tallied_from, tallied_in, word_in}

-- ---- how many slots it takes

pub grouped_slots_are : (byte : ℕ) (by : Option Grouping) (ys : List Tally) → slot_count (grouped_code byte by ys) ≡ grouped_slots by ys
grouped_slots_are byte None ys = tallies_slots_are 7 byte 0 ys
grouped_slots_are byte (Some by) ys =
    let base = base_code by (length ys) (tallies_slots ys) in
    let ts = tallies_code 3 byte 0 ys in
    let a = field_slots_are 5 byte by.field in
    let b = tallies_slots_are 3 byte 0 ys in
    omega (arith, a, b, slot_count-append (field_code 5 byte by.field) (base ++ ts), slot_count-append base ts)

-- ---- the group of a value

-- is a value one of so many from another on?
abbrev pub is_among : (first values x : ℕ) → Bool
is_among first values x = nat_le first x && nat_lt x (first + values)

-- the machine takes the difference modulo 2^64
abbrev distance : (first x : ℕ) → ℕ
distance first x = (x + (2 ^ 64 - first)) % 2 ^ 64

module _ (first values x : ℕ) (room : first + values ≤ 2 ^ 16) (small : x < 2 ^ 64) where
  far : nat_le first x ≡ false → nat_le values (distance first x) ≡ true
  far e =
      let less : x < first = grind (arith, nat_tests) in
      let d : distance first x ≡ x + (2 ^ 64 - first) = mod-eq_of_lt (omega (arith, less, room)) in
      let le : values ≤ x + (2 ^ 64 - first) = omega (arith, less, room) in
      rw d (grind (arith, nat_tests))

  near : nat_le first x ≡ true → distance first x ≡ x - first
  near e =
      let le : first ≤ x = grind (arith, nat_tests) in
      omega (arith, le, small)

  near_jumps : nat_le first x ≡ true → nat_le values (distance first x) ≡ not (nat_lt x (first + values))
  near_jumps e =
      let le : first ≤ x = grind (arith, nat_tests) in
      rw (near e) (grind (arith, nat_tests))

  none_where : nat_le values (distance first x) ≡ not (is_among first values x)
  none_where = by (nat_le first x) refl
    where
      by : (b : Bool) → nat_le first x ≡ b → nat_le values (distance first x) ≡ not (b && nat_lt x (first + values))
      by true e = near_jumps e
      by false e = far e

  group_is : is_among first values x ≡ true → (distance first x ≡ x - first) × (x - first < values)
  group_is e =
      let least : first ≤ x = grind (arith, nat_tests) in
      let less : x < first + values = grind (arith, nat_tests) in
      (omega (arith, least, small), omega (arith, least, less))

-- ---- the words of a group

words_fit : (mine values n : ℕ) → mine < values → 8 * (values * n) ≤ SCRATCH_BYTES → 8 * (mine * n) + 8 * n ≤ SCRATCH_BYTES
words_fit mine values n less few =
    let most : (mine + 1) * n ≤ values * n = mul-le (mine + 1) n values n (omega (arith, less)) (omega arith) in
    omega (arith, most, few)

product_is : (mine n : ℕ) → 8 * (mine * n) ≤ SCRATCH_BYTES → (mine * (8 * n)) % 2 ^ 64 ≡ 8 * (mine * n)
product_is mine n few =
    let e : mine * (8 * n) ≡ 8 * (mine * n) = omega arith in
    rw e (mod-eq_of_lt (omega (arith, few)))

unsigned_word : (f : Field) (r : List ℕ) → f.sign ≡ Unsigned → word_in f r ≡ number_in f r
unsigned_word f r e = rw e refl

module _ (w : Course) (group : List ℕ) (frames byte size : ℕ) (ys : List Tally) (scratch : List ℕ) (are : AreTallies size ys)
    (fits : byte + size ≤ length w.memory.block) where
  -- the record, and the code after the load of its group's field
  abbrev r : List ℕ
  r = take size (drop byte w.memory.block)

  abbrev later_code : Grouping → List Instruction
  later_code by = base_code by (length ys) (tallies_slots ys) ++ tallies_code 3 byte 0 ys

  -- a record of this group is tallied in the words of the group
  in_group : (by : Grouping) (mine slot : ℕ) (t : Temporaries) → mine < by.values → 8 * (by.values * length ys) ≤ SCRATCH_BYTES
      → Stands w.program slot (later_code by) → At w scratch group frames (slot + 1 + 1) (record t { r5 = mine })
      → Comes w (tallied_from (8 * (mine * length ys)) ys r scratch) group frames (slot + 5 + tallies_slots ys)
  in_group by mine slot t less few stands b =
      let n = length ys in
      let place = 8 * (mine * n) in
      let most = words_fit mine by.values n less few in
      let bytes : immediate_word (pos (8 * n)) ≡ 8 * n = mod-eq_of_lt (omega (arith, most)) in
      let product : (mine * immediate_word (pos (8 * n))) % 2 ^ 64 ≡ place = rw bytes (product_is mine n (omega (arith, most))) in
      let raw : At w scratch group frames (slot + 1 + 1 + 1) (record t { r5 = (mine * immediate_word (pos (8 * n))) % 2 ^ 64 })
      = goes w.program w.limit w.fuel w.start w.exits (between w (slot + 1 + 1) (record t { r5 = mine }) scratch group frames)
      (Arithmetic Bits64 Multiply 5 (Immediate (pos (8 * n)))) stands.1.1.0 refl b in
      let multiplied = subst (λ (k : ℕ). At w scratch group frames (slot + 1 + 1 + 1) (record t { r5 = k })) product raw in
      let moved : At w scratch group frames (slot + 1 + 1 + 1 + 1) (record t { r3 = address_of Scratch; r5 = place })
      = goes w.program w.limit w.fuel w.start w.exits (between w (slot + 1 + 1 + 1) (record t { r5 = place }) scratch group frames)
      (Arithmetic Bits64 Move 3 (Register 7)) stands.1.1.1.0 refl multiplied in
      let u = record t { r3 = (address_of Scratch + place) % 2 ^ 64; r5 = place } in
      let added : At w scratch group frames (slot + 1 + 1 + 1 + 1 + 1) u
      = goes w.program w.limit w.fuel w.start w.exits (between w (slot + 1 + 1 + 1 + 1) (record t { r3 = address_of Scratch; r5 = place }) scratch group frames)
      (Arithmetic Bits64 Add 3 (Register 5)) stands.1.1.1.1.0 refl moved in
      let address : (address_of Scratch + place) % 2 ^ 64 ≡ address_of Scratch + place = mod-eq_of_lt (omega (arith, most)) in
      let based : Based w group frames Third place scratch (slot + 1 + 1 + 1 + 1 + 1) = record { t = u; reached = added; base = address } in
      let e : slot + 1 + 1 + 1 + 1 + 1 + slot_count (tallies_code 3 byte 0 ys) ≡ slot + 5 + tallies_slots ys
      = omega (arith, tallies_slots_are 3 byte 0 ys) in
      at_slot w _ group frames _ _ e
      (tallies_come w group frames ys Third place (slot + 1 + 1 + 1 + 1 + 1) byte size 0 place scratch are fits (omega arith) most
      stands.1.1.1.1.1 based)

  -- one of no group isn't tallied
  by_group : (by : Grouping) (has : Bool) (x slot : ℕ) (t : Temporaries) → is_among by.first by.values x ≡ has → x < 2 ^ 64
      → by.first + by.values ≤ 2 ^ 16 → 8 * (by.values * length ys) ≤ SCRATCH_BYTES → Stands w.program slot (later_code by)
      → At w scratch group frames (slot_number (cond (not has) (target (slot + 1) (pos (3 + tallies_slots ys))) (pos (slot + 1 + 1))))
      (record t { r5 = distance by.first x })
      → Comes w (tallied_in ys (if has then Some (x - by.first) else None) r scratch) group frames (slot + 5 + tallies_slots ys)
  by_group by false x slot t e small room few stands b =
      let f : slot + 1 + 1 + (3 + tallies_slots ys) ≡ slot + 5 + tallies_slots ys = omega arith in
      at_slot w scratch group frames _ _ f (record { t = record t { r5 = distance by.first x }; reached = b })
  by_group by true x slot t e small room few stands b =
      let known = group_is by.first by.values x room small e in
      in_group by (x - by.first) slot t known.1 few stands
      (subst (λ (k : ℕ). At w scratch group frames (slot + 1 + 1) (record t { r5 = k })) known.0 b)

  base_comes : (by : Grouping) (x slot : ℕ) (t : Temporaries) → x < 2 ^ 64 → by.first + by.values ≤ 2 ^ 16
      → 8 * (by.values * length ys) ≤ SCRATCH_BYTES → Stands w.program slot (later_code by)
      → At w scratch group frames slot (record t { r5 = x })
      → Comes w (tallied_in ys (if is_among by.first by.values x then Some (x - by.first) else None) r scratch) group frames (slot + 5 + tallies_slots ys)
  base_comes by x slot t small room few stands a =
      let d = distance by.first x in
      let first : immediate_word (pos by.first) ≡ by.first = mod-eq_of_lt (omega (arith, room)) in
      let values : immediate_word (pos by.values) ≡ by.values = mod-eq_of_lt (omega (arith, room)) in
      let raw : At w scratch group frames (slot + 1) (record t { r5 = distance (immediate_word (pos by.first)) x })
      = goes w.program w.limit w.fuel w.start w.exits (between w slot (record t { r5 = x }) scratch group frames)
      (Arithmetic Bits64 Subtract 5 (Immediate (pos by.first))) stands.0 refl a in
      let subtracted = subst (λ (k : ℕ). At w scratch group frames (slot + 1) (record t { r5 = distance k x })) first raw in
      let branched : At w scratch group frames
      (slot_number (cond (nat_le (immediate_word (pos by.values)) d) (target (slot + 1) (pos (3 + tallies_slots ys))) (pos (slot + 1 + 1))))
      (record t { r5 = d })
      = goes w.program w.limit w.fuel w.start w.exits (between w (slot + 1) (record t { r5 = d }) scratch group frames)
      (Branch Bits64 jumps.GreaterOrEqual 5 (Immediate (pos by.values)) (pos (3 + tallies_slots ys))) stands.1.0 refl subtracted in
      let jumps_where : nat_le (immediate_word (pos by.values)) d ≡ not (is_among by.first by.values x)
      = ap (λ (k : ℕ). nat_le k d) values ∙ none_where by.first by.values x room small in
      by_group by (is_among by.first by.values x) x slot t refl small room few stands
      (subst (λ (jumps : Bool). At w scratch group frames
      (slot_number (cond jumps (target (slot + 1) (pos (3 + tallies_slots ys))) (pos (slot + 1 + 1)))) (record t { r5 = d })) jumps_where branched)

  pub grouped_comes : (by : Option Grouping) (slot : ℕ) → IsGrouping size by → 8 * (groups by * length ys) ≤ SCRATCH_BYTES
      → Stands w.program slot (grouped_code byte by ys) → Comes w scratch group frames slot
      → Comes w (tallied_in ys (group_of by r) r scratch) group frames (slot + slot_count (grouped_code byte by ys))
  grouped_comes None slot is few stands come =
      let e : 8 * (0 * length ys) ≡ 0 = omega arith in
      rw e (tallies_come w group frames ys Seventh 0 slot byte size 0 0 scratch are fits refl (omega (arith, few)) stands
      (record { t = come.t; reached = come.reached; base = refl }))
  grouped_comes (Some by) slot is few stands come =
      let load = field_code 5 byte by.field in
      let later = later_code by in
      let bytes = record_bytes size byte w.memory.block w.bytes in
      let a = field_comes w scratch group frames Fifth by.field slot byte size come.t is.0 fits (front_stands w.program slot load later stands) come.reached in
      let loaded = subst (λ (k : ℕ). At w scratch group frames (slot + slot_count load) (record come.t { r5 = k })) (unsigned_word by.field r is.1) a in
      let e : slot + slot_count load + 5 + tallies_slots ys ≡ slot + slot_count (grouped_code byte (Some by) ys)
      = omega (arith, grouped_slots_are byte (Some by) ys, field_slots_are 5 byte by.field) in
      at_slot w _ group frames _ _ e
      (base_comes by (number_in by.field r) (slot + slot_count load) come.t (number_in_fits by.field r bytes) is.3 few
      (back_stands w.program slot load later stands) loaded)
