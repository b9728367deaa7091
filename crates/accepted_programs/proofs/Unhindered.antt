-- An instruction that passes every check of a verifier has no cause to be stuck, in a state that meets
-- the facts.
use Rattle.std.proofs.Common.{ℕ, ℤ, pos, ◌≡◌, ◌+◌, ◌^◌, ◌<◌, ◌≤◌, Bool, true, false, not, ◌&&◌, List, [], ◌∷◌, length, find, Option, Some, None, is_some, is_none, FitsSigned, lit<, refl, sym, arith, subst, get_or, inl, inr, ◌%◌, ◌-ℤ◌}
use Rattle.std.proofs.lemmas.Bool.{and_cases, and_parts, and_from, and_right, cond_both, eqb-false, eqb-true, le-leb, le-ltb, leb-true, ltb-false, ltb-true, ne_eqb, not-false, or_cases, or_from, or_parts}
use Rattle.std.proofs.lemmas.Int.{ints}
use Rattle.std.specs.Int.{w16}
use Rattle.std.specs.Option.{option_flatten}
use Rattle.std.specs.Prelude.{◌==◌, ◌≤ℤ◌, int_le, nat_le, nat_lt, slice_index}
use Rattle.instruction_set.specs.Instruction.{access_of, distance_of, is_emit, signed_size_of, size_of, target}
use Rattle.instruction_set.specs.Spelling.{first_slot}
use Rattle.instruction_set.specs.declared.instruction.Instruction.{Instruction}
use Rattle.instruction_set.specs.declared.instruction.Instruction.TheVariants.{Load, LoadSigned, StoreImmediate, StoreRegister, Jump, JumpLong, Branch, Exit}
use Rattle.instruction_set.specs.declared.operation.SignedSize.{SignedSize}
use Rattle.instruction_set.specs.declared.operation.SignedSize.TheVariants as signed
use Rattle.instruction_set.specs.declared.operation.Size.{Size}
use Rattle.instruction_set.specs.declared.operation.Size.TheVariants.{Byte, HalfWord, Word, DoubleWord}
use Rattle.program_meaning.specs.Cause as machine
use Rattle.program_meaning.specs.Cause.{causes, emits_badly, emits_outside, hinders, is_nowhere, least_cause, slot_in}
use Rattle.program_meaning.specs.steps.Causes.{is_inside_wide, is_unwritable, is_unwritable_at}
use Rattle.program_meaning.specs.Effect.{address_from, operand, register}
use Rattle.program_meaning.specs.Memory.{lies_in, area_offset_of}
use Rattle.program_interface.specs.Area.{address_of, length_of}
use Rattle.program_meaning.specs.State.{IsState, State}
use Rattle.program_meaning.specs.Word.{is_taken}
use Rattle.program_meaning.specs.declared.cause.Cause.{Cause}
use Rattle.program_meaning.specs.declared.cause.Cause.TheVariants as cause
use Rattle.program_interface.specs.declared.area.Area.{Area}
use Rattle.program_interface.specs.declared.frame.TheConstants.{FRAME_LENGTH_BYTES}
use Rattle.program_interface.specs.RunSizes.{AreSizes, Sizes}
use Rattle.word_domain.specs.Domain.{IsAtOffset, IsSound, Operations}
use Rattle.word_domain.specs.declared.offsets.Offsets.{Offsets}
use Rattle.program_meaning.proofs.Proved.{areas_are_apart, blocks_are_short}
use Rattle.accepted_programs.specs.Accepted.{emits_amiss, ends_inside, fails, falls_off, fits_by_sum, is_record, leads_nowhere, loads_outside, passes_limit, record_fits, stores_outside}
use Rattle.accepted_programs.specs.Facts.{area_of, fact, greatest, greatest_length, least_length}
use Rattle.accepted_programs.proofs.KnownFacts.{AreFacts}
use Rattle.accepted_programs.specs.Meets.{AreWithin, Meets}
use Rattle.accepted_programs.proofs.Registers.{word_of}
use Rattle.accepted_programs.specs.declared.facts.Facts.{Facts}
use Rattle.accepted_programs.specs.declared.sums.Fit.{Fit}
use Rattle.accepted_programs.specs.declared.reason.Reason.{Reason}
use Rattle.accepted_programs.specs.declared.reason.Reason.TheVariants as reason

none_passes : {X : Type 0} (test : X → Bool) (xs : List X) → ((x : X) → test x ≡ false) → find test xs ≡ None
none_passes test [] each = refl
none_passes test (x ∷ xs) each = rw (each x) (none_passes test xs each)

-- ---- where it leads

-- an instruction begins at what a program has at a slot
stands : (begun : Option (Option Instruction)) → not (is_some (option_flatten begun)) ≡ false
    → (is_none begun ≡ false) × (is_inside_wide begun ≡ false)
stands None e = cc
stands (Some None) e = cc
stands (Some (Some i)) e = (refl, refl)

module _ (program : List (Option Instruction)) (limit : ℕ) where
  goes_on : (s : State) (i : Instruction) → leads_nowhere program s.slot (distance_of i) ≡ false
      → falls_off program s.slot i ≡ false
      → (hinders program limit s i cause.NextOutside ≡ false) × (hinders program limit s i cause.NextInsideWide ≡ false)
  goes_on s (Jump distance) there behind = stands _ there
  goes_on s (JumpLong distance) there behind = stands _ there
  goes_on s (Branch width relation dst source distance) there behind =
      cond_both (is_taken width relation (slice_index s.registers dst) (operand s.registers source))
      (target s.slot distance) (pos (s.slot + 1))
      (λ next. (is_none (slot_in program next) ≡ false) × (is_inside_wide (slot_in program next) ≡ false))
      (λ _. stands _ there) (λ _. stands _ behind)
  goes_on s Exit there behind = (refl, refl)
  goes_on s i there behind = stands _ behind

-- ---- memory

-- fewer bytes from the same address on lie there too
pub shorter : (block : ℕ) (area : Area) (address n most : ℕ) → n ≤ most → lies_in block area address most ≡ true
    → lies_in block area address n ≡ true
shorter block area address n most less lies =
    let end = address_of area + length_of block area in
    let both = and_parts (nat_le (address_of area) address) (nat_le (address + most) end) lies in
    let last = leb-true (address + most) end both.1 in
    and_from (nat_le (address_of area) address) (nat_le (address + n) end) both.0 (le-leb (address + n) end (omega arith))

-- an address that isn't before an area's
from_start : (start address : ℕ) (low : ℤ) → int_le (pos 0) low ≡ true → low ≤ℤ (pos address -ℤ pos start) → start ≤ address
from_start start address low not_before far =
    let above : pos 0 ≤ℤ low = grind (arith, ints) in omega (arith, ints, above, far)

-- a sum that doesn't wrap, and is at most an end and a number more, is at most the end without it
without_wrap : (x y more most end : ℕ) → x + y + more < 2 ^ 64 → (x + y + more) % 2 ^ 64 ≤ most → most ≤ end + more → x + y ≤ end
without_wrap x y more most end no_wrap sum at_end = omega (arith, no_wrap, sum, at_end)

-- R1 and R2 are the two, in either order
record_sum : (f : Fit) (words : List ℕ) → is_record f ≡ true → AreWithin (Some f) words
    → (get_or words 1 0 + get_or words 2 0 + f.more) % 2 ^ 64 ≤ f.most
record_sum f words is within = elim (or_cases ((f.first == 1) && (f.second == 2)) ((f.first == 2) && (f.second == 1)) is) [
  | inl in_order ↦
      let both = and_parts (f.first == 1) (f.second == 2) in_order in
      let first = eqb-true f.first 1 both.0 in
      let second = eqb-true f.second 2 both.1 in
      rw (sym first, sym second) within
  | inr other ↦
      let both = and_parts (f.first == 2) (f.second == 1) other in
      let first = eqb-true f.first 2 both.0 in
      let second = eqb-true f.second 1 both.1 in
      let sum : (get_or words 2 0 + get_or words 1 0 + f.more) % 2 ^ 64 ≤ f.most = rw (sym first, sym second) within in
      omega (arith, sum)
]

-- the offset 0 and the sizes of accesses are those of instructions
pub no_offset_fits : FitsSigned w16 (pos 0)
no_offset_fits = record { sfits = lit< tt }

pub size_fits : (size : Size) → size_of size < 2 ^ 64
size_fits Byte = lit< tt
size_fits HalfWord = lit< tt
size_fits Word = lit< tt
size_fits DoubleWord = lit< tt

pub signed_size_fits : (size : SignedSize) → signed_size_of size < 2 ^ 64
signed_size_fits signed.Byte = lit< tt
signed_size_fits signed.HalfWord = lit< tt
signed_size_fits signed.Word = lit< tt

module _ {D : Type 0} {IsFact : D → Type 0} {contains : D → ℕ → Type 0} {operations : Operations D}
    (sound : IsSound IsFact contains operations) where
  module _ (sizes : Sizes) (facts : Facts D) (s : State) (are_sizes : AreSizes sizes) (is : IsState s)
      (long : length s.memory.block ≡ sizes.block) (are : AreFacts IsFact facts) (meets : Meets contains facts s) where
    abbrev block : ℕ
    block = sizes.block

    pub fits : block < 2 ^ 32
    fits = blocks_are_short block are_sizes.block_size

    -- the bytes of an access lie in the area that its fact tells
    pub lies : (area : Area) (r : ℕ) (offset : ℤ) (size : ℕ) → FitsSigned w16 offset → size < 2 ^ 64
        → area_of operations block facts r offset size ≡ Some area
        → lies_in block area (address_from s.registers r offset) size ≡ true
    lies area r offset size near counted told =
        sound.access block (fact operations facts r) offset size area (slice_index s.registers r)
        (record { beside = are_sizes.block_size; near = near; counted = counted }) told (word_of sound facts s are is meets r)

    somewhere : (area : Area) (address n : ℕ) → lies_in block area address n ≡ true → is_nowhere s address n ≡ false
    somewhere area address n inside = rw (long, areas_are_apart block area address n fits inside) refl

    -- the area that is told for an access is where its bytes are
    found : (o : Option Area) (r : ℕ) (offset : ℤ) (size : ℕ) → FitsSigned w16 offset → size < 2 ^ 64
        → area_of operations block facts r offset size ≡ o
        → is_none o ≡ false → is_nowhere s (address_from s.registers r offset) size ≡ false
    found None r offset size near counted told some = cc
    found (Some area) r offset size near counted told some =
        somewhere area (address_from s.registers r offset) size (lies area r offset size near counted told)

    writable : (o : Option Area) (r : ℕ) (offset : ℤ) (size : ℕ) → FitsSigned w16 offset → size < 2 ^ 64
        → area_of operations block facts r offset size ≡ o → is_unwritable o ≡ false
        → is_unwritable_at (area_offset_of (length s.memory.block) (address_from s.registers r offset) size) ≡ false
    writable None r offset size near counted told some = cc
    writable (Some area) r offset size near counted told some =
        let inside = lies area r offset size near counted told in
        rw (long, areas_are_apart block area (address_from s.registers r offset) size fits inside) some

    accesses : (i : Instruction) → FitsSigned w16 (first_slot i).offset → loads_outside operations block facts (access_of i) ≡ false
        → stores_outside operations block facts (access_of i) ≡ false
        → (machine.loads_outside s (access_of i) ≡ false) × (machine.stores_outside s (access_of i) ≡ false)
    accesses (Load size dst src offset) near load store = (found _ src offset (size_of size) near (size_fits size) refl load, refl)
    accesses (LoadSigned size dst src offset) near load store = (found _ src offset (signed_size_of size) near (signed_size_fits size) refl load, refl)
    accesses (StoreImmediate size dst offset value) near load store = (refl, writable _ dst offset (size_of size) near (size_fits size) refl store)
    accesses (StoreRegister size dst src offset) near load store = (refl, writable _ dst offset (size_of size) near (size_fits size) refl store)
    accesses i near load store = (refl, refl)

    -- ---- emit

    pub no_offset : address_from s.registers 1 (pos 0) ≡ register s 1
    no_offset = let small = is.words 1 in omega (arith, ints, small)

    emits_inside : (o : Option Area) (most : ℕ) → area_of operations block facts 1 (pos 0) most ≡ o
        → is_none o ≡ false → register s 2 ≤ most → most < 2 ^ 64 → emits_outside s ≡ false
    emits_inside None most told some less counted = cc
    emits_inside (Some area) most told some less counted =
        let all : lies_in block area (register s 1) most ≡ true =
        rw (sym no_offset) (lies area 1 (pos 0) most no_offset_fits counted told) in
        let inside = shorter block area (register s 1) (register s 2) most less all in
        and_right (nat_le 1 (register s 2)) _ (somewhere area (register s 1) (register s 2) inside)

    -- R2 is within its bounds
    pub bounded : (least_length operations facts ≤ register s 2) × (register s 2 ≤ greatest_length operations facts)
    bounded = sound.bounds (fact operations facts 2) (register s 2) (word_of sound facts s are is meets 2)

    -- the sum of R1 and R2 is at most the end of the area that R1 is known to be in
    sum_inside : (f : Fit) (told : Offsets) → AreWithin (Some f) s.registers → IsAtOffset told (register s 1)
        → (is_record f && int_le (pos 0) told.low && nat_le 1 (least_length operations facts) && ends_inside operations block facts f told) ≡ true
        → lies_in block told.area (register s 1) (register s 2) ≡ true
    sum_inside f told within there fit =
        let start = address_of told.area in
        let end = address_of told.area + length_of block told.area in
        let last = and_parts (is_record f && int_le (pos 0) told.low && nat_le 1 (least_length operations facts)) (ends_inside operations block facts f told) fit in
        let some = and_parts (is_record f && int_le (pos 0) told.low) (nat_le 1 (least_length operations facts)) last.0 in
        let record_is = and_parts (is_record f) (int_le (pos 0) told.low) some.0 in
        let ends = and_parts (nat_lt (greatest operations facts 1 + greatest operations facts 2 + f.more) (2 ^ 64)) (nat_le f.most (end + f.more)) last.1 in
        let no_wrap = ltb-true (greatest operations facts 1 + greatest operations facts 2 + f.more) (2 ^ 64) ends.0 in
        let at_end = leb-true f.most (end + f.more) ends.1 in
        let address = sound.bounds (fact operations facts 1) (register s 1) (word_of sound facts s are is meets 1) in
        let sum = record_sum f s.registers record_is.0 within in
        let from : start ≤ register s 1 = from_start start (register s 1) told.low record_is.1 there.0 in
        let to : register s 1 + register s 2 ≤ end =
        without_wrap (register s 1) (register s 2) f.more f.most end (omega (arith, address.1, bounded.1, no_wrap)) sum at_end in
        and_from (nat_le start (register s 1)) (nat_le (register s 1 + register s 2) end) (le-leb start (register s 1) from)
        (le-leb (register s 1 + register s 2) end to)

    -- a record that fits by the sum lies in an area
    fits_inside : (fit : Option Fit) (told : Option Offsets) → facts.fit ≡ fit → operations.offsets (fact operations facts 1) ≡ told
        → fits_by_sum operations block facts fit told ≡ true → is_nowhere s (register s 1) (register s 2) ≡ false
    fits_inside (Some f) (Some told) is_fit is_told inside =
        somewhere told.area (register s 1) (register s 2)
        (sum_inside f told (subst (λ o. AreWithin o s.registers) is_fit meets.fit)
        (sound.offsets (fact operations facts 1) told (register s 1) is_told (word_of sound facts s are is meets 1)) inside)
    fits_inside (Some f) None is_fit is_told inside = cc
    fits_inside None told is_fit is_told inside = cc

    abbrev least : ℕ
    least = least_length operations facts

    abbrev most : ℕ
    most = greatest_length operations facts

    -- the bytes to emit are within the limit
    pub counted : passes_limit operations sizes.limit facts ≡ false → most < 2 ^ 64
    counted within =
        let room = ltb-false sizes.limit (facts.emitted + FRAME_LENGTH_BYTES + most) within in
        let group = are_sizes.fits in
        let small = fits in
        omega (arith, room, group, small)

    emits_well : (least == 0) ≡ false → passes_limit operations sizes.limit facts ≡ false
        → emits_badly sizes.limit s ≡ false
    emits_well some within =
        let (above, below) = bounded in
        let group = meets.group in
        let positive = eqb-false least 0 some in
        let room = ltb-false sizes.limit (facts.emitted + FRAME_LENGTH_BYTES + most) within in
        or_from (register s 2 == 0) (nat_lt sizes.limit (length s.group + FRAME_LENGTH_BYTES + register s 2))
        (ne_eqb (register s 2) 0 (λ none. positive (omega arith)))
        (le-ltb sizes.limit (length s.group + FRAME_LENGTH_BYTES + register s 2) (omega arith))

    -- by the bounds of address and length, or by their sum
    somewhere_inside : (is_none (area_of operations block facts 1 (pos 0) most) && not (record_fits operations block facts)) ≡ false
        → most < 2 ^ 64 → emits_outside s ≡ false
    somewhere_inside told small = elim (and_cases (is_none (area_of operations block facts 1 (pos 0) most)) (not (record_fits operations block facts)) told) [
      | inl bounds ↦ emits_inside _ most refl bounds bounded.1 small
      | inr sum ↦ and_right (nat_le 1 (register s 2)) _ (fits_inside facts.fit _ refl refl (not-false _ sum))
    ]

    -- what is checked where the instruction is emit
    emits : (emit : Bool)
        → (emit && emits_amiss operations block facts) ≡ false
        → (emit && passes_limit operations sizes.limit facts) ≡ false
        → ((emit && emits_outside s) ≡ false) × ((emit && emits_badly sizes.limit s) ≡ false)
    emits false length limit = (refl, refl)
    emits true length limit =
        let (some, told) = or_parts (least == 0) _ length in
        (somewhere_inside told (counted limit), emits_well some limit)

    module _ (program : List (Option Instruction)) (i : Instruction) (near : FitsSigned w16 (first_slot i).offset)
        (passed : (r : Reason) → fails operations program sizes s.slot facts i r ≡ false) where
      -- each check passes, so no cause holds
      free : (c : Cause) → hinders program sizes.limit s i c ≡ false
      free cause.NextOutside = (goes_on program sizes.limit s i (passed reason.JumpOutside) (passed reason.FallsOff)).0
      free cause.NextInsideWide = (goes_on program sizes.limit s i (passed reason.JumpOutside) (passed reason.FallsOff)).1
      free cause.WriteToFramePointer = passed reason.WriteToFramePointer
      free cause.LoadOutside = (accesses i near (passed reason.LoadOutside) (passed reason.StoreOutside)).0
      free cause.StoreOutside = (accesses i near (passed reason.LoadOutside) (passed reason.StoreOutside)).1
      free cause.UnknownHelper = passed reason.UnknownHelper
      free cause.EmitOutside = (emits (is_emit i) (passed reason.EmitLength) (passed reason.EmitLimit)).0
      free cause.EmitLength = (emits (is_emit i) (passed reason.EmitLength) (passed reason.EmitLimit)).1

  -- no cause hinders an instruction that passes all checks
  pub unhindered : (program : List (Option Instruction)) (sizes : Sizes) (i : Instruction) (facts : Facts D) (s : State)
      → AreSizes sizes → IsState s → length s.memory.block ≡ sizes.block → AreFacts IsFact facts → Meets contains facts s
      → FitsSigned w16 (first_slot i).offset → ((r : Reason) → fails operations program sizes s.slot facts i r ≡ false)
      → least_cause program sizes.limit s i ≡ None
  unhindered program sizes i facts s are_sizes is long are meets near passed =
      none_passes (hinders program sizes.limit s i) causes
      (free sizes facts s are_sizes is long are meets program i near passed)
