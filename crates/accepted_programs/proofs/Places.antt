-- An instruction accesses memory where it is known to, in a state that meets the facts.
use Rattle.std.proofs.Common.{ℕ, ℤ, pos, negsuc, ◌≡◌, ◌+◌, ◌%◌, ◌<◌, ◌≤◌, ◌^◌, ◌+ℤ◌, ◌-ℤ◌, true, false, List, length, Option, Some, None, FitsSigned, lit<, refl, sym, ap, ◌∙◌, arith, subst}
use Rattle.std.proofs.lemmas.Bool.{and_parts}
use Rattle.std.proofs.lemmas.Bool.Decides.{nat_tests}
use Rattle.std.proofs.lemmas.Int.{ints}
use Rattle.std.specs.Int.{w16, w64, cast_unsigned}
use Rattle.std.specs.Option.{option_map}
use Rattle.std.specs.Ordering.{int_eq}
use Rattle.std.specs.Prelude.{◌==◌, ◌&&◌, ◌≤ℤ◌, nat_lt}
use Rattle.instruction_set.specs.Instruction.{access_of, is_emit}
use Rattle.instruction_set.specs.Program.{instruction_at}
use Rattle.instruction_set.specs.Spelling.{first_slot}
use Rattle.instruction_set.specs.declared.access.Access.{Access}
use Rattle.instruction_set.specs.declared.instruction.Instruction.{Instruction}
use Rattle.instruction_set.specs.declared.instruction.Instruction.TheVariants.{Load, LoadSigned, StoreImmediate, StoreRegister, Call}
use Rattle.program_interface.specs.Area.{address_of}
use Rattle.program_interface.specs.RunSizes.{AreSizes, Sizes}
use Rattle.program_interface.specs.declared.area.Area.{Area}
use Rattle.program_interface.specs.declared.area.Area.TheVariants.{Context, Block, Stack, Scratch}
use Rattle.program_meaning.proofs.Proved.{areas_are_apart}
use Rattle.program_meaning.specs.Effect.{address_from, register}
use Rattle.program_meaning.specs.Memory.{area_offset_of, lies_in}
use Rattle.program_meaning.specs.Places.{AccessesAt, LieAt}
use Rattle.program_meaning.specs.State.{IsState, State}
use Rattle.program_meaning.specs.declared.area_offset.AreaOffset.{AreaOffset}
use Rattle.program_meaning.specs.declared.place.Place.{Place}
use Rattle.word_domain.specs.Domain.{IsSound, Operations}
use Rattle.word_domain.specs.declared.offsets.Offsets.{Offsets}
use Rattle.accepted_programs.specs.Accepted.{passes_limit}
use Rattle.accepted_programs.specs.Facts.{area_of, fact, greatest_length}
use Rattle.accepted_programs.specs.Meets.{Meets}
use Rattle.accepted_programs.specs.Places.{offset_from, offset_into, place_from, place_in, place_of}
use Rattle.accepted_programs.specs.declared.facts.Facts.{Facts}
use Rattle.accepted_programs.proofs.CellLaws.{if_some}
use Rattle.accepted_programs.proofs.KnownFacts.{AreFacts}
use Rattle.accepted_programs.proofs.Registers.{word_of}
use Rattle.accepted_programs.proofs.Unhindered.{bounded, counted, fits, lies, no_offset, no_offset_fits, shorter, signed_size_fits, size_fits}

-- ---- accesses of instructions

-- an access has the offset and the size of an instruction
abbrev FitsAccess : Option Access → Type 0
FitsAccess (Some access) = FitsSigned w16 access.offset × (access.size < 2 ^ 64)
FitsAccess None = Unit {0}

access_fits : (i : Instruction) → FitsSigned w16 (first_slot i).offset → FitsAccess (access_of i)
access_fits (Load size dst src offset) near = (near, size_fits size)
access_fits (LoadSigned size dst src offset) near = (near, signed_size_fits size)
access_fits (StoreImmediate size dst offset value) near = (near, size_fits size)
access_fits (StoreRegister size dst src offset) near = (near, size_fits size)
access_fits i near = tt

-- what loads or stores doesn't emit
no_emit : (i : Instruction) (access : Access) → access_of i ≡ Some access → is_emit i ≡ false
no_emit (Call helper) access e = cc
no_emit i access e = refl

-- ---- exact offsets

-- an address is known to be one alone, and an offset from it leads this far into an area
record IsExact (area : Area) (told : Option Offsets) (offset : ℤ) (k : ℕ) : Type 0 where
  offsets : Offsets
  is : told ≡ Some offsets
  same : address_of offsets.area ≡ address_of area
  exact : offsets.high ≡ offsets.low
  at : (offsets.low +ℤ offset) ≡ pos k
  small : k < 2 ^ 16

offset_from_is : (distance : ℤ) (k : ℕ) → offset_from distance ≡ Some k → (distance ≡ pos k) × (k < 2 ^ 16)
offset_from_is (pos n) k e =
    let chosen = if_some (nat_lt n (2 ^ 16)) (Some n) k e in
    let small : n < 2 ^ 16 = grind (arith, nat_tests, chosen.0) in
    let same : n ≡ k = cc in
    (ap pos same, omega (arith, small, same))
offset_from_is (negsuc n) k e = cc

offset_is : (area : Area) (told : Option Offsets) (offset : ℤ) (k : ℕ) → offset_into area told offset ≡ Some k
    → IsExact area told offset k
offset_is area None offset k e = cc
offset_is area (Some told) offset k e =
    let chosen = if_some (address_of told.area == address_of area && int_eq told.low told.high) (offset_from (told.low +ℤ offset)) k e in
    let both = and_parts (address_of told.area == address_of area) (int_eq told.low told.high) chosen.0 in
    let distance = offset_from_is (told.low +ℤ offset) k chosen.1 in
    record {
      offsets = told;
      is = refl;
      same = grind (arith, nat_tests, both.0);
      exact = grind (arith, ints);
      at = distance.0;
      small = distance.1;
    }

-- the address that an offset leads to, where the distance from an area's address a is exact
exact_address : (w a k : ℕ) (low high offset : ℤ) → w < 2 ^ 64 → FitsSigned w16 offset → high ≡ low
    → (low +ℤ offset) ≡ pos k → a + k < 2 ^ 64 → (low ≤ℤ (pos w -ℤ pos a)) × ((pos w -ℤ pos a) ≤ℤ high)
    → (w + cast_unsigned w64 offset) % 2 ^ 64 ≡ a + k
exact_address w a k low high (pos n) small near exact at inside far = omega (arith, ints, near.sfits, far.0, far.1)
exact_address w a k low high (negsuc n) small near exact at inside far = omega (arith, ints, near.sfits, far.0, far.1)

area_is_low : (area : Area) → address_of area < 2 ^ 63
area_is_low Context = lit< tt
area_is_low Block = lit< tt
area_is_low Stack = lit< tt
area_is_low Scratch = lit< tt

-- bytes that lie in an area lie at a place there, where they begin at its offset, if it has one
lie_at : (block : ℕ) (area : Area) (address n : ℕ) (told : Option Offsets) (offset : ℤ) → block < 2 ^ 32
    → lies_in block area address n ≡ true
    → ((k : ℕ) → offset_into area told offset ≡ Some k → address ≡ address_of area + k)
    → LieAt (place_in told offset area) (area_offset_of block address n)
lie_at block area address n told offset short inside begins =
    let there = areas_are_apart block area address n short inside in
    let at : ℕ → Option AreaOffset = λ k. Some (record { area = area; offset = k }) in
    record {
      area = rw there refl;
      offset = λ k e. there ∙ ap at (let begun = begins k e in omega (arith, begun));
    }

-- ---- where a state accesses memory
module _ {D : Type 0} {IsFact : D → Type 0} {contains : D → ℕ → Type 0} {operations : Operations D}
    (sound : IsSound IsFact contains operations) where
  module _ (sizes : Sizes) (facts : Facts D) (s : State) (are_sizes : AreSizes sizes) (is : IsState s)
      (long : length s.memory.block ≡ sizes.block) (are : AreFacts IsFact facts) (meets : Meets contains facts s) where
    abbrev told_of : ℕ → Option Offsets
    told_of r = operations.offsets (fact operations facts r)

    -- the address is that of the exact offset
    exactly : (area : Area) (r k : ℕ) (offset : ℤ) → FitsSigned w16 offset → offset_into area (told_of r) offset ≡ Some k
        → address_from s.registers r offset ≡ address_of area + k
    exactly area r k offset near e =
        let exact = offset_is area (told_of r) offset k e in
        let word = word_of sound facts s are is meets r in
        let far = sound.offsets (fact operations facts r) exact.offsets (register s r) exact.is word in
        let P : ℕ → Type 0 = λ a. (exact.offsets.low ≤ℤ (pos (register s r) -ℤ pos a)) × ((pos (register s r) -ℤ pos a) ≤ℤ exact.offsets.high) in
        let low = area_is_low area in
        exact_address (register s r) (address_of area) k exact.offsets.low exact.offsets.high offset word.word near exact.exact exact.at
        (omega (arith, low, exact.small)) (subst P exact.same far)

    -- bytes that are fewer than those of which the area is known lie at the place
    found : (o : Option Area) (p : Place) (r : ℕ) (offset : ℤ) (n most : ℕ) → FitsSigned w16 offset → most < 2 ^ 64 → n ≤ most
        → area_of operations sizes.block facts r offset most ≡ o → option_map (place_in (told_of r) offset) o ≡ Some p
        → LieAt p (area_offset_of (length s.memory.block) (address_from s.registers r offset) n)
    found None p r offset n most near count less told e = cc
    found (Some area) p r offset n most near count less told e =
        let address = address_from s.registers r offset in
        let all = lies sound sizes facts s are_sizes is long are meets area r offset most near count told in
        let inside = shorter sizes.block area address n most less all in
        let short = fits sound sizes facts s are_sizes is long are meets in
        let same : place_in (told_of r) offset area ≡ p = cc in
        let P : Place → Type 0 = λ place. LieAt place (area_offset_of sizes.block address n) in
        rw long
        (subst P same
        (lie_at sizes.block area address n (told_of r) offset short inside (λ k exact. exactly area r k offset near exact)))

    module _ (i : Instruction) (p : Place) (near : FitsSigned w16 (first_slot i).offset)
        (placed : place_of operations sizes.block facts i ≡ Some p) where
      -- what is loaded or stored
      accesses : (access : Access) → access_of i ≡ Some access
          → LieAt p (area_offset_of (length s.memory.block) (address_from s.registers access.base access.offset) access.size)
      accesses access e =
          let fitting = subst FitsAccess e (access_fits i near) in
          let place : place_of operations sizes.block facts i ≡ place_from operations sizes.block facts access.base access.offset access.size =
          rw (no_emit i access e, e) refl in
          found _ p access.base access.offset access.size access.size fitting.0 fitting.1 (omega arith) refl (sym place ∙ placed)

      -- what is emitted
      emits : is_emit i ≡ true → passes_limit operations sizes.limit facts ≡ false
          → LieAt p (area_offset_of (length s.memory.block) (register s 1) (register s 2))
      emits e within =
          let most = greatest_length operations facts in
          let place : place_of operations sizes.block facts i ≡ place_from operations sizes.block facts 1 (pos 0) most = rw e refl in
          let count = counted sound sizes facts s are_sizes is long are meets within in
          let less = (bounded sound sizes facts s are_sizes is long are meets).1 in
          let same = no_offset sound sizes facts s are_sizes is long are meets in
          let P : ℕ → Type 0 = λ address. LieAt p (area_offset_of (length s.memory.block) address (register s 2)) in
          subst P same (found _ p 1 (pos 0) (register s 2) most no_offset_fits count less refl (sym place ∙ placed))

  -- an instruction with a place accesses memory there
  pub accesses_at : (program : List (Option Instruction)) (sizes : Sizes) (i : Instruction) (facts : Facts D) (s : State) (p : Place)
      → AreSizes sizes → IsState s → length s.memory.block ≡ sizes.block → AreFacts IsFact facts → Meets contains facts s
      → FitsSigned w16 (first_slot i).offset → (is_emit i && passes_limit operations sizes.limit facts) ≡ false
      → instruction_at program s.slot ≡ Some i → place_of operations sizes.block facts i ≡ Some p → AccessesAt program p s
  accesses_at program sizes i facts s p are_sizes is long are meets near within begins placed = record {
    access = λ j access at e.
        let same : j ≡ i = cc in
        accesses sizes facts s are_sizes is long are meets i p near placed access (subst (λ j. access_of j ≡ Some access) same e);
    emit = λ j at e.
        let same : j ≡ i = cc in
        let emit = subst (λ j. is_emit j ≡ true) same e in
        emits sizes facts s are_sizes is long are meets i p near placed emit
        (subst (λ b. (b && passes_limit operations sizes.limit facts) ≡ false) emit within);
  }
