-- Flat memory against the areas: where an access lies in one of them, it comes to the same.
use Rattle.std.proofs.Common.{ℕ, ◌+◌, ◌-◌, ◌<◌, ◌≤◌, ◌≡◌, Bool, true, false, List, length, get_or, Option, Some, slice_get, IsSome, refl, sym, ap, ◌∙◌, subst, arith, ext_get_or, lit≤}
use mathlib.Core.Path.{fun_ext}
use Rattle.std.specs.Prelude.{if◌then◌else◌, is_none, nat_le, nat_lt, slice_index, unwrap_or, ◌&&◌}
use Rattle.std.proofs.lemmas.Bool.{and_parts, leb-true, ltb-true}
use Rattle.std.proofs.lemmas.List.FromFn.{get_or-map-range_with_len, length-map-range_with_len}
use Rattle.std.proofs.lemmas.Option.{same_Some, slice_get-get_or}
use Rattle.byteorder.specs.Endian.{little_bytes, little_number}
use Rattle.byteorder.specs.Numbers.{length-bytes_low_first}
use Rattle.instruction_set.specs.Instruction.{access_of, immediate_word, is_emit, signed_size_of, size_of}
use Rattle.instruction_set.specs.declared.instruction.Instruction.{Instruction}
use Rattle.instruction_set.specs.declared.instruction.Instruction.TheVariants.{Load, LoadSigned, StoreImmediate, StoreRegister, Call}
use Rattle.instruction_set.specs.declared.operation.SignedSize.{SignedSize}
use Rattle.instruction_set.specs.declared.operation.SignedSize.TheVariants as signed
use Rattle.instruction_set.specs.declared.operation.Size.{Size}
use Rattle.instruction_set.specs.declared.operation.Size.TheVariants.{Byte, HalfWord, Word, DoubleWord}
use Rattle.program_meaning.specs.Cause.{calls_unknown, emits_badly, emits_outside, loads_outside, next_slot, stores_outside}
use Rattle.program_meaning.specs.steps.Causes.{is_unwritable_at}
use Rattle.program_meaning.specs.Effect.{address_from, bytes_at, effect, put, register, sign_extended, with_frame}
use Rattle.program_meaning.specs.Granted.{FlatState, flat_after, flat_bytes, flat_effect, flat_memory, flat_state, with_flat_bytes}
use Rattle.program_meaning.specs.Laws.{HasBytes, is_within}
use Rattle.program_meaning.specs.Memory.{IsMemory, Memory, area_bytes, area_offset_of, byte_at, loaded, stored, truncated}
use Rattle.program_meaning.specs.State.{IsState, State}
use Rattle.program_meaning.specs.Step.{Goes, slot_number, step_of}
use Rattle.program_meaning.specs.declared.area_offset.AreaOffset.{AreaOffset}
use Rattle.program_meaning.specs.declared.cause.Cause.TheVariants.{EmitLength, EmitOutside, LoadOutside, StoreOutside, UnknownHelper}
use Rattle.program_meaning.proofs.CauseLemmas.{done}
use Rattle.program_meaning.proofs.Groups as groups
use Rattle.program_meaning.proofs.Groups.{emits_inside, some_of}
use Rattle.program_meaning.proofs.MapLemmas.{byte_of, loads, stores, the_value}
use Rattle.program_meaning.proofs.StateLemmas.{writable_is_some}

-- ---- reads
module _ (outside : ℕ → ℕ) (m : Memory) where
  -- a byte of an area
  flat_at : (address v : ℕ) → byte_at m address ≡ Some v → flat_memory outside m address ≡ v
  flat_at address v e = ap (λ (o : Option ℕ). unwrap_or o (outside address)) e

  module _ (is : IsMemory m) (address n : ℕ) (p : AreaOffset) (at : area_offset_of (length m.block) address n ≡ Some p) where
    abbrev bytes : List ℕ
    bytes = flat_bytes (flat_memory outside m) address n

    long : length bytes ≡ n
    long = length-map-range_with_len (flat_memory outside m) address n

    byte : (k : ℕ) → k < n → get_or bytes k 0 ≡ get_or (area_bytes m p.area) (p.offset + k) 0
    byte k below =
        get_or-map-range_with_len (flat_memory outside m) address n k (address + k) 0 below refl
        ∙ flat_at (address + k) (get_or (area_bytes m p.area) (p.offset + k) 0) (byte_of m address n is p at k below)

    has : HasBytes m address bytes
    has k below =
        let inside : k < n = omega (arith, long, below) in
        byte_of m address n is p at k inside
        ∙ sym (slice_get-get_or bytes k 0 below ∙ ap (λ (x : ℕ). Some x) (byte k inside))

    pub loaded_flat : 1 ≤ n → little_number n bytes ≡ loaded m address n
    loaded_flat some =
        subst (λ (k : ℕ). little_number k bytes ≡ loaded m address k) long
        (sym (loads m address bytes is (omega (arith, long, some)) has))

    pub emitted_flat : flat_bytes (flat_memory outside m) address n ≡ bytes_at m address n
    emitted_flat =
        let emitted = bytes_at m address n in
        let whole = groups.long m address n is p at in
        ext_get_or 0 bytes emitted (long ∙ sym whole)
        (λ k below.
        let inside : k < n = omega (arith, long, below) in
        let shown : k < length emitted = omega (arith, whole, inside) in
        byte k inside
        ∙ same_Some _ _ (sym (byte_of m address n is p at k inside)
        ∙ (groups.mapped m address n is p at k inside ∙ slice_get-get_or emitted k 0 shown)))

-- ---- writes
module _ (outside : ℕ → ℕ) (m : Memory) (is : IsMemory m) (address : ℕ) (size : Size) (word : ℕ)
    (some : IsSome (area_offset_of (length m.block) address (size_of size))) where
  abbrev written : List ℕ
  written = little_bytes (size_of size) (truncated size word)

  written_long : length written ≡ size_of size
  written_long = length-bytes_low_first 0 (size_of size) (truncated size word)

  by_place : (other : ℕ) (b : Bool) → is_within address (length written) other ≡ b
      → flat_memory outside (stored m address size word) other ≡ (if b then slice_index written (other - address) else flat_memory outside m other)
  by_place other true e =
      let tests = and_parts (nat_le address other) (nat_lt other (address + length written)) e in
      let from = leb-true address other tests.0 in
      let to = ltb-true other (address + length written) tests.1 in
      let same : address + (other - address) ≡ other = omega (arith, from) in
      let inside : other - address < length written = omega (arith, from, to) in
      let there = (stores m address size word is some).0 (other - address) inside in
      flat_at outside (stored m address size word) other (get_or written (other - address) 0)
      (subst (λ (a : ℕ). byte_at (stored m address size word) a ≡ slice_get written (other - address)) same there
      ∙ slice_get-get_or written (other - address) 0 inside)
  by_place other false e =
      let elsewhere = subst (λ (n : ℕ). is_within address n other ≡ false) written_long e in
      ap (λ (o : Option ℕ). unwrap_or o (outside other)) ((stores m address size word is some).1 other elsewhere)

  pub stored_flat : with_flat_bytes (flat_memory outside m) address written ≡ flat_memory outside (stored m address size word)
  stored_flat = fun_ext (λ other. sym (by_place other (is_within address (length written) other) refl))

-- ---- a step
size_some : (size : Size) → 1 ≤ size_of size
size_some Byte = lit≤ tt
size_some HalfWord = lit≤ tt
size_some Word = lit≤ tt
size_some DoubleWord = lit≤ tt

signed_some : (size : SignedSize) → 1 ≤ signed_size_of size
signed_some signed.Byte = lit≤ tt
signed_some signed.HalfWord = lit≤ tt
signed_some signed.Word = lit≤ tt

module _ (outside : ℕ → ℕ) (limit : ℕ) (s : State) (is : IsState s) where
  load_flat : (address n : ℕ) → 1 ≤ n → is_none (area_offset_of (length s.memory.block) address n) ≡ false
      → little_number n (flat_bytes (flat_memory outside s.memory) address n) ≡ loaded s.memory address n
  load_flat address n some found =
      let place = the_value (area_offset_of (length s.memory.block) address n) (some_of (area_offset_of (length s.memory.block) address n) found) in
      loaded_flat outside s.memory is.memory address n place.0 place.1 some

  store_flat : (address : ℕ) (size : Size) (word : ℕ) → is_unwritable_at (area_offset_of (length s.memory.block) address (size_of size)) ≡ false
      → with_flat_bytes (flat_memory outside s.memory) address (little_bytes (size_of size) (truncated size word))
      ≡ flat_memory outside (stored s.memory address size word)
  store_flat address size word may =
      stored_flat outside s.memory is.memory address size word (writable_is_some (area_offset_of (length s.memory.block) address (size_of size)) may)

  effect_flat : (i : Instruction) → loads_outside s (access_of i) ≡ false → stores_outside s (access_of i) ≡ false → calls_unknown i ≡ false
      → (is_emit i && emits_outside s) ≡ false → (is_emit i && emits_badly limit s) ≡ false
      → flat_effect (flat_state outside s) i ≡ flat_state outside (effect s i)
  effect_flat (Load size dst src offset) reads writes known from badly =
      ap (λ (word : ℕ). flat_state outside (put s dst word))
      (load_flat (address_from s.registers src offset) (size_of size) (size_some size) reads)
  effect_flat (LoadSigned size dst src offset) reads writes known from badly =
      ap (λ (word : ℕ). flat_state outside (put s dst (sign_extended size word)))
      (load_flat (address_from s.registers src offset) (signed_size_of size) (signed_some size) reads)
  effect_flat (StoreImmediate size dst offset value) reads writes known from badly =
      ap (λ (memory : ℕ → ℕ). record (flat_state outside s) { memory = memory })
      (store_flat (address_from s.registers dst offset) size (immediate_word value) writes)
  effect_flat (StoreRegister size dst src offset) reads writes known from badly =
      ap (λ (memory : ℕ → ℕ). record (flat_state outside s) { memory = memory })
      (store_flat (address_from s.registers dst offset) size (register s src) writes)
  effect_flat (Call helper) reads writes known from badly =
      let place = the_value (area_offset_of (length s.memory.block) (register s 1) (register s 2)) (emits_inside limit s (Call helper) known from badly) in
      ap (λ (bytes : List ℕ). flat_state outside (with_frame s bytes))
      (emitted_flat outside s.memory is.memory (register s 1) (register s 2) place.0 place.1)
  effect_flat i reads writes known from badly = refl

  -- a step that goes on goes on so where nothing is checked
  pub step_flat : (program : List (Option Instruction)) (s' : State) (i : Instruction) → step_of program limit s i ≡ Goes s'
      → flat_after (flat_state outside s) i ≡ flat_state outside s'
  step_flat program s' i e =
      let facts = done program limit s s' i e in
      ap (λ (f : FlatState). record f { bare = record (f.bare) { slot = slot_number (next_slot s.slot s.registers i) } })
      (effect_flat i (facts.free LoadOutside) (facts.free StoreOutside) (facts.free UnknownHelper) (facts.free EmitOutside) (facts.free EmitLength))
      ∙ ap (flat_state outside) facts.next
