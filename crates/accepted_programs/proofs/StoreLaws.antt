-- What is known of the stack is met after a store, and met by what a load of a cell gives.
use Rattle.std.proofs.Common.{ℕ, ℤ, pos, negsuc, ◌≡◌, ◌+◌, ◌*◌, ◌-◌, ◌/◌, ◌%◌, ◌<◌, ◌≤◌, ◌^◌, ◌+ℤ◌, ◌-ℤ◌, ◌⊎◌, inl, inr, true, false, List, length, set, Option, Some, None, FitsSigned, refl, sym, ap, ◌∙◌, arith, subst}
use Rattle.std.proofs.lemmas.Bool.{and_from, and_parts, cases_lt, cond_both, false≢true, leb-true}
use Rattle.std.proofs.lemmas.Bool.Decides.{nat_tests}
use Rattle.std.proofs.lemmas.Int.{ints}
use Rattle.std.specs.Int.{w16, w64, cast_unsigned}
use Rattle.std.specs.Ordering.{int_eq}
use Rattle.std.specs.Prelude.{◌==◌, ◌&&◌, ◌≤ℤ◌, int_le, nat_le, nat_lt}
use Rattle.byteorder.specs.Endian.{little_bytes}
use Rattle.byteorder.specs.Numbers.{length-bytes_low_first}
use Rattle.instruction_set.specs.Instruction.{size_of}
use Rattle.instruction_set.specs.declared.operation.Size.{Size}
use Rattle.instruction_set.specs.declared.operation.Size.TheVariants.{Byte, HalfWord, Word, DoubleWord}
use Rattle.common_definitions.specs.Bytes.{spliced}
use Rattle.program_interface.specs.Area.{address_of}
use Rattle.program_interface.specs.declared.area.Area.{Area}
use Rattle.program_interface.specs.declared.area.Area.TheVariants.{Context, Block, Stack, Scratch}
use Rattle.program_interface.specs.declared.area.TheConstants.{STACK_BYTES}
use Rattle.program_meaning.specs.Memory.{IsMemory, Memory, lies_in, loaded, stored, truncated}
use Rattle.program_meaning.proofs.Proved.{areas_are_apart}
use Rattle.word_domain.specs.Domain.{IsAtOffset}
use Rattle.word_domain.specs.declared.offsets.Offsets.{Offsets}
use Rattle.accepted_programs.specs.Cells.{cell_from, cell_of, filled, has_byte, is_stack, no_cells, overwritten}
use Rattle.accepted_programs.proofs.CellLaws.{if_some, left_known, none_known, set_known, word_kept, word_written}
use Rattle.accepted_programs.specs.Meets.{BelongInCells, word_in}
use Rattle.accepted_programs.specs.declared.facts.TheConstants.{CELLS}

-- ---- which bytes an access meets

-- a distance from the stack's first byte that is between two others, an offset added
pub record IsBetween (low high offset : ℤ) (at : ℕ) : Type 0 where
  pub least : (low +ℤ offset) ≤ℤ pos at
  pub most : pos at ≤ℤ (high +ℤ offset)

-- an access that lies in the stack
pub record IsInStack (address n : ℕ) : Type 0 where
  pub from : address_of Stack ≤ address
  pub to : address + n ≤ address_of Stack + STACK_BYTES

pub in_stack : (block address n : ℕ) → lies_in block Stack address n ≡ true → IsInStack address n
in_stack block address n lies =
    let both = and_parts (nat_le (address_of Stack) address) (nat_le (address + n) (address_of Stack + STACK_BYTES)) lies in
    record { from = leb-true _ _ both.0; to = leb-true _ _ both.1 }

between : (w n : ℕ) (low high offset : ℤ) → w < 2 ^ 64 → FitsSigned w16 offset
    → low ≤ℤ (pos w -ℤ pos (address_of Stack)) → (pos w -ℤ pos (address_of Stack)) ≤ℤ high
    → IsInStack ((w + cast_unsigned w64 offset) % 2 ^ 64) n
    → IsBetween low high offset ((w + cast_unsigned w64 offset) % 2 ^ 64 - address_of Stack)
between w n low high (pos k) small near first last inside =
    record { least = omega (arith, ints, near.sfits, inside.from, inside.to); most = omega (arith, ints, near.sfits, inside.from, inside.to) }
between w n low high (negsuc k) small near first last inside =
    record { least = omega (arith, ints, near.sfits, inside.from, inside.to); most = omega (arith, ints, near.sfits, inside.from, inside.to) }

le-int_le : (a b : ℤ) → a ≤ℤ b → int_le a b ≡ true
le-int_le a b h = grind (arith, ints)

-- a cell with none of the bytes from one distance to another is before them or behind them
cell_apart : (low high offset : ℤ) (at n j : ℕ) → IsBetween low high offset at → 1 ≤ n
    → has_byte j (low +ℤ offset) ((high +ℤ offset) +ℤ (pos n -ℤ pos 1)) ≡ false
    → (8 * j + 8 ≤ at) ⊎ (at + n ≤ 8 * j)
cell_apart low high offset at n j near some none =
    let first = low +ℤ offset in
    let last = (high +ℤ offset) +ℤ (pos n -ℤ pos 1) in
    elim (cases_lt (8 * j + 7) at) [
      | inl before ↦ inl (omega (arith, before))
      | inr from ↦ elim (cases_lt (8 * j) (at + n)) [
        | inl into ↦
            let begins : first ≤ℤ pos (8 * j + 7) = omega (arith, ints, from, near.least) in
            let ends : pos (8 * j) ≤ℤ last = omega (arith, ints, into, near.most) in
            absurd (false≢true (sym none
            ∙ and_from (int_le first (pos (8 * j + 7))) (int_le (pos (8 * j)) last) (le-int_le _ _ begins) (le-int_le _ _ ends)))
        | inr behind ↦ inr behind
      ]
    ]

-- the cell of an access of eight bytes
record IsCell (told : Option Offsets) (offset : ℤ) (j : ℕ) : Type 0 where
  offsets : Offsets
  is : told ≡ Some offsets
  stack : offsets.area ≡ Stack
  exact : offsets.high ≡ offsets.low
  at : (offsets.low +ℤ offset) ≡ pos (8 * j)
  within : 8 * j + 8 ≤ STACK_BYTES

is_the_stack : (area : Area) → is_stack area ≡ true → area ≡ Stack
is_the_stack Stack e = refl
is_the_stack Context e = cc
is_the_stack Block e = cc
is_the_stack Scratch e = cc

cell_from_is : (distance : ℤ) (j : ℕ) → cell_from distance ≡ Some j → (distance ≡ pos (8 * j)) × (8 * j + 8 ≤ STACK_BYTES)
cell_from_is (pos k) j e =
    let chosen = if_some (k % 8 == 0 && nat_lt k STACK_BYTES) (Some (k / 8)) j e in
    let both = and_parts (k % 8 == 0) (nat_lt k STACK_BYTES) chosen.0 in
    let whole : k % 8 ≡ 0 = grind (arith, nat_tests) in
    let inside : k < STACK_BYTES = grind (arith, nat_tests) in
    let same : k / 8 ≡ j = cc in
    let exact : k ≡ 8 * j = omega (arith, whole, same) in
    (ap pos exact, omega (arith, exact, inside))
cell_from_is (negsuc n) j e = cc

cell_is : (told : Option Offsets) (offset : ℤ) (j : ℕ) → cell_of told offset ≡ Some j → IsCell told offset j
cell_is None offset j e = cc
cell_is (Some told) offset j e =
    let chosen = if_some (is_stack told.area && int_eq told.low told.high) (cell_from (told.low +ℤ offset)) j e in
    let both = and_parts (is_stack told.area) (int_eq told.low told.high) chosen.0 in
    let place = cell_from_is (told.low +ℤ offset) j chosen.1 in
    record {
      offsets = told;
      is = refl;
      stack = is_the_stack told.area both.0;
      exact = grind (arith, ints);
      at = place.0;
      within = place.1;
    }

-- the address of the eight bytes of a cell
exact_address : (w j : ℕ) (low high offset : ℤ) → w < 2 ^ 64 → FitsSigned w16 offset → high ≡ low
    → (low +ℤ offset) ≡ pos (8 * j) → 8 * j + 8 ≤ STACK_BYTES
    → (low ≤ℤ (pos w -ℤ pos (address_of Stack))) × ((pos w -ℤ pos (address_of Stack)) ≤ℤ high)
    → (w + cast_unsigned w64 offset) % 2 ^ 64 ≡ address_of Stack + 8 * j
exact_address w j low high (pos k) small near exact at within far = omega (arith, ints, near.sfits, far.0, far.1)
exact_address w j low high (negsuc k) small near exact at within far = omega (arith, ints, near.sfits, far.0, far.1)

-- ---- memory
module _ (m : Memory) (is : IsMemory m) (address : ℕ) (size : Size) (word : ℕ) where
  abbrev bytes : List ℕ
  bytes = little_bytes (size_of size) (truncated size word)

  -- a store into another area leaves the stack
  pub stack_stays : (area : Area) → is_stack area ≡ false → lies_in (length m.block) area address (size_of size) ≡ true
      → (stored m address size word).stack ≡ m.stack
  stack_stays Context other lies = rw (areas_are_apart (length m.block) Context address (size_of size) is.block_fits lies) refl
  stack_stays Block other lies = rw (areas_are_apart (length m.block) Block address (size_of size) is.block_fits lies) refl
  stack_stays Stack other lies = cc
  stack_stays Scratch other lies = rw (areas_are_apart (length m.block) Scratch address (size_of size) is.block_fits lies) refl

  pub stack_written : lies_in (length m.block) Stack address (size_of size) ≡ true
      → (stored m address size word).stack ≡ spliced (address - address_of Stack) bytes m.stack
  stack_written lies = rw (areas_are_apart (length m.block) Stack address (size_of size) is.block_fits lies) refl

-- a load of a cell's bytes gives the cell's word
pub cell_loaded : (m : Memory) → IsMemory m → (told : Option Offsets) (offset : ℤ) (j w : ℕ) → w < 2 ^ 64
    → FitsSigned w16 offset → ((offsets : Offsets) → told ≡ Some offsets → IsAtOffset offsets w)
    → cell_of told offset ≡ Some j
    → loaded m ((w + cast_unsigned w64 offset) % 2 ^ 64) 8 ≡ word_in m.stack j
cell_loaded m is told offset j w small near known e =
    let cell = cell_is told offset j e in
    let far = known cell.offsets cell.is in
    let there : (w + cast_unsigned w64 offset) % 2 ^ 64 ≡ address_of Stack + 8 * j =
    exact_address w j cell.offsets.low cell.offsets.high offset small near cell.exact cell.at cell.within
    (subst (λ area. (cell.offsets.low ≤ℤ (pos w -ℤ pos (address_of area))) × ((pos w -ℤ pos (address_of area)) ≤ℤ cell.offsets.high)) cell.stack far) in
    let inside : lies_in (length m.block) Stack (address_of Stack + 8 * j) 8 ≡ true = grind (arith, nat_tests, cell.within) in
    let at : address_of Stack + 8 * j - address_of Stack ≡ 8 * j = omega arith in
    rw (there, areas_are_apart (length m.block) Stack (address_of Stack + 8 * j) 8 is.block_fits inside, at) refl

-- ---- cells after a store into the stack
module _ {D : Type 0} (contains : D → ℕ → Type 0) (stack bytes : List ℕ) (at : ℕ) (whole : length stack ≡ STACK_BYTES)
    (fits : at + length bytes ≤ STACK_BYTES) (some : 1 ≤ length bytes) (told : Option Offsets) (offset : ℤ)
    (near : (offsets : Offsets) → told ≡ Some offsets → is_stack offsets.area ≡ true
    → IsBetween offsets.low offsets.high offset at)
    (cells : List (Option D)) (belong : BelongInCells contains cells stack) where
  abbrev BelongThen : List (Option D) → Type 0
  BelongThen others = BelongInCells contains others (spliced at bytes stack)

  none_belong : BelongThen no_cells
  none_belong j d e = absurd (none_known CELLS j d e)

  overwritten_by : (o : Option Offsets) → told ≡ o → BelongThen (overwritten o offset (length bytes) cells)
  overwritten_by None same = none_belong
  overwritten_by (Some offsets) same =
      cond_both (is_stack offsets.area) _ no_cells BelongThen
      (λ into j d e.
      let left = left_known _ _ j cells d e in
      let apart = cell_apart offsets.low offsets.high offset at (length bytes) j (near offsets same into) some left.0 in
      rw (word_kept stack bytes at j (omega (arith, whole, fits)) apart) (belong j d left.1))
      (λ _. none_belong)

  -- a store that fills no cell
  overwritten_belong : BelongThen (overwritten told offset (length bytes) cells)
  overwritten_belong = overwritten_by told refl

  none_filled : (cell : Option ℕ) → BelongThen (filled cell None cells (overwritten told offset (length bytes) cells))
  none_filled (Some j) = overwritten_belong
  none_filled None = overwritten_belong

  module _ (word : ℕ) (small : word < 2 ^ 64) (all : bytes ≡ little_bytes 8 word) where
    -- a word that is stored into a cell, and those of the others
    set_belongs : (j : ℕ) → at ≡ 8 * j → (d : D) → contains d word → BelongThen (set cells j (Some d))
    set_belongs j exact d is k e known =
        let long : length bytes ≡ 8 = ap (λ (l : List ℕ). length l) all ∙ length-bytes_low_first 0 8 word in
        elim (set_known cells j k (Some d) e known) [
          | inl here ↦
              let read = word_written stack j word (omega (arith, whole, fits, exact, long)) small in
              let same : d ≡ e = cc here.1 in
              rw (here.0, ← same, exact, all, read) is
          | inr there ↦
              let other = there.0 in
              let apart : (8 * k + 8 ≤ at) ⊎ (at + length bytes ≤ 8 * k) = elim (cases_lt k j) [
                | inl before ↦ inl (omega (arith, before, exact))
                | inr from ↦ inr (omega (arith, from, other, exact, long))
              ] in
              rw (word_kept stack bytes at k (omega (arith, whole, fits)) apart) (belong k e there.1)
        ]

    exact_at : (j : ℕ) → IsCell told offset j → at ≡ 8 * j
    exact_at j cell =
        let between = near cell.offsets cell.is (ap is_stack cell.stack) in
        omega (arith, ints, between.least, between.most, cell.exact, cell.at)

    filled_by : (cell : Option ℕ) (kept : Option D) → cell_of told offset ≡ cell → ((d : D) → kept ≡ Some d → contains d word)
        → BelongThen (filled cell kept cells (overwritten told offset (length bytes) cells))
    filled_by (Some j) (Some d) same is = set_belongs j (exact_at j (cell_is told offset j same)) d (is d refl)
    filled_by (Some j) None same is = overwritten_belong
    filled_by None kept same is = overwritten_belong

    -- a store of a word that may fill a cell
    filled_belong : (kept : Option D) → ((d : D) → kept ≡ Some d → contains d word)
        → BelongThen (filled (cell_of told offset) kept cells (overwritten told offset (length bytes) cells))
    filled_belong kept is = filled_by (cell_of told offset) kept refl is

-- ---- a store of so many bytes into the stack
size_some : (size : Size) → 1 ≤ size_of size
size_some Byte = omega arith
size_some HalfWord = omega arith
size_some Word = omega arith
size_some DoubleWord = omega arith

module _ {D : Type 0} (contains : D → ℕ → Type 0) (stack : List ℕ) (size : Size) (word : ℕ) (small : word < 2 ^ 64) (w : ℕ)
    (told : Option Offsets) (offset : ℤ) where
  abbrev address_there : ℕ
  address_there = (w + cast_unsigned w64 offset) % 2 ^ 64

  abbrev stored_bytes : List ℕ
  stored_bytes = little_bytes (size_of size) (truncated size word)

  near_there : w < 2 ^ 64 → FitsSigned w16 offset → ((offsets : Offsets) → told ≡ Some offsets → IsAtOffset offsets w)
      → IsInStack address_there (size_of size)
      → (offsets : Offsets) → told ≡ Some offsets → is_stack offsets.area ≡ true
      → IsBetween offsets.low offsets.high offset (address_there - address_of Stack)
  near_there fits near known inside offsets is into =
      let far = subst (λ area. (offsets.low ≤ℤ (pos w -ℤ pos (address_of area))) × ((pos w -ℤ pos (address_of area)) ≤ℤ offsets.high))
      (is_the_stack offsets.area into) (known offsets is) in
      between w (size_of size) offsets.low offsets.high offset fits near far.0 far.1 inside

  whole_word : size ≡ DoubleWord → stored_bytes ≡ little_bytes 8 word
  whole_word is = rw is refl

  by_kept : length stack ≡ STACK_BYTES → (at : ℕ)
      → ((offsets : Offsets) → told ≡ Some offsets → is_stack offsets.area ≡ true → IsBetween offsets.low offsets.high offset at)
      → at + length stored_bytes ≤ STACK_BYTES → 1 ≤ length stored_bytes
      → (cells : List (Option D)) → BelongInCells contains cells stack
      → (kept : Option D) → ((d : D) → kept ≡ Some d → (size ≡ DoubleWord) × contains d word)
      → BelongInCells contains (filled (cell_of told offset) kept cells (overwritten told offset (length stored_bytes) cells))
      (spliced at stored_bytes stack)
  by_kept whole at there room some cells belong None is =
      none_filled contains stack stored_bytes at whole room some told offset there cells belong (cell_of told offset)
  by_kept whole at there room some cells belong (Some d) is =
      filled_belong contains stack stored_bytes at whole room some told offset there cells belong word small
      (whole_word (is d refl).0) (Some d) (λ e same. (is e same).1)

  pub stored_belong : length stack ≡ STACK_BYTES → w < 2 ^ 64 → FitsSigned w16 offset
      → ((offsets : Offsets) → told ≡ Some offsets → IsAtOffset offsets w) → IsInStack address_there (size_of size)
      → (cells : List (Option D)) → BelongInCells contains cells stack
      → (kept : Option D) → ((d : D) → kept ≡ Some d → (size ≡ DoubleWord) × contains d word)
      → BelongInCells contains (filled (cell_of told offset) kept cells (overwritten told offset (size_of size) cells))
      (spliced (address_there - address_of Stack) stored_bytes stack)
  stored_belong whole fits near known inside cells belong kept is =
      let long : length stored_bytes ≡ size_of size = length-bytes_low_first 0 (size_of size) (truncated size word) in
      let some = size_some size in
      let at = address_there - address_of Stack in
      let there = near_there fits near known inside in
      let room : at + length stored_bytes ≤ STACK_BYTES = omega (arith, inside.from, inside.to, long) in
      let less : 1 ≤ length stored_bytes = omega (arith, long, some) in
      let P : ℕ → Type 0 = λ n. BelongInCells contains (filled (cell_of told offset) kept cells (overwritten told offset n cells)) (spliced at stored_bytes stack) in
      subst P long (by_kept whole at there room less cells belong kept is)
