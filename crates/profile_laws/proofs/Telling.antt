-- What it takes that one domain tells at least as much as another, and what follows for rows and for the stack.
use Rattle.std.proofs.Common.{ℕ, ℤ, ◌≡◌, ◌<◌, ◌≤◌, ◌^◌, ◌⊎◌, Bool, true, false, Option, Some, None, IsSome, arith, zero, suc, pos, negsuc, ◌+◌, ◌-◌, ◌*◌, ◌+ℤ◌, ◌-ℤ◌, cond, List, [], ◌∷◌, ◌++◌, drop, get_or, replicate, set, refl, ap, subst}
use Rattle.std.proofs.lemmas.Int.{ints}
use Rattle.std.specs.Prelude.{◌≤ℤ◌, ◌&&◌, int_le, unwrap_or}
use Rattle.instruction_set.specs.declared.operation.Relation.{Relation}
use Rattle.instruction_set.specs.declared.operation.SignedSize.{SignedSize}
use Rattle.instruction_set.specs.declared.operation.Size.{Size}
use Rattle.instruction_set.specs.declared.operation.Size.TheVariants.{DoubleWord}
use Rattle.instruction_set.specs.declared.operation.Width.{Width}
use Rattle.program_interface.specs.declared.area.Area.{Area}
use Rattle.program_meaning.specs.declared.word.Arithmetic.{Arithmetic}
use Rattle.word_domain.specs.Domain.{Operations}
use Rattle.word_domain.specs.declared.bounds.Bounds.{Bounds}
use Rattle.word_domain.specs.declared.offsets.Offsets.{Offsets}
use Rattle.std.proofs.Math.Seq.{drop-nil}
use Rattle.std.proofs.lemmas.Bool.Decides.{nat_tests}
use Rattle.std.specs.Ordering.{int_eq}
use Rattle.accepted_programs.specs.Cells.{cell_from, cell_of, filled, forgotten, has_byte, is_stack, join_cell, joined_each, known_in, no_cells, overwritten}
use Rattle.accepted_programs.specs.declared.facts.TheConstants.{CELL_BYTES, CELLS}

pub both_at_most : (a b c d : ℤ) → (int_le a b && int_le c d) ≡ true → (a ≤ℤ b) × (c ≤ℤ d)
both_at_most a b c d are = grind (arith, ints)

pub are_at_most : (a b c d : ℤ) → a ≤ℤ b → c ≤ℤ d → (int_le a b && int_le c d) ≡ true
are_at_most a b c d first second = grind (arith, ints)

-- each number between the first bounds is between the second
abbrev pub IsWithin : Bounds → Bounds → Type 0
IsWithin b c = (c.low ≤ b.low) × (b.high ≤ c.high)

-- the first distances are in order and between the second, which are from the same area
pub record DistancesWithin (told other : Offsets) : Type 0 where
  pub area : told.area ≡ other.area
  pub low : other.low ≤ℤ told.low
  pub order : told.low ≤ℤ told.high
  pub high : told.high ≤ℤ other.high

-- there are first distances, between the second, where there are those
abbrev pub OffsetsWithin : Option Offsets → Option Offsets → Type 0
OffsetsWithin told None = Unit {0}
OffsetsWithin None (Some other) = ⊥
OffsetsWithin (Some told) (Some other) = DistancesWithin told other

module _ {D : Type 0} (Near : D → D → Type 0) where
  -- there is the second edge where there is the first, and both facts tell as much
  abbrev pub BothNear : Option (D × D) → Option (D × D) → Type 0
  BothNear None other = Unit {0}
  BothNear (Some told) None = ⊥
  BothNear (Some told) (Some other) = Near told.0 other.0 × Near told.1 other.1

  -- of facts of which the first tell at least as much, the first operations make facts that tell at least as much as what the others
  -- make of the second
  pub record TellsAsMuch (operations others : Operations D) : Type 0 where
    pub constant : (w : ℕ) → w < 2 ^ 64 → Near (operations.constant w) (others.constant w)
    pub any : Near operations.any others.any
    pub pointer : (area : Area) (k : ℕ) → k < 2 ^ 20 → Near (operations.pointer area k) (others.pointer area k)
    pub loaded : (size : Size) → Near (operations.loaded size) (others.loaded size)
    pub loaded_signed : (size : SignedSize) → Near (operations.loaded_signed size) (others.loaded_signed size)
    -- eight bytes are any word
    pub first_whole : operations.loaded DoubleWord ≡ operations.any
    pub second_whole : others.loaded DoubleWord ≡ others.any
    pub wide : (d e : D) → Near d e → Near d others.any
    pub join_least : (d d' e : D) → Near d e → Near d' e → Near (operations.join d d') e
    pub join_first : (d e e' : D) → Near d e → Near d (others.join e e')
    pub join_second : (d e e' : D) → Near d e' → Near d (others.join e e')
    pub alu : (arithmetic : Arithmetic) (d e d' e' : D) → Near d e → Near d' e'
        → Near (operations.alu arithmetic d d') (others.alu arithmetic e e')
    pub refine : (width : Width) (relation : Relation) (taken : Bool) (d e d' e' : D) (same : Bool) → Near d e → Near d' e'
        → BothNear (operations.refine width relation taken d d' same) (others.refine width relation taken e e' same)
    pub access : (block : ℕ) (d e : D) (offset : ℤ) (size size' : ℕ) → Near d e → size ≤ size'
        → (others.access block e offset size' ≡ None)
        ⊎ (IsSome (others.offsets e) × (operations.access block d offset size ≡ others.access block e offset size'))
    pub bounds : (d e : D) → Near d e → IsWithin (operations.bounds d) (others.bounds e)
    pub offsets : (d e : D) → Near d e → OffsetsWithin (operations.offsets d) (others.offsets e)
    -- the others know nothing of registers together
    pub untracked : others.tracks_sums ≡ false

-- ---- rows

module _ {A : Type 0} (R : A → A → Type 0) (any : A) where
  -- each element of the first row is near that of the second, which is no longer; behind its end stands one for all
  abbrev pub RowNear : List A → List A → Type 0
  RowNear [] [] = Unit {0}
  RowNear [] (y ∷ ys) = ⊥
  RowNear (x ∷ xs) [] = R x any × RowNear xs []
  RowNear (x ∷ xs) (y ∷ ys) = R x y × RowNear xs ys

  pub row_at : (last : A) (xs ys : List A) (r : ℕ) → R last any → RowNear xs ys → R (get_or xs r last) (get_or ys r any)
  row_at last [] [] r behind near = behind
  row_at last [] (y ∷ ys) r behind near = absurd near
  row_at last (x ∷ xs) [] zero behind near = near.0
  row_at last (x ∷ xs) [] (suc r) behind near = row_at last xs [] r behind near.1
  row_at last (x ∷ xs) (y ∷ ys) zero behind near = near.0
  row_at last (x ∷ xs) (y ∷ ys) (suc r) behind near = row_at last xs ys r behind near.1

  pub row_drop : (n : ℕ) (xs ys : List A) → RowNear xs ys → RowNear (drop n xs) (drop n ys)
  row_drop zero xs ys near = near
  row_drop (suc n) [] [] near = tt
  row_drop (suc n) [] (y ∷ ys) near = absurd near
  row_drop (suc n) (x ∷ xs) [] near = subst (λ rest. RowNear (drop n xs) rest) (drop-nil n) (row_drop n xs [] near.1)
  row_drop (suc n) (x ∷ xs) (y ∷ ys) near = row_drop n xs ys near.1

  pub row_behind : (n : ℕ) (x y : A) (xs ys : List A) → R x y → RowNear xs ys → RowNear (replicate n x ++ xs) (replicate n y ++ ys)
  row_behind zero x y xs ys one near = near
  row_behind (suc n) x y xs ys one near = (one, row_behind n x y xs ys one near)

  pub row_same : (n : ℕ) (x : A) → R x x → RowNear (replicate n x) (replicate n x)
  row_same zero x one = tt
  row_same (suc n) x one = (one, row_same n x one)

  module _ (wide : (x y : A) → R x y → R x any) where
    pub row_set : (xs ys : List A) (r : ℕ) (x y : A) → R x y → RowNear xs ys → RowNear (set xs r x) (set ys r y)
    row_set [] [] r x y one near = tt
    row_set [] (b ∷ ys) r x y one near = absurd near
    row_set (a ∷ xs) [] zero x y one near = (wide x y one, near.1)
    row_set (a ∷ xs) [] (suc r) x y one near = (near.0, row_set xs [] r x y one near.1)
    row_set (a ∷ xs) (b ∷ ys) zero x y one near = (one, near.1)
    row_set (a ∷ xs) (b ∷ ys) (suc r) x y one near = (near.0, row_set xs ys r x y one near.1)

    row_wide : (xs ys : List A) → RowNear xs ys → RowNear xs []
    row_wide [] ys near = tt
    row_wide (x ∷ xs) [] near = near
    row_wide (x ∷ xs) (y ∷ ys) near = (wide x y near.0, row_wide xs ys near.1)

    pub row_least : (join : A → A → A) → ((x x' y : A) → R x y → R x' y → R (join x x') y) → (xs xs' ys : List A) → RowNear xs ys
        → RowNear xs' ys → RowNear (joined_each join xs xs') ys
    row_least join law [] xs' ys near near' = near
    row_least join law (x ∷ xs) [] ys near near' = near'
    row_least join law (x ∷ xs) (x' ∷ xs') [] near near' = (law x x' any near.0 near'.0, row_least join law xs xs' [] near.1 near'.1)
    row_least join law (x ∷ xs) (x' ∷ xs') (y ∷ ys) near near' = (law x x' y near.0 near'.0, row_least join law xs xs' ys near.1 near'.1)

    pub row_first : (join : A → A → A) → ((x y y' : A) → R x y → R x (join y y')) → (xs ys ys' : List A) → RowNear xs ys
        → RowNear xs (joined_each join ys ys')
    row_first join law xs [] ys' near = near
    row_first join law xs (y ∷ ys) [] near = row_wide xs (y ∷ ys) near
    row_first join law [] (y ∷ ys) (y' ∷ ys') near = absurd near
    row_first join law (x ∷ xs) (y ∷ ys) (y' ∷ ys') near = (law x y y' near.0, row_first join law xs ys ys' near.1)

    pub row_second : (join : A → A → A) → ((x y y' : A) → R x y' → R x (join y y')) → (xs ys ys' : List A) → RowNear xs ys'
        → RowNear xs (joined_each join ys ys')
    row_second join law xs [] ys' near = row_wide xs ys' near
    row_second join law xs (y ∷ ys) [] near = near
    row_second join law [] (y ∷ ys) (y' ∷ ys') near = absurd near
    row_second join law (x ∷ xs) (y ∷ ys) (y' ∷ ys') near = (law x y y' near.0, row_second join law xs ys ys' near.1)

-- ---- cells, of which one that isn't known may be any word

byte_among : (first last first' last' least most : ℤ) → first' ≤ℤ first → last ≤ℤ last' → (int_le first most && int_le least last) ≡ true
    → (int_le first' most && int_le least last') ≡ true
byte_among first last first' last' least most below above has = grind (arith, ints)

-- the eight bytes from a distance on are a cell that begins there
cell_begins : (from : ℤ) (j : ℕ) → cell_from from ≡ Some j → from ≡ pos (8 * j)
cell_begins (pos k) j e = let is : k ≡ 8 * j = grind (arith, nat_tests) in ap pos is
cell_begins (negsuc n) j e = cc

cell_at : (stack : Bool) (low high offset : ℤ) (j : ℕ) → cond (stack && int_eq low high) (cell_from (low +ℤ offset)) None ≡ Some j
    → (stack ≡ true) × (low ≡ high) × (cell_from (low +ℤ offset) ≡ Some j)
cell_at stack low high offset j e = grind (arith, ints)

-- where the second know the cell, the first do
same_at : (stack : Bool) (low high low' high' offset : ℤ) (j : ℕ) → low' ≤ℤ low → low ≤ℤ high → high ≤ℤ high'
    → cond (stack && int_eq low' high') (cell_from (low' +ℤ offset)) None ≡ Some j
    → cond (stack && int_eq low high) (cell_from (low +ℤ offset)) None ≡ Some j
same_at stack low high low' high' offset j first order last is =
    let at = cell_at stack low' high' offset j is in
    let low_is : low ≡ low' = omega (arith, ints, at.1, first, order, last) in
    let high_is : high ≡ high' = omega (arith, ints, at.1, first, order, last) in
    rw (low_is, high_is) is

-- a cell that the first know has a byte of those of which the second forget
has_begin : (low high low' high' offset : ℤ) (size j : ℕ) → low' ≤ℤ low → low ≤ℤ high → high ≤ℤ high' → 1 ≤ size
    → cell_from (low +ℤ offset) ≡ Some j → has_byte j (low' +ℤ offset) ((high' +ℤ offset) +ℤ (pos size -ℤ pos 1)) ≡ true
has_begin low high low' high' offset size j first order last some is =
    let begins = cell_begins (low +ℤ offset) j is in
    are_at_most (low' +ℤ offset) (pos (CELL_BYTES * j + (CELL_BYTES - 1))) (pos (CELL_BYTES * j)) ((high' +ℤ offset) +ℤ (pos size -ℤ pos 1))
    (omega (arith, ints, begins, first)) (omega (arith, ints, begins, order, last, some))

module _ {D : Type 0} {Near : D → D → Type 0} {operations others : Operations D} (tells : TellsAsMuch Near operations others) where
  abbrev pub CellNear : Option D → Option D → Type 0
  CellNear c c' = Near (unwrap_or c operations.any) (unwrap_or c' others.any)

  abbrev pub CellsNear : List (Option D) → List (Option D) → Type 0
  CellsNear cells cells' = RowNear CellNear None cells cells'

  pub cell_wide : (c c' : Option D) → CellNear c c' → CellNear c None
  cell_wide c c' near = tells.wide (unwrap_or c operations.any) (unwrap_or c' others.any) near

  pub none_near : CellsNear no_cells no_cells
  none_near = row_same CellNear None CELLS None tells.any

  pub cell_least : (c c' e : Option D) → CellNear c e → CellNear c' e → CellNear (join_cell operations.join c c') e
  cell_least (Some d) (Some d') e near near' = tells.join_least d d' (unwrap_or e others.any) near near'
  cell_least (Some d) None e near near' = near'
  cell_least None c' e near near' = near

  pub cell_first : (c e e' : Option D) → CellNear c e → CellNear c (join_cell others.join e e')
  cell_first c (Some e) (Some e') near = tells.join_first (unwrap_or c operations.any) e e' near
  cell_first c (Some e) None near = cell_wide c (Some e) near
  cell_first c None e' near = near

  pub cell_second : (c e e' : Option D) → CellNear c e' → CellNear c (join_cell others.join e e')
  cell_second c (Some e) (Some e') near = tells.join_second (unwrap_or c operations.any) e e' near
  cell_second c (Some e) None near = near
  cell_second c None e' near = cell_wide c e' near

  -- of a cell that the first know where the second do
  read : (cell cell' : Option ℕ) (cells cells' : List (Option D)) → ((j : ℕ) → cell' ≡ Some j → cell ≡ Some j) → CellsNear cells cells'
      → CellNear (known_in cells cell) (known_in cells' cell')
  read None None cells cells' same near = tells.any
  read None (Some j') cells cells' same near = let no : None ≡ Some j' = same j' refl in cc
  read (Some j) None cells cells' same near = cell_wide (get_or cells j None) (get_or cells' j None) (row_at CellNear None None cells cells' j tells.any near)
  read (Some j) (Some j') cells cells' same near =
      let is : Some j ≡ Some j' = same j' refl in
      let one : j ≡ j' = cc in
      rw one (row_at CellNear None None cells cells' j' tells.any near)

  -- ---- stores

  -- both words are kept, or none is
  abbrev pub WordsNear : Option D → Option D → Type 0
  WordsNear None None = Unit {0}
  WordsNear (Some d) (Some e) = Near d e
  WordsNear _ _ = ⊥

  left_near : (has has' : Bool) (c c' : Option D) → (has ≡ true → has' ≡ true) → CellNear c c' → CellNear (cond has None c) (cond has' None c')
  left_near true true c c' more near = tells.any
  left_near true false c c' more near = let no : false ≡ true = more refl in cc
  left_near false true c c' more near = cell_wide c c' near
  left_near false false c c' more near = near

  module _ (first last first' last' : ℤ) (below : first' ≤ℤ first) (above : last ≤ℤ last') where
    forgotten_near : (i : ℕ) (cells cells' : List (Option D)) → CellsNear cells cells'
        → CellsNear (forgotten first last i cells) (forgotten first' last' i cells')
    forgotten_near i [] [] near = tt
    forgotten_near i [] (c' ∷ cells') near = absurd near
    forgotten_near i (c ∷ cells) [] near =
        (left_near (has_byte i first last) true c None (λ is. refl) near.0, forgotten_near (suc i) cells [] near.1)
    forgotten_near i (c ∷ cells) (c' ∷ cells') near = (
      left_near (has_byte i first last) (has_byte i first' last') c c'
          (byte_among first last first' last' (pos (CELL_BYTES * i)) (pos (CELL_BYTES * i + (CELL_BYTES - 1))) below above) near.0,
      forgotten_near (suc i) cells cells' near.1,
    )

    -- the second alone forgets
    kept_near : (i : ℕ) (cells cells' : List (Option D)) → CellsNear cells cells' → CellsNear cells (forgotten first' last' i cells')
    kept_near i cells [] near = near
    kept_near i [] (c' ∷ cells') near = absurd near
    kept_near i (c ∷ cells) (c' ∷ cells') near =
        (left_near false (has_byte i first' last') c c' (λ no. cc) near.0, kept_near (suc i) cells cells' near.1)

    -- what is forgotten may as well be another
    forgotten_set : (i j : ℕ) (cells : List (Option D)) → has_byte (i + j) first' last' ≡ true
        → forgotten first' last' i (set cells j None) ≡ forgotten first' last' i cells
    forgotten_set i j [] has = refl
    forgotten_set i zero (c ∷ cells) has = let here : i + 0 ≡ i = omega arith in rw (← here, has) refl
    forgotten_set i (suc j) (c ∷ cells) has =
        let there : i + suc j ≡ suc i + j = omega arith in
        rw (forgotten_set (suc i) j cells (subst (λ n. has_byte n first' last' ≡ true) there has)) refl

    -- a store of a word, or of none, into a cell, or into none
    filled_near : (cell cell' : Option ℕ) (word word' : Option D) (cells cells' : List (Option D))
        → ((j : ℕ) → cell' ≡ Some j → cell ≡ Some j) → ((j : ℕ) → cell ≡ Some j → has_byte j first' last' ≡ true)
        → WordsNear word word' → CellsNear cells cells'
        → CellsNear (filled cell word cells (forgotten first last 0 cells)) (filled cell' word' cells' (forgotten first' last' 0 cells'))
    filled_near None None word word' cells cells' same inside words near = forgotten_near 0 cells cells' near
    filled_near None (Some j') word word' cells cells' same inside words near = let no : None ≡ Some j' = same j' refl in cc
    filled_near (Some j) None None None cells cells' same inside words near = forgotten_near 0 cells cells' near
    filled_near (Some j) (Some j') None None cells cells' same inside words near = forgotten_near 0 cells cells' near
    filled_near (Some j) cell' None (Some e) cells cells' same inside words near = absurd words
    filled_near (Some j) cell' (Some d) None cells cells' same inside words near = absurd words
    filled_near (Some j) None (Some d) (Some e) cells cells' same inside words near =
        let here : 0 + j ≡ j = omega arith in
        let has : has_byte (0 + j) first' last' ≡ true = rw here (inside j refl) in
        subst (λ others. CellsNear (set cells j (Some d)) others) (forgotten_set 0 j cells' has)
        (kept_near 0 (set cells j (Some d)) (set cells' j None)
        (row_set CellNear None cell_wide cells cells' j (Some d) None (tells.wide d e words) near))
    filled_near (Some j) (Some j') (Some d) (Some e) cells cells' same inside words near =
        let is : Some j ≡ Some j' = same j' refl in
        let one : j ≡ j' = cc in
        subst (λ n. CellsNear (set cells j (Some d)) (set cells' n (Some e))) one
        (row_set CellNear None cell_wide cells cells' j (Some d) (Some e) words near)

  -- ---- through addresses
  same_cell : (told other : Option Offsets) (offset : ℤ) (j : ℕ) → OffsetsWithin told other → cell_of other offset ≡ Some j
      → cell_of told offset ≡ Some j
  same_cell told None offset j within is = cc
  same_cell None (Some other) offset j within is = absurd within
  same_cell (Some told) (Some other) offset j within is =
      rw within.area
      (same_at (is_stack other.area) told.low told.high other.low other.high offset j within.low within.order within.high is)

  into_stack : (stack : Bool) (low high low' high' offset : ℤ) (size : ℕ) (word word' : Option D) (cells cells' : List (Option D))
      → low' ≤ℤ low → low ≤ℤ high → high ≤ℤ high' → 1 ≤ size → WordsNear word word' → CellsNear cells cells' → CellsNear
      (filled (cond (stack && int_eq low high) (cell_from (low +ℤ offset)) None) word cells
      (cond stack (forgotten (low +ℤ offset) ((high +ℤ offset) +ℤ (pos size -ℤ pos 1)) 0 cells) no_cells))
      (filled (cond (stack && int_eq low' high') (cell_from (low' +ℤ offset)) None) word' cells'
      (cond stack (forgotten (low' +ℤ offset) ((high' +ℤ offset) +ℤ (pos size -ℤ pos 1)) 0 cells') no_cells))
  into_stack false low high low' high' offset size word word' cells cells' first order last some words near = none_near
  into_stack true low high low' high' offset size word word' cells cells' first order last some words near =
      filled_near (low +ℤ offset) ((high +ℤ offset) +ℤ (pos size -ℤ pos 1)) (low' +ℤ offset) ((high' +ℤ offset) +ℤ (pos size -ℤ pos 1))
      (omega (arith, ints)) (omega (arith, ints)) _ _ word word' cells cells'
      (λ j is. same_at true low high low' high' offset j first order last is)
      (λ j is. has_begin low high low' high' offset size j first order last some (cell_at true low high offset j is).2)
      words near

  pub read_near : (told other : Option Offsets) (offset : ℤ) (cells cells' : List (Option D)) → OffsetsWithin told other
      → CellsNear cells cells' → CellNear (known_in cells (cell_of told offset)) (known_in cells' (cell_of other offset))
  read_near told other offset cells cells' within near =
      read (cell_of told offset) (cell_of other offset) cells cells' (λ j is. same_cell told other offset j within is) near

  pub stored_near : (told other : Option Offsets) (offset : ℤ) (size : ℕ) (word word' : Option D) (cells cells' : List (Option D))
      → OffsetsWithin told other → IsSome other → 1 ≤ size → WordsNear word word' → CellsNear cells cells'
      → CellsNear (filled (cell_of told offset) word cells (overwritten told offset size cells))
      (filled (cell_of other offset) word' cells' (overwritten other offset size cells'))
  stored_near told None offset size word word' cells cells' within is some words near = cc
  stored_near None (Some other) offset size word word' cells cells' within is some words near = absurd within
  stored_near (Some told) (Some other) offset size word word' cells cells' within is some words near =
      rw (← within.area)
      (into_stack (is_stack told.area) told.low told.high other.low other.high offset size word word' cells cells' within.low within.order within.high some words near)
