-- What is known in a cell after a change of cells, and the words of the stack after a store.
use Rattle.std.proofs.Common.{ℕ, ℤ, zero, suc, ◌≡◌, ◌≢◌, ◌+◌, ◌*◌, ◌<◌, ◌≤◌, ◌^◌, ◌⊎◌, inl, inr, Bool, true, false, List, [], ◌∷◌, ◌++◌, drop, length, replicate, set, get_or, Option, Some, None, refl, sym, ap, ◌∙◌, arith, subst}
use Rattle.std.proofs.NetLemmas.Options.{cond_none}
use Rattle.std.proofs.lemmas.List.{append-nil, get_or-drop}
use Rattle.std.specs.Prelude.{is_some, if◌then◌else◌}
use Rattle.byteorder.specs.Endian.{little_bytes, little_number}
use Rattle.byteorder.specs.Numbers.{length-bytes_low_first, little_from-lt, little_number-reads_back}
use Rattle.program_meaning.proofs.Proved.{same_number, writes_read_back}
use Rattle.common_definitions.proofs.Proved.{bytes_from}
use Rattle.common_definitions.specs.Bytes.{AreBytes, spliced}
use Rattle.accepted_programs.specs.Cells.{forgotten, has_byte, join_cell, joined_each}
use Rattle.accepted_programs.specs.Meets.{word_in}

pub if_some : {X : Type 0} (test : Bool) (o : Option X) (x : X) → (if test then o else None) ≡ Some x
    → (test ≡ true) × (o ≡ Some x)
if_some true o x e = (refl, e)
if_some false o x e = cc

-- ---- cells
module _ {D : Type 0} where
  abbrev nothing : Option D
  nothing = None

  -- where nothing is known in so many cells, nothing is known in any of them
  pub none_known : (n k : ℕ) (d : D) → get_or (replicate n nothing) k nothing ≡ Some d → ⊥
  none_known zero k d e = cc
  none_known (suc n) zero d e = cc
  none_known (suc n) (suc k) d e = none_known n k d e

  -- what is known in a cell that may be forgotten was known, and the cell has none of the bytes
  left_from : (first last : ℤ) (i k : ℕ) (cells : List (Option D)) (d : D)
      → get_or (forgotten first last i cells) k None ≡ Some d
      → (has_byte (i + k) first last ≡ false) × (get_or cells k None ≡ Some d)
  left_from first last i k [] d e = cc
  left_from first last i zero (c ∷ cs) d e =
      let here : i + 0 ≡ i = omega arith in
      let left = cond_none (has_byte i first last) c d e in
      (rw here left.0, left.1)
  left_from first last i (suc k) (c ∷ cs) d e =
      let there : i + suc k ≡ suc i + k = omega arith in
      let left = left_from first last (suc i) k cs d e in
      (rw there left.0, left.1)

  pub left_known : (first last : ℤ) (k : ℕ) (cells : List (Option D)) (d : D)
      → get_or (forgotten first last 0 cells) k None ≡ Some d
      → (has_byte k first last ≡ false) × (get_or cells k None ≡ Some d)
  left_known first last k cells d e =
      let here : 0 + k ≡ k = omega arith in
      let left = left_from first last 0 k cells d e in
      (subst (λ n. has_byte n first last ≡ false) here left.0, left.1)

  -- what is known in a cell after one was set is what that was set to, or was known in another
  pub set_known : (cells : List (Option D)) (j k : ℕ) (o : Option D) (e : D) → get_or (set cells j o) k None ≡ Some e
      → ((k ≡ j) × (o ≡ Some e)) ⊎ ((k ≢ j) × (get_or cells k None ≡ Some e))
  set_known [] j k o e known = cc
  set_known (c ∷ cs) zero zero o e known = inl (refl, known)
  set_known (c ∷ cs) zero (suc k) o e known = inr (λ same. cc, known)
  set_known (c ∷ cs) (suc j) zero o e known = inr (λ same. cc, known)
  set_known (c ∷ cs) (suc j) (suc k) o e known = elim (set_known cs j k o e known) [
    | inl here ↦ inl (ap suc here.0, here.1)
    | inr there ↦ inr (λ same. there.0 cc, there.1)
  ]

  -- where something is known in a cell, something is after another thing was learned
  pub set_some : (cells : List (Option D)) (j k : ℕ) (d : D) → is_some (get_or cells k None) ≡ true
      → is_some (get_or (set cells j (Some d)) k None) ≡ true
  set_some [] j k d is = is
  set_some (c ∷ cs) zero zero d is = refl
  set_some (c ∷ cs) zero (suc k) d is = is
  set_some (c ∷ cs) (suc j) zero d is = is
  set_some (c ∷ cs) (suc j) (suc k) d is = set_some cs j k d is

  -- what is known in a joined cell is the join of what is known in both
  pub record IsJoined (join : D → D → D) (c d : Option D) (x : D) : Type 0 where
    pub first : D
    pub second : D
    pub in_first : c ≡ Some first
    pub in_second : d ≡ Some second
    pub is : join first second ≡ x

  cell_joined : (join : D → D → D) (c d : Option D) (x : D) → join_cell join c d ≡ Some x → IsJoined join c d x
  cell_joined join (Some a) (Some b) x e = record { first = a; second = b; in_first = refl; in_second = refl; is = cc }
  cell_joined join (Some a) None x e = cc
  cell_joined join None d x e = cc

  pub joined_known : (join : D → D → D) (cs ds : List (Option D)) (k : ℕ) (x : D)
      → get_or (joined_each (join_cell join) cs ds) k None ≡ Some x → IsJoined join (get_or cs k None) (get_or ds k None) x
  joined_known join [] ds k x e = cc
  joined_known join (c ∷ cs) [] k x e = cc
  joined_known join (c ∷ cs) (d ∷ ds) zero x e = cell_joined join c d x e
  joined_known join (c ∷ cs) (d ∷ ds) (suc k) x e = joined_known join cs ds k x e

-- ---- words
-- a word of the stack is one of 64 bits
pub word_fits : (stack : List ℕ) (j : ℕ) → AreBytes stack → word_in stack j < 2 ^ 64
word_fits stack j bytes =
    little_from-lt 0 8 (drop (8 * j) stack) (bytes_from (8 * j) stack bytes)

-- the eight bytes of a cell that no store reaches stay
pub word_kept : (stack bytes : List ℕ) (at j : ℕ) → at + length bytes ≤ length stack
    → (8 * j + 8 ≤ at) ⊎ (at + length bytes ≤ 8 * j) → word_in (spliced at bytes stack) j ≡ word_in stack j
word_kept stack bytes at j fits apart =
    same_number 8 0 (drop (8 * j) (spliced at bytes stack)) (drop (8 * j) stack)
    (λ k below. get_or-drop (8 * j) (spliced at bytes stack) k 0
    ∙ (elim apart [
      | inl before ↦ (writes_read_back stack bytes at fits).before (8 * j + k) (omega (arith, before, below))
      | inr behind ↦ (writes_read_back stack bytes at fits).behind (8 * j + k) (omega (arith, behind))
    ] ∙ sym (get_or-drop (8 * j) stack k 0)))

number_of_bytes : (word : ℕ) → word < 2 ^ 64 → little_number 8 (little_bytes 8 word) ≡ word
number_of_bytes word small =
    let none : little_bytes 8 word ++ [] ≡ little_bytes 8 word = append-nil (little_bytes 8 word) in
    let most : word < 256 ^ 8 = omega (arith, small) in
    subst (λ bytes. little_number 8 bytes ≡ word) none (little_number-reads_back 8 word [] most)

-- a word that is stored into a cell is read back
pub word_written : (stack : List ℕ) (j word : ℕ) → 8 * j + 8 ≤ length stack → word < 2 ^ 64
    → word_in (spliced (8 * j) (little_bytes 8 word) stack) j ≡ word
word_written stack j word fits small =
    let bytes = little_bytes 8 word in
    let long : length bytes ≡ 8 = length-bytes_low_first 0 8 word in
    same_number 8 0 (drop (8 * j) (spliced (8 * j) bytes stack)) bytes
    (λ k below. get_or-drop (8 * j) (spliced (8 * j) bytes stack) k 0
    ∙ (writes_read_back stack bytes (8 * j) (omega (arith, fits, long))).there k (omega (arith, below, long)))
    ∙ number_of_bytes word small
