-- Cells that are forgotten from the front.
use Rattle.std.proofs.Common.{◌≡◌, ℕ, ℤ, zero, suc, ◌+◌, ◌<◌, true, false, List, [], ◌∷◌, length, set, Option, None, refl, ap, arith, add-zero, add-one, zero-add, suc-add, add-suc, sym, ◌∙◌, subst, if◌then◌else◌}
use Rattle.accepted_programs.specs.Cells.{forgotten, has_byte}
use Rattle.accepted_programs.specs.declared.facts.TheConstants.{CELLS}

module _ {D : Type 0} (first last : ℤ) where
  -- the first i forgotten where they have a byte from one distance to another; they are the cells from the j-th on
  abbrev pub forgotten_upto : ℕ → ℕ → List (Option D) → List (Option D)
  forgotten_upto zero j cells = cells
  forgotten_upto (suc i) j [] = []
  forgotten_upto (suc i) j (cell ∷ cells) = (if has_byte j first last then None else cell) ∷ forgotten_upto i (suc j) cells

  met_suc : (i j : ℕ) (cells : List (Option D)) → i < length cells → has_byte (j + i) first last ≡ true
      → set (forgotten_upto i j cells) i None ≡ forgotten_upto (suc i) j cells
  met_suc i j [] within met = absurd (omega arith)
  met_suc zero j (cell ∷ cells) within met = ap (λ b. (if b then None else cell) ∷ cells) (sym (subst (λ n. has_byte n first last ≡ true) (add-zero j) met))
  met_suc (suc i) j (cell ∷ cells) within met =
      ap (λ l. (if has_byte j first last then None else cell) ∷ l) (met_suc i (suc j) cells (omega arith) (subst (λ n. has_byte n first last ≡ true) (add-suc j i ∙ sym (suc-add j i)) met))

  left_suc : (i j : ℕ) (cells : List (Option D)) → i < length cells → has_byte (j + i) first last ≡ false
      → forgotten_upto i j cells ≡ forgotten_upto (suc i) j cells
  left_suc i j [] within left = absurd (omega arith)
  left_suc zero j (cell ∷ cells) within left = ap (λ b. (if b then None else cell) ∷ cells) (sym (subst (λ n. has_byte n first last ≡ false) (add-zero j) left))
  left_suc (suc i) j (cell ∷ cells) within left =
      ap (λ l. (if has_byte j first last then None else cell) ∷ l) (left_suc i (suc j) cells (omega arith) (subst (λ n. has_byte n first last ≡ false) (add-suc j i ∙ sym (suc-add j i)) left))

  -- one more, which has such a byte
  pub met_more : (i : ℕ) (cells : List (Option D)) → i < length cells → has_byte i first last ≡ true
      → set (forgotten_upto i 0 cells) i None ≡ forgotten_upto (i + 1) 0 cells
  met_more i cells within met = rw add-one (met_suc i 0 cells within (subst (λ n. has_byte n first last ≡ true) (sym (zero-add i)) met))

  -- one more, which has none
  pub left_more : (i : ℕ) (cells : List (Option D)) → i < length cells → has_byte i first last ≡ false
      → forgotten_upto i 0 cells ≡ forgotten_upto (i + 1) 0 cells
  left_more i cells within left = rw add-one (left_suc i 0 cells within (subst (λ n. has_byte n first last ≡ false) (sym (zero-add i)) left))

  all_forgotten : (j : ℕ) (cells : List (Option D)) → forgotten_upto (length cells) j cells ≡ forgotten first last j cells
  all_forgotten j [] = refl
  all_forgotten j (cell ∷ cells) =
      ap (λ l. (if has_byte j first last then None else cell) ∷ l) (all_forgotten (suc j) cells)

  -- all of them
  pub forgotten_all : (cells : List (Option D)) → length cells ≡ CELLS
      → forgotten_upto CELLS 0 cells ≡ forgotten first last 0 cells
  forgotten_all cells long =
      subst (λ n. forgotten_upto n 0 cells ≡ forgotten first last 0 cells) long (all_forgotten 0 cells)
