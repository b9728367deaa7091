-- Identifiers in lists: where one is, and lists in which no two are the same.
use Rattle.std.proofs.Common.{◌≡◌, ℕ, suc, ◌+◌, ◌==◌, ◌||◌, nat_lt, Bool, true, false, cond, not, List, [], ◌∷◌, ◌++◌, length, Option, None, Some, is_some, inl, inr, refl, sym, ap, ◌∙◌, arith}
use Rattle.std.proofs.lemmas.Bool.{cases_Bool, cases_lt, eqb-false, eqb-true, le-ltb, lt-ltb, ne_eqb, or_parts}
use Rattle.std.specs.List.{list_any, position, position_or_len, remove}
use Rattle.tcp_connection.specs.Commands.{removed}
use Rattle.tcp_connection.specs.Laws.{Differ}

-- a list without the first that passes
abbrev pub dropped : (ℕ → Bool) → List ℕ → List ℕ
dropped p [] = []
dropped p (x ∷ xs) = cond (p x) xs (x ∷ dropped p xs)

shifted : (a b : ℕ) → nat_lt (1 + a) (suc b) ≡ nat_lt a b
shifted a b =
    elim (cases_lt a b) [
      | inl less ↦ lt-ltb (1 + a) (suc b) (omega arith) ∙ sym (lt-ltb a b less)
      | inr most ↦ le-ltb (1 + a) (suc b) (omega arith) ∙ sym (le-ltb a b most)
    ]

remove_later : (x : ℕ) (xs : List ℕ) (n : ℕ) → remove (x ∷ xs) (1 + n) ≡ x ∷ remove xs n
remove_later x xs n =
    let later : 1 + n ≡ suc n = omega arith in ap (λ (k : ℕ). remove (x ∷ xs) k) later

module _ (p : ℕ → Bool) where
  place_yes : (x : ℕ) (xs : List ℕ) → p x ≡ true → position p (x ∷ xs) ≡ Some 0
  place_yes x xs is =
      let first : position_or_len p (x ∷ xs) ≡ 0 = ap (λ (b : Bool). cond (not b) (1 + position_or_len p xs) 0) is in
      ap (λ (n : ℕ). cond (nat_lt n (length (x ∷ xs))) (Some n) None) first
      ∙ ap (λ (b : Bool). cond b (Some 0) None) (lt-ltb 0 (length (x ∷ xs)) (omega arith))

  place_no : (x : ℕ) (xs : List ℕ) → p x ≡ false
      → position p (x ∷ xs) ≡ cond (nat_lt (position_or_len p xs) (length xs)) (Some (1 + position_or_len p xs)) None
  place_no x xs is =
      let later : position_or_len p (x ∷ xs) ≡ 1 + position_or_len p xs = ap (λ (b : Bool). cond (not b) (1 + position_or_len p xs) 0) is in
      ap (λ (n : ℕ). cond (nat_lt n (length (x ∷ xs))) (Some n) None) later
      ∙ ap (λ (b : Bool). cond b (Some (1 + position_or_len p xs)) None) (shifted (position_or_len p xs) (length xs))

  removed_later : (x : ℕ) (xs : List ℕ) (n : ℕ) (b : Bool) → removed (cond b (Some (1 + n)) None) (x ∷ xs) ≡ x ∷ removed (cond b (Some n) None) xs
  removed_later x xs n true = remove_later x xs n
  removed_later x xs n false = refl

  -- what is removed is the first that passes
  pub removed_is : (xs : List ℕ) → removed (position p xs) xs ≡ dropped p xs
  removed_is [] = refl
  removed_is (x ∷ xs) =
      elim (cases_Bool (p x)) [
        | inl passes ↦
            ap (λ (o : Option ℕ). removed o (x ∷ xs)) (place_yes x xs passes) ∙ sym (ap (λ (b : Bool). cond b xs (x ∷ dropped p xs)) passes)
        | inr fails ↦
            ap (λ (o : Option ℕ). removed o (x ∷ xs)) (place_no x xs fails)
            ∙ removed_later x xs (position_or_len p xs) (nat_lt (position_or_len p xs) (length xs))
            ∙ ap (λ (rest : List ℕ). x ∷ rest) (removed_is xs)
            ∙ sym (ap (λ (b : Bool). cond b xs (x ∷ dropped p xs)) fails)
      ]

  -- a list has a place just where one passes
  some_is : (n : ℕ) (b : Bool) → is_some (cond b (Some n) None) ≡ b
  some_is n true = refl
  some_is n false = refl

  pub place_is : (xs : List ℕ) → is_some (position p xs) ≡ list_any p xs
  place_is [] = refl
  place_is (x ∷ xs) =
      elim (cases_Bool (p x)) [
        | inl passes ↦
            ap (λ (o : Option ℕ). is_some o) (place_yes x xs passes) ∙ sym (ap (λ (b : Bool). b || list_any p xs) passes)
        | inr fails ↦
            ap (λ (o : Option ℕ). is_some o) (place_no x xs fails)
            ∙ some_is (1 + position_or_len p xs) (nat_lt (position_or_len p xs) (length xs))
            ∙ sym (some_is (position_or_len p xs) (nat_lt (position_or_len p xs) (length xs)))
            ∙ place_is xs ∙ sym (ap (λ (b : Bool). b || list_any p xs) fails)
      ]

  -- none passes in less, or in more
  either : (a b : Bool) → a ≡ false → b ≡ false → (a || b) ≡ false
  either a b first second = ap (λ (x : Bool). x || b) first ∙ second

  pub none_dropped : (q : ℕ → Bool) (xs ys : List ℕ) → list_any p (xs ++ ys) ≡ false → list_any p (dropped q xs ++ ys) ≡ false
  none_dropped q [] ys none = none
  none_dropped q (x ∷ xs) ys none =
      let parts = or_parts (p x) (list_any p (xs ++ ys)) none in
      elim (q x) as (λ b. list_any p (cond b xs (x ∷ dropped q xs) ++ ys) ≡ false) [
        | true ↦ parts.1
        | false ↦ either (p x) (list_any p (dropped q xs ++ ys)) parts.0 (none_dropped q xs ys parts.1)
      ]

  none_in_front : (xs ys : List ℕ) → list_any p (xs ++ ys) ≡ false → list_any p xs ≡ false
  none_in_front [] ys none = refl
  none_in_front (x ∷ xs) ys none =
      let parts = or_parts (p x) (list_any p (xs ++ ys)) none in either (p x) (list_any p xs) parts.0 (none_in_front xs ys parts.1)

  none_inserted : (x : ℕ) (xs ys : List ℕ) → p x ≡ false → list_any p (xs ++ ys) ≡ false → list_any p (xs ++ x ∷ ys) ≡ false
  none_inserted x [] ys other none = either (p x) (list_any p ys) other none
  none_inserted x (z ∷ zs) ys other none =
      let parts = or_parts (p z) (list_any p (zs ++ ys)) none in
      either (p z) (list_any p (zs ++ x ∷ ys)) parts.0 (none_inserted x zs ys other parts.1)

-- ---- lists in which no two are the same

pub differ_dropped : (q : ℕ → Bool) (xs ys : List ℕ) → Differ (xs ++ ys) → Differ (dropped q xs ++ ys)
differ_dropped q [] ys differ = differ
differ_dropped q (x ∷ xs) ys differ =
    elim (q x) as (λ b. Differ (cond b xs (x ∷ dropped q xs) ++ ys)) [
      | true ↦ differ.1
      | false ↦ (none_dropped (λ other. other == x) q xs ys differ.0, differ_dropped q xs ys differ.1)
    ]

pub differ_in_front : (xs ys : List ℕ) → Differ (xs ++ ys) → Differ xs
differ_in_front [] ys differ = tt
differ_in_front (x ∷ xs) ys differ = (none_in_front (λ other. other == x) xs ys differ.0, differ_in_front xs ys differ.1)

pub differ_inserted : (x : ℕ) (xs ys : List ℕ) → Differ (xs ++ ys) → list_any (λ other. other == x) (xs ++ ys) ≡ false → Differ (xs ++ x ∷ ys)
differ_inserted x [] ys differ none = (none, differ)
differ_inserted x (z ∷ zs) ys differ none =
    let parts = or_parts (z == x) (list_any (λ other. other == x) (zs ++ ys)) none in
    let unlike : (x == z) ≡ false = ne_eqb x z (λ same. eqb-false z x parts.0 (sym same)) in
    (none_inserted (λ other. other == z) x zs ys unlike differ.0, differ_inserted x zs ys differ.1 parts.1)

-- the first is the only one
pub only_one : (x : ℕ) (xs : List ℕ) → Differ xs → list_any (λ other. other == x) (dropped (λ other. other == x) xs) ≡ false
only_one x [] differ = refl
only_one x (z ∷ zs) differ =
    elim (cases_Bool (z == x)) [
      | inl passes ↦
          (let same : z ≡ x = eqb-true z x passes in
          ap (λ (b : Bool). list_any (λ other. other == x) (cond b zs (z ∷ dropped (λ other. other == x) zs))) passes
          ∙ ap (λ (k : ℕ). list_any (λ other. other == k) zs) (sym same) ∙ differ.0)
      | inr fails ↦
          (ap (λ (b : Bool). list_any (λ other. other == x) (cond b zs (z ∷ dropped (λ other. other == x) zs))) fails
          ∙ ap (λ (b : Bool). b || list_any (λ other. other == x) (dropped (λ other. other == x) zs)) fails
          ∙ only_one x zs differ.1)
    ]
