-- The header of what has come of a PDU, and what stands behind it, as the header grows by bytes of a piece.
use Rattle.std.proofs.Common.{◌≡◌, ℕ, ◌+◌, ◌-◌, ◌<◌, ◌≤◌, min, List, [], ◌++◌, length, take, drop, sym, ap, ◌∙◌, append_assoc, append-nil, length-append, inl, inr, ◌⊎◌, arith}
use Rattle.std.proofs.lemmas.Bool.{cases_lt}
use Rattle.std.proofs.lemmas.List.{length-take, take-append-drop, take-append-le, take_all, take_at}

-- bytes that grew by so many of a piece, up to what was wanted
pub record Fills (wanted : ℕ) (old new piece : List ℕ) (size : ℕ) : Type 0 where
  pub count : size ≡ min (wanted - length old) (length piece)
  pub added : new ≡ old ++ take size piece

pub within : (wanted : ℕ) (old new piece : List ℕ) (count : ℕ) → Fills wanted old new piece count → count ≤ length piece
within wanted old new piece count fills = omega (arith, fills.count)

pub new_length : (wanted : ℕ) (old new piece : List ℕ) (count : ℕ) → Fills wanted old new piece count → length new ≡ length old + count
new_length wanted old new piece count fills =
    omega (arith, ap length fills.added, length-append old (take count piece), length-take count piece, fills.count)

-- all of the piece is added, where not enough comes
pub far : (wanted : ℕ) (old new piece : List ℕ) (count : ℕ) → Fills wanted old new piece count → length new < wanted → count ≡ length piece
far wanted old new piece count fills short = omega (arith, fills.count, new_length wanted old new piece count fills, short)

-- enough had come before, or no more comes than is wanted
pub stages : (wanted : ℕ) (old new piece : List ℕ) (count : ℕ) → Fills wanted old new piece count
    → ((wanted ≤ length old) × (count ≡ 0) × (new ≡ old)) ⊎ ((length old < wanted) × (length new ≤ wanted))
stages wanted old new piece count fills =
    elim (cases_lt (length old) wanted) [
      | inl short ↦ inr (short, omega (arith, fills.count, new_length wanted old new piece count fills, short))
      | inr long ↦
          (let none : count ≡ 0 = omega (arith, fills.count, long) in
          inl (long, none, fills.added ∙ ap (λ (n : ℕ). old ++ take n piece) none ∙ append-nil old))
    ]

module _ (wanted : ℕ) (header more body piece : List ℕ) (count : ℕ) (fills : Fills wanted header more piece count) (behind : length header < wanted → body ≡ []) where
  -- what has come and what is left are what had come and the piece
  pub rest : (more ++ body) ++ drop count piece ≡ (header ++ body) ++ piece
  rest =
      elim (stages wanted header more piece count fills) [
        | inl same ↦ ap (λ (h : List ℕ). (h ++ body) ++ drop count piece) same.2 ∙ ap (λ (n : ℕ). (header ++ body) ++ drop n piece) same.1
        | inr grown ↦
            (let none : body ≡ [] = behind grown.0 in
            ap (λ (b : List ℕ). (more ++ b) ++ drop count piece) none
            ∙ ap (λ (h : List ℕ). h ++ drop count piece) (append-nil more ∙ fills.added)
            ∙ append_assoc header (take count piece) (drop count piece)
            ∙ ap (λ (p : List ℕ). header ++ p) (take-append-drop count piece)
            ∙ ap (λ (h : List ℕ). h ++ piece) (sym (append-nil header) ∙ ap (λ (b : List ℕ). header ++ b) (sym none)))
      ]

  pub pending_length : length (more ++ body) ≡ length (header ++ body) + count
  pending_length =
      omega (arith, length-append more body, length-append header body, new_length wanted header more piece count fills)

  -- it is the front of both
  pub front : more ++ body ≡ take (length (header ++ body) + count) ((header ++ body) ++ piece)
  front =
      sym (take_at (more ++ body) (drop count piece) (length (header ++ body) + count) pending_length)
      ∙ ap (take (length (header ++ body) + count)) rest

  -- the header is, too, once it is long enough
  pub header_front : (n : ℕ) → n ≤ length more → take n ((header ++ body) ++ piece) ≡ take n more
  header_front n long =
      ap (take n) (sym rest ∙ append_assoc more body (drop count piece)) ∙ take-append-le n more (body ++ drop count piece) long

  -- where it isn't, the piece is used up, and all has come
  pub all : length more < wanted → more ++ body ≡ (header ++ body) ++ piece
  all short =
      let used : count ≡ length piece = far wanted header more piece count fills short in
      front ∙ take_all (length (header ++ body) + count) ((header ++ body) ++ piece) (omega (arith, used, length-append (header ++ body) piece))

  pub all_length : length more < wanted → length ((header ++ body) ++ piece) ≡ length more
  all_length short =
      let before : length header < wanted = omega (arith, short, new_length wanted header more piece count fills) in
      omega (arith, ap length (all short), length-append more body, ap length (behind before))
