-- A page whose fields stand in order is these, with zeros between them and behind.
use Rattle.std.proofs.Common.{◌≡◌, ℕ, ◌+◌, ◌-◌, ◌≤◌, List, [], ◌∷◌, ◌++◌, length, take, drop, replicate, refl, sym, subst, ap, ◌∙◌, arith, append_assoc, length-append}
use Rattle.std.proofs.lemmas.List.{drop-replicate, length-replicate, take-replicate}
use Rattle.std.proofs.Math.Seq.{drop-append-add, take-append-add}
use Rattle.common_definitions.specs.Bytes.{spliced}
use Rattle.tcp_admin.specs.Pages.{Field, laid, page, zeros}
use Rattle.tcp_admin.specs.Laws.{in_order}

-- each field begins behind the end of the one before it, and the last ends within so many bytes
abbrev pub AreApart : ℕ → List Field → ℕ → Type 0
AreApart from [] size = from ≤ size
AreApart from (field ∷ fields) size = (from ≤ field.at) × AreApart (field.at + length field.bytes) fields size

ends : (fields : List Field) (from size : ℕ) → AreApart from fields size → from ≤ size
ends [] from size apart = apart
ends (field ∷ fields) from size apart = omega (arith, apart.0, ends fields (field.at + length field.bytes) size apart.1)

-- the length of what stands there once another field is put behind it
length-next : (front new : List ℕ) (gap : ℕ) → length (front ++ (replicate gap 0 ++ new)) ≡ length front + gap + length new
length-next front new gap =
    omega (arith, length-append front (replicate gap 0 ++ new), length-append (replicate gap 0) new, length-replicate {A = ℕ} gap 0)

-- a field is put into the zeros behind others
spliced_behind : (front new : List ℕ) (gap rest : ℕ)
    → spliced (length front + gap) new (front ++ replicate (gap + length new + rest) 0)
    ≡ (front ++ (replicate gap 0 ++ new)) ++ replicate rest 0
spliced_behind front new gap rest =
    let room : List ℕ = replicate (gap + length new + rest) 0 in
    let before : take (length front + gap) (front ++ room) ≡ front ++ replicate gap 0 =
    take-append-add front room gap
    ∙ ap (λ (part : List ℕ). front ++ part) (take-replicate {X = ℕ} gap (gap + length new + rest) 0 (omega arith)) in
    let place : length front + gap + length new ≡ length front + (gap + length new) = omega arith in
    let left : gap + length new + rest - (gap + length new) ≡ rest = omega arith in
    let after : drop (length front + gap + length new) (front ++ room) ≡ replicate rest 0 =
    ap (λ (n : ℕ). drop n (front ++ room)) place ∙ drop-append-add front room (gap + length new)
    ∙ drop-replicate {X = ℕ} (gap + length new) (gap + length new + rest) 0 ∙ ap (λ (n : ℕ). replicate n 0) left in
    ap (λ (part : List ℕ). part ++ (new ++ drop (length front + gap + length new) (front ++ room))) before
    ∙ ap (λ (part : List ℕ). (front ++ replicate gap 0) ++ (new ++ part)) after
    ∙ sym (append_assoc (front ++ replicate gap 0) new (replicate rest 0))
    ∙ ap (λ (part : List ℕ). part ++ replicate rest 0) (append_assoc front (replicate gap 0) new)

-- the same for places that are told by numbers
put_behind : (front new : List ℕ) (at size : ℕ) → length front ≤ at → at + length new ≤ size
    → spliced at new (front ++ replicate (size - length front) 0)
    ≡ (front ++ (replicate (at - length front) 0 ++ new)) ++ replicate (size - (at + length new)) 0
put_behind front new at size behind within =
    let place : at ≡ length front + (at - length front) = omega (arith, behind) in
    let room : size - length front ≡ (at - length front) + length new + (size - (at + length new)) = omega (arith, behind, within) in
    ap (λ (n : ℕ). spliced n new (front ++ replicate (size - length front) 0)) place
    ∙ ap (λ (n : ℕ). spliced (length front + (at - length front)) new (front ++ replicate n 0)) room
    ∙ spliced_behind front new (at - length front) (size - (at + length new))

laid_behind : (fields : List Field) (front : List ℕ) (size : ℕ) → AreApart (length front) fields size
    → laid fields (front ++ replicate (size - length front) 0) ≡ front ++ in_order (length front) fields size
laid_behind [] front size apart = refl
laid_behind (field ∷ fields) front size apart =
    let gap : List ℕ = replicate (field.at - length front) 0 in
    let end : ℕ = field.at + length field.bytes in
    let within : field.at + length field.bytes ≤ size = ends fields (field.at + length field.bytes) size apart.1 in
    let next : List ℕ = front ++ (gap ++ field.bytes) in
    let same : length next ≡ end = omega (arith, length-next front field.bytes (field.at - length front), apart.0) in
    ap (laid fields)
    (put_behind front field.bytes field.at size apart.0 within ∙ ap (λ (n : ℕ). next ++ replicate (size - n) 0) (sym same))
    ∙ laid_behind fields next size (subst (λ (n : ℕ). AreApart n fields size) (sym same) apart.1)
    ∙ ap (λ (n : ℕ). next ++ in_order n fields size) same
    ∙ append_assoc front (gap ++ field.bytes) (in_order end fields size)
    ∙ ap (λ (part : List ℕ). front ++ part) (append_assoc gap field.bytes (in_order end fields size))

pub page_in_order : (size : ℕ) (fields : List Field) → AreApart 0 fields size → page size fields ≡ in_order 0 fields size
unfolding zeros
page_in_order size fields apart =
    let all : size ≡ size - 0 = omega arith in
    ap (λ (n : ℕ). laid fields (replicate n 0)) all ∙ laid_behind fields [] size apart

length-in_order : (fields : List Field) (from size : ℕ) → AreApart from fields size → from + length (in_order from fields size) ≡ size
length-in_order [] from size apart = omega (arith, length-replicate {A = ℕ} (size - from) 0, apart)
length-in_order (field ∷ fields) from size apart =
    let gap : List ℕ = replicate (field.at - from) 0 in
    let rest : List ℕ = in_order (field.at + length field.bytes) fields size in
    omega (
      arith,
      length-append gap (field.bytes ++ rest),
      length-append field.bytes rest,
      length-replicate {A = ℕ} (field.at - from) 0,
      apart.0,
      length-in_order fields (field.at + length field.bytes) size apart.1,
    )

pub whole : (size : ℕ) (fields : List Field) → AreApart 0 fields size → length (page size fields) ≡ size
whole size fields apart =
    ap length (page_in_order size fields apart) ∙ omega (arith, length-in_order fields 0 size apart)
