-- What sections stand for.
use Rattle.std.proofs.Common.{◌≡◌, ◌<◌, ◌≤◌, ◌+◌, ◌^◌, ℕ, suc, List, [], ◌∷◌, ◌++◌, length, take, get_or, refl, sym, ◌∙◌, ap, subst, arith, append_assoc, length-append}
use Rattle.std.specs.Prelude.{Vec}
use Rattle.std.specs.declared.alloc.Global.{Global}
use Rattle.std.proofs.Math.Seq.{take-suc}
use Rattle.std.proofs.lemmas.List.{map-append, append-nil}
use Rattle.durable_machine.specs.Events.{AreSized, BeginsEvent, BeginsNoEvent, spelled}
use Rattle.durable_machine.proofs.Spelling.{begins_spelled, one_reading, sized-append, spelled-append}
use Rattle.durable_machine.specs.Batches.{bytes_of}
use Rattle.image_base.specs.Base.{BeginNoSections, BeginSections}

-- bytes stand for one list of so many events
pub same_events : (es fs : List (List ℕ)) (x y : List ℕ) → AreSized es → AreSized fs → length es ≡ length fs → spelled es ++ x ≡ spelled fs ++ y → (es ≡ fs) × (x ≡ y)
same_events [] [] x y ha hb as_many is = (refl, is)
same_events [] (b ∷ fs) x y ha hb as_many is = absurd (omega (arith, as_many))
same_events (a ∷ es) [] x y ha hb as_many is = absurd (omega (arith, as_many))
same_events (a ∷ es) (b ∷ fs) x y ha hb as_many is =
    let read = one_reading a b (spelled es ++ x) (spelled fs ++ y) ha.0 hb.0 (sym (begins_spelled a es x) ∙ is ∙ begins_spelled b fs y) in
    let rest = same_events es fs x y ha.1 hb.1 (omega (arith, as_many)) read.1 in
    let both : a ∷ es ≡ b ∷ fs = cc (read.0, rest.0) in
    (both, rest.1)

-- where no event follows those that were read, there aren't more
pub no_more : (es fs : List (List ℕ)) (x y : List ℕ) → AreSized es → AreSized fs → length es < length fs → BeginsNoEvent x → spelled es ++ x ≡ spelled fs ++ y → ⊥
no_more [] [] x y ha hb less none is = omega (arith, less)
no_more [] (b ∷ fs) x y ha hb less none is = none b (spelled fs ++ y) (record { sized = hb.0; parts = is ∙ begins_spelled b fs y })
no_more (a ∷ es) [] x y ha hb less none is = omega (arith, less)
no_more (a ∷ es) (b ∷ fs) x y ha hb less none is =
    let read = one_reading a b (spelled es ++ x) (spelled fs ++ y) ha.0 hb.0 (sym (begins_spelled a es x) ∙ is ∙ begins_spelled b fs y) in
    no_more es fs x y ha.1 hb.1 (omega (arith, less)) none read.1

-- there are as many of them as vectors
pub as_many : (l : List (Vec ℕ Global)) → length (bytes_of l) ≡ length l
as_many [] = refl
as_many (v ∷ vs) = omega (arith, as_many vs)

-- ---- reading

-- these sections are read from the front of bytes, and this rest stands behind them
pub record AreRead (sections : List (List ℕ)) (rest bytes : List ℕ) : Type 0 where
  pub most : length sections ≤ 16
  pub sized : AreSized sections
  pub parts : bytes ≡ spelled sections ++ rest

pub none_read : (sections : List (Vec ℕ Global)) (bytes : List ℕ) → sections ≡ [] → AreRead (bytes_of sections) bytes bytes
none_read sections bytes none =
    subst (λ (l : List (Vec ℕ Global)). AreRead (bytes_of l) bytes bytes) (sym none) (record { most = omega arith; sized = tt; parts = refl })

-- one more
pub one_more : (sections more : List (Vec ℕ Global)) (v : Vec ℕ Global) (section behind rest bytes : List ℕ) → AreRead (bytes_of sections) rest bytes
    → length sections < 16 → BeginsEvent section behind rest → v.items ≡ section → more ≡ sections ++ v ∷ [] → AreRead (bytes_of more) behind bytes
one_more sections more v section behind rest bytes read less begins is pushed =
    let were = bytes_of sections in
    let now : bytes_of more ≡ were ++ section ∷ [] =
    ap bytes_of pushed ∙ map-append (λ (event : Vec ℕ Global). event.items) sections (v ∷ []) ∙ ap (λ (l : List ℕ). were ++ l ∷ []) is in
    let number : length were ≡ length sections = as_many sections in
    subst (λ (l : List (List ℕ)). AreRead l behind bytes) (sym now) (record {
      most = omega (arith, length-append were (section ∷ []), number, less);
      sized = sized-append were (section ∷ []) read.sized (begins.sized, tt);
      parts = read.parts
          ∙ ap (λ (l : List ℕ). spelled were ++ l) (begins.parts ∙ sym (begins_spelled section [] behind))
          ∙ sym (append_assoc (spelled were) (spelled (section ∷ [])) behind)
          ∙ ap (λ (l : List ℕ). l ++ behind) (sym (spelled-append were (section ∷ [])));
    })

-- all of them
pub all_read : (sections : List (List ℕ)) (rest bytes : List ℕ) (number behind : ℕ) → AreRead sections rest bytes → number ≡ length sections → 16 ≤ number
    → behind ≡ length rest → BeginSections sections behind bytes
all_read sections rest bytes number behind read is all counted = record {
  are = record { number = omega (arith, read.most, is, all); sized = read.sized };
  rest = rest;
  parts = read.parts;
  counted = counted;
}

-- no event follows, and they aren't all
pub not_all_read : (sections : List (List ℕ)) (rest bytes : List ℕ) → AreRead sections rest bytes → length sections < 16 → BeginsNoEvent rest → BeginNoSections bytes
not_all_read sections rest bytes read less none others behind are parts =
    no_more sections others rest behind read.sized are.sized (omega (arith, are.number, less)) none (sym read.parts ∙ parts)

-- ---- writing

-- the first of the sections are added
pub record AreAdded (sections : List (Vec ℕ Global)) (n : ℕ) (old new : List ℕ) : Type 0 where
  pub bytes : new ≡ old ++ spelled (bytes_of (take n sections))
  pub sized : AreSized (bytes_of (take n sections))

pub none_added : (sections : List (Vec ℕ Global)) (base : List ℕ) → AreAdded sections 0 base base
none_added sections base = record { bytes = sym (append-nil base); sized = tt }

-- one more
pub one_added : (sections : List (Vec ℕ Global)) (n : ℕ) (v d : Vec ℕ Global) (section old base new : List ℕ) → AreAdded sections n old base → n < length sections
    → v ≡ get_or sections n d → section ≡ v.items → new ≡ base ++ spelled (section ∷ []) → length section < 2 ^ 64 → AreAdded sections (n + 1) old new
one_added sections n v d section old base new added within at is written sized =
    let front = bytes_of (take n sections) in
    let v_at : get_or sections n d ∷ [] ≡ v ∷ [] = ap (λ (x : Vec ℕ Global). x ∷ []) (sym at) in
    let next : n + 1 ≡ suc n = omega arith in
    let now : bytes_of (take (n + 1) sections) ≡ front ++ section ∷ [] =
    ap (λ (k : ℕ). bytes_of (take k sections)) next
    ∙ ap bytes_of (take-suc sections n d within ∙ ap (λ (l : List (Vec ℕ Global)). take n sections ++ l) v_at)
    ∙ map-append (λ (event : Vec ℕ Global). event.items) (take n sections) (v ∷ [])
    ∙ ap (λ (l : List ℕ). front ++ l ∷ []) (sym is) in
    record {
      bytes = written
          ∙ ap (λ (l : List ℕ). l ++ spelled (section ∷ [])) added.bytes
          ∙ append_assoc old (spelled front) (spelled (section ∷ []))
          ∙ ap (λ (l : List ℕ). old ++ l) (sym (spelled-append front (section ∷ [])) ∙ ap spelled (sym now));
      sized = subst AreSized (sym now) (sized-append front (section ∷ []) added.sized (sized, tt));
    }
