-- How many bytes a base takes, by the first bytes of a file.
use Rattle.std.proofs.Common.{◌≡◌, ◌≢◌, ◌⊎◌, inl, inr, ⊎_elim, ◌<◌, ◌≤◌, ◌+◌, ◌-◌, ◌^◌, ℕ, min, List, [], ◌∷◌, ◌++◌, length, drop, get_or, sym, subst, ◌∙◌, ap, arith, append_assoc, length-append, length-drop}
use Rattle.std.proofs.lemmas.List.{drop-append-le, drop-drop, drop_at, get_or_append_left}
use Rattle.durable_machine.specs.Bases.{NeedsBytes}
use Rattle.durable_machine.specs.Events.{number_bytes, spelled}
use Rattle.durable_machine.proofs.Numbers.{length-number_bytes}
use Rattle.durable_machine.proofs.Spelling.{begins_spelled}
use Rattle.image_base.specs.Base.{IsBaseOf, IsLabel, Told, label_of, magic, our_label, this_device}
use Rattle.image_base.specs.Needed.{NeedsEvent, NeedsEvents, TakesEvent}
use Rattle.image_base.proofs.Labels.{ours, same_numbers}

-- how many bytes events take
pub length-spelled : (e : List ℕ) (es : List (List ℕ)) → length (spelled (e ∷ es)) ≡ 9 + length e + length (spelled es)
length-spelled e es =
    omega (arith, length-append (number_bytes (length e) ++ e) (spelled es), length-append (number_bytes (length e)) e, length-number_bytes (length e))

-- ---- one event

-- of which too few bytes are there to tell its length
pub needs_head : (front : List ℕ) → length front < 9 → NeedsEvent 9 front
needs_head front few event rest more fits is = record { least = omega arith; whole = λ all. absurd (omega (arith, all, few)) }

-- of which they tell it
pub needs_told : (tag number n : ℕ) (front behind after : List ℕ) → number < 2 ^ 64 → front ≡ tag ∷ behind → behind ≡ number_bytes number ++ after
    → length front < 2 ^ 64 - 1 → n ≡ min (9 + number) (2 ^ 64 - 1) → NeedsEvent n front
needs_told tag number n front behind after number_fits first parts short is_n event rest more fits is =
    let told : number_bytes number ++ (after ++ more) ≡ number_bytes (length event) ++ (event ++ rest) =
    sym (append_assoc (number_bytes number) after more)
    ∙ ap (λ (l : List ℕ). l ++ more) (sym parts)
    ∙ ap (λ (l : List ℕ). drop 1 (l ++ more)) (sym first)
    ∙ ap (λ (l : List ℕ). drop 1 l) is
    ∙ append_assoc (number_bytes (length event)) event rest in
    let same : number ≡ length event = (same_numbers number (length event) _ _ number_fits fits told).0 in
    record { least = omega (arith, is_n, same); whole = λ all. omega (arith, is_n, same, all, short) }

-- ---- several

-- none takes no bytes
pub needs_none : (front : List ℕ) → NeedsEvents 0 0 front
needs_none front [] rest more count sized is = inl (omega arith)
needs_none front (e ∷ es) rest more count sized is = absurd (omega (arith, count))

-- what is after the first of them
after_first : (k : ℕ) (front e : List ℕ) (es : List (List ℕ)) (rest more : List ℕ) → k ≤ length front → k ≡ 9 + length e → front ++ more ≡ spelled (e ∷ es) ++ rest
    → drop k front ++ more ≡ spelled es ++ rest
after_first k front e es rest more within is_k is =
    let head = 1 ∷ number_bytes (length e) ++ e in
    let size : length head ≡ k = omega (arith, is_k, length-append (number_bytes (length e)) e, length-number_bytes (length e)) in
    sym (drop-append-le k front more within)
    ∙ ap (λ (l : List ℕ). drop k l) (is ∙ begins_spelled e es rest)
    ∙ drop_at head (spelled es ++ rest) k size

-- the first of them is there
pub needs_further : (count k m : ℕ) (front : List ℕ) → NeedsEvent k front → k ≤ length front → NeedsEvents count m (drop k front) → NeedsEvents (count + 1) (k + m) front
needs_further count k m front needs within further [] rest more number sized is = absurd (omega (arith, number))
needs_further count k m front needs within further (e ∷ es) rest more number sized is =
    let takes : TakesEvent k e front = needs e (spelled es ++ rest) more sized.0 (is ∙ begins_spelled e es rest) in
    let whole : k ≡ 9 + length e = takes.whole within in
    let size = length-spelled e es in
    let left : length (drop k front) ≡ length front - k = length-drop k front in
    ⊎_elim (λ (there : length (spelled es) ≤ length (drop k front)). inl (omega (arith, there, left, size, whole, within)))
    (λ (past : (length (drop k front) < m) × (m ≤ length (spelled es))). inr (omega (arith, past.0, left, within), omega (arith, past.1, size, whole)))
    (further es rest more (omega (arith, number)) sized.1 (after_first k front e es rest more within whole is))

-- it goes past these bytes
pub needs_past : (count k : ℕ) (front : List ℕ) → NeedsEvent k front → length front < k → NeedsEvents (count + 1) k front
needs_past count k front needs past [] rest more number sized is = absurd (omega (arith, number))
needs_past count k front needs past (e ∷ es) rest more number sized is =
    let takes : TakesEvent k e front = needs e (spelled es ++ rest) more sized.0 (is ∙ begins_spelled e es rest) in
    inr (past, omega (arith, takes.least, length-spelled e es))

-- so much of the bytes are the first of the events
pub record IsPast (count done at : ℕ) (bytes : List ℕ) : Type 0 where
  pub within : at ≤ length bytes
  pub so : (m : ℕ) → NeedsEvents (count - done) m (drop at bytes) → NeedsEvents count (at + m) bytes

pub past_none : (count : ℕ) (bytes : List ℕ) → IsPast count 0 0 bytes
past_none count bytes = record {
  within = omega arith;
  so = λ m needs.
      subst (λ (n : ℕ). NeedsEvents count n bytes) (omega arith) (subst (λ (c : ℕ). NeedsEvents c m bytes) (omega arith) needs);
}

pub past_one : (count done at k : ℕ) (bytes : List ℕ) → IsPast count done at bytes → done < count → NeedsEvent k (drop at bytes) → k ≤ length bytes - at
    → IsPast count (done + 1) (at + k) bytes
past_one count done at k bytes past less needs within =
    let left : length (drop at bytes) ≡ length bytes - at = length-drop at bytes in
    let number : count - (done + 1) + 1 ≡ count - done = omega (arith, less) in
    record {
      within = omega (arith, past.within, within);
      so = λ m further.
          subst (λ (n : ℕ). NeedsEvents count n bytes) (omega arith)
          (past.so (k + m) (subst (λ (c : ℕ). NeedsEvents c (k + m) (drop at bytes)) number
          (needs_further (count - (done + 1)) k m (drop at bytes) needs (omega (arith, left, within))
          (subst (λ (l : List ℕ). NeedsEvents (count - (done + 1)) m l) (sym (drop-drop k at bytes)) further))));
    }

pub past_all : (count at : ℕ) (bytes : List ℕ) → IsPast count count at bytes → NeedsEvents count at bytes
past_all count at bytes past =
    subst (λ (n : ℕ). NeedsEvents count n bytes) (omega arith)
    (past.so 0 (subst (λ (c : ℕ). NeedsEvents c 0 (drop at bytes)) (omega arith) (needs_none (drop at bytes))))

-- fewer bytes are needed, too
fewer : (count n k : ℕ) (bytes : List ℕ) → NeedsEvents count n bytes → length bytes < k → k ≤ n → NeedsEvents count k bytes
fewer count n k bytes needs more less events rest behind number sized is =
    ⊎_elim (λ (there : length (spelled events) ≤ length bytes). inl there)
    (λ (past : (length bytes < n) × (n ≤ length (spelled events))). inr (more, omega (arith, less, past.1))) (needs events rest behind number sized is)

pub past_end : (count done at k n : ℕ) (bytes : List ℕ) → IsPast count done at bytes → done < count → NeedsEvent k (drop at bytes) → length bytes - at < k
    → length bytes < 2 ^ 64 - 1 → n ≡ min (at + k) (2 ^ 64 - 1) → NeedsEvents count n bytes
past_end count done at k n bytes past less needs over short is_n =
    let left : length (drop at bytes) ≡ length bytes - at = length-drop at bytes in
    let number : count - (done + 1) + 1 ≡ count - done = omega (arith, less) in
    fewer count (at + k) n bytes
    (past.so k (subst (λ (c : ℕ). NeedsEvents c k (drop at bytes)) number (needs_past (count - (done + 1)) k (drop at bytes) needs (omega (arith, left, over)))))
    (omega (arith, is_n, over, short, past.within)) (omega (arith, is_n))

-- ---- a base

length-ours : length our_label ≡ 17
length-ours =
    ap length ours
    ∙ omega (arith, length-append (number_bytes 1) (number_bytes 2), length-number_bytes 1, length-number_bytes 2)

module _ (front base rest more : List ℕ) (told : Told) (loads : IsBaseOf base told) (is : front ++ more ≡ base ++ rest) where
  abbrev events : List (List ℕ)
  events = loads.text ∷ told.sections

  whole : front ++ more ≡ magic ++ (loads.label ++ (spelled events ++ rest))
  whole =
      is ∙ ap (λ (l : List ℕ). l ++ rest) loads.parts ∙ append_assoc magic (loads.label ++ spelled events) rest
      ∙ ap (λ (l : List ℕ). magic ++ l) (append_assoc loads.label (spelled events) rest)

  size : length base ≡ 8 + length loads.label + length (spelled events)
  size = omega (arith, ap length loads.parts, length-append magic (loads.label ++ spelled events), length-append loads.label (spelled events))

  -- a base has more bytes than a front
  long : 25 ≤ length base
  long = omega (arith, size, length-spelled loads.text told.sections, some told.sections loads.sections.number)
    where
      some : (sections : List (List ℕ)) → length sections ≡ 16 → 9 ≤ length (spelled sections)
      some [] none = absurd (omega (arith, none))
      some (s ∷ ss) number = omega (arith, length-spelled s ss)

  -- what is needed after its label
  after : (k m : ℕ) → k ≡ 8 + length loads.label → k ≤ length front → NeedsEvents 17 m (drop k front)
      → (length base ≤ length front) ⊎ ((length front < k + m) × (k + m ≤ length base))
  after k m is_k within needs =
      let head = magic ++ loads.label in
      let length_is : length head ≡ k = omega (arith, is_k, length-append magic loads.label) in
      let tail : drop k front ++ more ≡ spelled events ++ rest =
      sym (drop-append-le k front more within) ∙ ap (λ (l : List ℕ). drop k l) (whole ∙ sym (append_assoc magic loads.label (spelled events ++ rest)))
      ∙ drop_at head (spelled events ++ rest) k length_is in
      let left : length (drop k front) ≡ length front - k = length-drop k front in
      ⊎_elim (λ (there : length (spelled events) ≤ length (drop k front)). inl (omega (arith, there, left, size, is_k, within)))
      (λ (past : (length (drop k front) < m) × (m ≤ length (spelled events))). inr (omega (arith, past.0, left, within), omega (arith, past.1, size, is_k)))
      (needs events rest more (omega (arith, loads.sections.number)) (loads.sized, loads.sections.sized) tail)

  at_8 : (d : ℕ) → 25 ≤ length front → get_or front 8 d ≡ get_or (magic ++ (loads.label ++ (spelled events ++ rest))) 8 d
  at_8 d within = sym (get_or_append_left front more d 8 (omega (arith, within))) ∙ ap (λ (l : List ℕ). get_or l 8 d) whole

  -- the byte after the magic is a label's or an event's
  tag : (d : ℕ) → 25 ≤ length front → IsLabel loads.label → ((get_or front 8 d ≡ 2) × (length loads.label ≡ 17)) ⊎ ((get_or front 8 d ≡ 1) × (length loads.label ≡ 0))
  tag d within (inl made) =
      let label : loads.label ≡ label_of this_device = made ∙ ours in
      inl (at_8 d within ∙ ap (λ (l : List ℕ). get_or (magic ++ (l ++ (spelled events ++ rest))) 8 d) label, ap length made ∙ length-ours)
  tag d within (inr bare) = inr (at_8 d within ∙ ap (λ (l : List ℕ). get_or (magic ++ (l ++ (spelled events ++ rest))) 8 d) bare, ap length bare)

-- ---- a base

-- of which too few bytes are there to tell whether it has a label
pub needs_front : (front : List ℕ) → length front < 25 → NeedsBytes IsBaseOf 25 front
needs_front front few base rest more told loads is = inr (few, long front base rest more told loads is)

-- which has one, or none
module _ (front : List ℕ) (d m n : ℕ) (within : 25 ≤ length front) (short : length front < 2 ^ 64 - 1) where
  as_few : (k size : ℕ) → n ≡ min (k + m) (2 ^ 64 - 1) → (size ≤ length front) ⊎ ((length front < k + m) × (k + m ≤ size)) → (size ≤ length front) ⊎ ((length front < n) × (n ≤ size))
  as_few k size is_n (inl there) = inl there
  as_few k size is_n (inr past) = inr (omega (arith, is_n, past.0, short), omega (arith, is_n, past.1))

  pub needs_labelled : get_or front 8 d ≡ 2 → NeedsEvents 17 m (drop 25 front) → n ≡ min (25 + m) (2 ^ 64 - 1) → NeedsBytes IsBaseOf n front
  needs_labelled two needs is_n base rest more told loads is =
      ⊎_elim (λ (made : (get_or front 8 d ≡ 2) × (length loads.label ≡ 17)).
      as_few 25 (length base) is_n (after front base rest more told loads is 25 m (omega (arith, made.1)) within needs))
      (λ (bare : (get_or front 8 d ≡ 1) × (length loads.label ≡ 0)). absurd (omega (arith, two, bare.0))) (tag front base rest more told loads is d within loads.ours)

  pub needs_bare : get_or front 8 d ≢ 2 → NeedsEvents 17 m (drop 8 front) → n ≡ min (8 + m) (2 ^ 64 - 1) → NeedsBytes IsBaseOf n front
  needs_bare other needs is_n base rest more told loads is =
      ⊎_elim (λ (made : (get_or front 8 d ≡ 2) × (length loads.label ≡ 17)). absurd (other made.0))
      (λ (bare : (get_or front 8 d ≡ 1) × (length loads.label ≡ 0)).
      as_few 8 (length base) is_n (after front base rest more told loads is 8 m (omega (arith, bare.1)) (omega (arith, within)) needs))
      (tag front base rest more told loads is d within loads.ours)
