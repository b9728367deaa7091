-- Labels, and what is after them.
use Rattle.std.proofs.Common.{◌≡◌, ◌≢◌, inl, inr, ◌<◌, ◌^◌, ℕ, List, [], ◌∷◌, ◌++◌, get_or, length, take, drop, refl, sym, subst, ◌∙◌, ap, arith, append_assoc, length-append, length-take}
use Rattle.std.proofs.lemmas.Bool.{cases_lt}
use Rattle.std.proofs.lemmas.List.{take_at, drop_at, get_or-take, get_or_past}
use Rattle.durable_machine.specs.Events.{number_bytes}
use Rattle.durable_machine.proofs.Numbers.{length-number_bytes, number_bytes_injective}
use Rattle.image_base.specs.Base.{BeginsNoLabel, IsAfterLabel, IsLabel, IsMadeByNoOther, IsMadeByOther, label_of, magic, our_label, this_device}
use Rattle.image_base.specs.declared.front.Maker.{Maker}

pub ours : our_label ≡ label_of this_device
unfolding our_label
ours = refl

pub differs : (x y : ℕ) (l m : List ℕ) → x ∷ l ≡ y ∷ m → x ≡ y
differs x y l m is = cc

-- ---- what is after one

-- what is after the magic is one text
pub same_after : (xs ys : List ℕ) → magic ++ xs ≡ magic ++ ys → xs ≡ ys
same_after xs ys same = ap (λ (l : List ℕ). drop 8 l) same

-- and after this device's label, too
after_ours : (xs ys : List ℕ) → our_label ++ xs ≡ our_label ++ ys → xs ≡ ys
after_ours xs ys is =
    sym (drop_at our_label xs (length our_label) refl) ∙ ap (λ (l : List ℕ). drop (length our_label) l) is ∙ drop_at our_label ys (length our_label) refl

-- what begins as an event begins with no label
pub event_no_label : (xs : List ℕ) → BeginsNoLabel (1 ∷ xs)
event_no_label xs maker rest is = absurd (omega (arith, differs 1 2 xs ((number_bytes maker.version ++ number_bytes maker.profile) ++ rest) is))

ours_no_event : (xs ys : List ℕ) → our_label ++ xs ≡ 1 ∷ ys → ⊥
ours_no_event xs ys is = event_no_label ys this_device xs (sym is ∙ ap (λ (l : List ℕ). l ++ xs) ours)

-- two labels before an event are one
pub same_labels : (a b xs ys : List ℕ) → IsLabel a → IsLabel b → a ++ 1 ∷ xs ≡ b ++ 1 ∷ ys → (a ≡ b) × (1 ∷ xs ≡ 1 ∷ ys)
same_labels a b xs ys (inl la) (inl lb) is =
    (la ∙ sym lb, after_ours (1 ∷ xs) (1 ∷ ys) (ap (λ (l : List ℕ). l ++ 1 ∷ xs) (sym la) ∙ is ∙ ap (λ (l : List ℕ). l ++ 1 ∷ ys) lb))
same_labels a b xs ys (inr na) (inr nb) is =
    (na ∙ sym nb, ap (λ (l : List ℕ). l ++ 1 ∷ xs) (sym na) ∙ is ∙ ap (λ (l : List ℕ). l ++ 1 ∷ ys) nb)
same_labels a b xs ys (inl la) (inr nb) is =
    absurd (ours_no_event (1 ∷ xs) ys (ap (λ (l : List ℕ). l ++ 1 ∷ xs) (sym la) ∙ is ∙ ap (λ (l : List ℕ). l ++ 1 ∷ ys) nb))
same_labels a b xs ys (inr na) (inl lb) is =
    absurd (ours_no_event (1 ∷ ys) xs (ap (λ (l : List ℕ). l ++ 1 ∷ ys) (sym lb) ∙ sym is ∙ ap (λ (l : List ℕ). l ++ 1 ∷ xs) na))

-- what is read after a label is what a base has there
pub read_after : (file after label xs : List ℕ) → IsAfterLabel file after → IsLabel label → file ≡ magic ++ (label ++ 1 ∷ xs) → after ≡ 1 ∷ xs
read_after file after label xs (inl is) (inl made) parts =
    after_ours after (1 ∷ xs) (same_after _ _ (sym is ∙ parts) ∙ ap (λ (l : List ℕ). l ++ 1 ∷ xs) made)
read_after file after label xs (inl is) (inr none) parts =
    absurd (ours_no_event after xs (same_after _ _ (sym is ∙ parts) ∙ ap (λ (l : List ℕ). l ++ 1 ∷ xs) none))
read_after file after label xs (inr is) (inl made) parts =
    absurd (is.1 this_device (1 ∷ xs) (same_after _ _ (sym is.0 ∙ parts) ∙ ap (λ (l : List ℕ). l ++ 1 ∷ xs) (made ∙ ours)))
read_after file after label xs (inr is) (inr none) parts = same_after _ _ (sym is.0 ∙ parts) ∙ ap (λ (l : List ℕ). l ++ 1 ∷ xs) none

-- ---- who it names

pub same_numbers : (m n : ℕ) (xs ys : List ℕ) → m < 2 ^ 64 → n < 2 ^ 64 → number_bytes m ++ xs ≡ number_bytes n ++ ys → (m ≡ n) × (xs ≡ ys)
same_numbers m n xs ys m_fits n_fits is = (
  number_bytes_injective m n m_fits n_fits
      (sym (take_at (number_bytes m) xs 8 (length-number_bytes m)) ∙ ap (λ (l : List ℕ). take 8 l) is ∙ take_at (number_bytes n) ys 8 (length-number_bytes n)),
  sym (drop_at (number_bytes m) xs 8 (length-number_bytes m)) ∙ ap (λ (l : List ℕ). drop 8 l) is ∙ drop_at (number_bytes n) ys 8 (length-number_bytes n),
)

-- a label names one maker
same_maker : (a b : Maker) (xs ys : List ℕ) → a.version < 2 ^ 64 → a.profile < 2 ^ 64 → b.version < 2 ^ 64 → b.profile < 2 ^ 64
    → label_of a ++ xs ≡ label_of b ++ ys → a ≡ b
same_maker a b xs ys a_version a_profile b_version b_profile is =
    let numbers : number_bytes a.version ++ (number_bytes a.profile ++ xs) ≡ number_bytes b.version ++ (number_bytes b.profile ++ ys) =
    sym (append_assoc (number_bytes a.version) (number_bytes a.profile) xs) ∙ ap (λ (l : List ℕ). drop 1 l) is
    ∙ append_assoc (number_bytes b.version) (number_bytes b.profile) ys in
    let versions = same_numbers a.version b.version _ _ a_version b_version numbers in
    let profiles = same_numbers a.profile b.profile xs ys a_profile b_profile versions.1 in
    ap (λ (version : ℕ). record { version = version; profile = a.profile }) versions.0
    ∙ ap (λ (profile : ℕ). record { version = b.version; profile = profile }) profiles.0

-- this device's names no other
ours_only : (maker : Maker) (xs ys : List ℕ) → maker.version < 2 ^ 64 → maker.profile < 2 ^ 64 → label_of maker ++ xs ≡ our_label ++ ys
    → maker ≡ this_device
ours_only maker xs ys version_fits profile_fits is =
    same_maker maker this_device xs ys version_fits profile_fits (omega arith) (omega arith) (is ∙ ap (λ (l : List ℕ). l ++ ys) ours)

-- ---- reading one

-- the bytes at the front of bytes are bytes
pub front_fits : (bytes digits : List ℕ) → digits ≡ take 8 bytes → ((k : ℕ) → get_or bytes k 0 < 256) → (k : ℕ) → get_or digits k 0 < 256
front_fits bytes digits is fit k = elim (cases_lt k 8) [
  | inl early ↦ subst (λ (n : ℕ). n < 256) (sym (ap (λ (l : List ℕ). get_or l k 0) is ∙ get_or-take 8 bytes k 0 early)) (fit k)
  | inr late ↦ subst (λ (n : ℕ). n < 256) (sym (get_or_past digits k 0 (omega (arith, ap length is, length-take 8 bytes, late)))) (omega arith)
]

-- there is none in no bytes, after another first byte, or in too few bytes
pub no_bytes : (bytes : List ℕ) → length bytes ≡ 0 → BeginsNoLabel bytes
no_bytes bytes none maker rest is = absurd (omega (arith, none, ap length is))

pub other_tag : (bytes numbers : List ℕ) (tag : ℕ) → bytes ≡ tag ∷ numbers → tag ≢ 2 → BeginsNoLabel bytes
other_tag bytes numbers tag parts other maker rest is =
    other (differs tag 2 numbers ((number_bytes maker.version ++ number_bytes maker.profile) ++ rest) (sym parts ∙ is))

pub too_short : (bytes numbers : List ℕ) (tag : ℕ) → bytes ≡ tag ∷ numbers → length numbers < 16 → BeginsNoLabel bytes
too_short bytes numbers tag parts short maker rest is =
    let numbers_are : numbers ≡ (number_bytes maker.version ++ number_bytes maker.profile) ++ rest = ap (λ (l : List ℕ). drop 1 l) (sym parts ∙ is) in
    absurd (omega (
      arith,
      short,
      ap length numbers_are,
      length-append (number_bytes maker.version ++ number_bytes maker.profile) rest,
      length-append (number_bytes maker.version) (number_bytes maker.profile),
      length-number_bytes maker.version,
      length-number_bytes maker.profile,
    ))

pub shorter : (numbers : List ℕ) → length numbers < 8 → length numbers < 16
shorter numbers short = omega (arith, short)

pub short_by : (version : ℕ) (numbers more : List ℕ) → numbers ≡ number_bytes version ++ more → length more < 8 → length numbers < 16
short_by version numbers more parts short =
    omega (arith, short, ap length parts, length-append (number_bytes version) more, length-number_bytes version)

-- what was read is a label
pub is_label : (maker : Maker) (bytes numbers more rest : List ℕ) (tag : ℕ) → bytes ≡ tag ∷ numbers → tag ≡ 2 → numbers ≡ number_bytes maker.version ++ more
    → more ≡ number_bytes maker.profile ++ rest → bytes ≡ label_of maker ++ rest
is_label maker bytes numbers more rest tag parts is_tag version profile =
    parts
    ∙ ap (λ (first : ℕ). first ∷ numbers) is_tag
    ∙ ap (λ (l : List ℕ). 2 ∷ l) (version ∙ ap (λ (l : List ℕ). number_bytes maker.version ++ l) profile
    ∙ sym (append_assoc (number_bytes maker.version) (number_bytes maker.profile) rest))

-- ---- the front of a file

-- without the magic nothing is after a label
pub without_magic : (file : List ℕ) → ((after : List ℕ) → file ≡ magic ++ after → ⊥) → (after : List ℕ) → IsAfterLabel file after → ⊥
without_magic file none after (inl is) = none (our_label ++ after) is
without_magic file none after (inr is) = none after is.0

-- a label after the magic
module _ (file after rest : List ℕ) (maker : Maker) (is : file ≡ magic ++ after) (at : after ≡ label_of maker ++ rest) where
  -- this device's
  pub is_after_ours : maker ≡ this_device → IsAfterLabel file rest
  is_after_ours same =
      inl (is ∙ ap (λ (l : List ℕ). magic ++ l) (at ∙ ap (λ (m : Maker). label_of m ++ rest) same ∙ ap (λ (l : List ℕ). l ++ rest) (sym ours)))

  pub none_other : maker ≡ this_device → IsMadeByNoOther file
  none_other same other by =
      let labels : label_of other ++ by.made.rest ≡ label_of maker ++ rest = same_after _ _ (sym by.made.begins ∙ is) ∙ at in
      by.other (ours_only other by.made.rest rest by.made.version_fits by.made.profile_fits
      (labels ∙ ap (λ (m : Maker). label_of m ++ rest) same ∙ ap (λ (l : List ℕ). l ++ rest) (sym ours)))

  module _ (version_fits : maker.version < 2 ^ 64) (profile_fits : maker.profile < 2 ^ 64) (other : maker ≢ this_device) where
    -- another device's
    pub none_after : (past : List ℕ) → IsAfterLabel file past → ⊥
    none_after past (inl has) = other (ours_only maker rest past version_fits profile_fits (sym at ∙ same_after _ _ (sym is ∙ has)))
    none_after past (inr has) = has.1 maker rest (same_after _ _ (sym has.0 ∙ is) ∙ at)

    pub made_by_other : IsMadeByOther maker file
    made_by_other = record {
      made = record { version_fits = version_fits; profile_fits = profile_fits; rest = rest; begins = is ∙ ap (λ (l : List ℕ). magic ++ l) at };
      other = other;
    }

-- no label, no maker
pub none_without_magic : (file : List ℕ) → ((after : List ℕ) → file ≡ magic ++ after → ⊥) → IsMadeByNoOther file
none_without_magic file none maker by = none (label_of maker ++ by.made.rest) by.made.begins

pub none_without_label : (file after : List ℕ) → file ≡ magic ++ after → BeginsNoLabel after → IsMadeByNoOther file
none_without_label file after is none maker by = none maker by.made.rest (same_after _ _ (sym is ∙ by.made.begins))

-- a base has no other device's label
pub no_other_label : (maker : Maker) (file label xs : List ℕ) → IsMadeByOther maker file → IsLabel label → file ≡ magic ++ (label ++ 1 ∷ xs) → ⊥
no_other_label maker file label xs by (inl is) parts =
    by.other (ours_only maker by.made.rest (1 ∷ xs) by.made.version_fits by.made.profile_fits
    (same_after _ _ (sym by.made.begins ∙ parts) ∙ ap (λ (l : List ℕ). l ++ 1 ∷ xs) is))
no_other_label maker file label xs by (inr none) parts =
    event_no_label xs maker by.made.rest
    (sym (same_after _ _ (sym by.made.begins ∙ parts) ∙ ap (λ (l : List ℕ). l ++ 1 ∷ xs) none))

-- ---- writing one

-- part by part
pub front_added : (before opened tagged numbered all version profile : List ℕ) → opened ≡ before ++ magic → tagged ≡ opened ++ 2 ∷ []
    → numbered ≡ tagged ++ version → all ≡ numbered ++ profile → version ≡ number_bytes 1 → profile ≡ number_bytes 2 → all ≡ before ++ (magic ++ our_label)
front_added before opened tagged numbered all version profile first second third fourth is_version is_profile =
    fourth
    ∙ ap (λ (l : List ℕ). l ++ profile) (third ∙ ap (λ (l : List ℕ). l ++ version) (second ∙ ap (λ (l : List ℕ). l ++ 2 ∷ []) first))
    ∙ append_assoc ((before ++ magic) ++ 2 ∷ []) version profile
    ∙ append_assoc (before ++ magic) (2 ∷ []) (version ++ profile)
    ∙ append_assoc before magic (2 ∷ version ++ profile)
    ∙ ap (λ (l : List ℕ). before ++ (magic ++ (2 ∷ l ++ profile))) is_version
    ∙ ap (λ (l : List ℕ). before ++ (magic ++ (2 ∷ number_bytes 1 ++ l))) is_profile
    ∙ ap (λ (l : List ℕ). before ++ (magic ++ l)) (sym ours)
