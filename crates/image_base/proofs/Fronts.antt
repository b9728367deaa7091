-- What stands at the front of a file that begins with a base.
use Rattle.std.proofs.Common.{◌≡◌, inl, inr, ◌+◌, ◌-◌, ℕ, List, [], ◌∷◌, ◌++◌, length, take, Result, Ok, refl, sym, ◌∙◌, ap, arith, append_assoc, length-append}
use Rattle.std.proofs.lemmas.List.{take_at}
use Rattle.image_store.specs.Namespace.{ZonedNamespace}
use Rattle.image_text.specs.Reading.{namespace_in}
use Rattle.image_text.specs.declared.fault.LoadFault.{LoadFault}
use Rattle.durable_machine.specs.Events.{BeginsEvent, BeginsNoEvent, number_bytes, spelled}
use Rattle.durable_machine.proofs.Spelling.{begins_spelled, one_reading, spelled-append}
use Rattle.durable_machine.specs.Bases.{BeginsBase, BeginsNoBase}
use Rattle.image_base.specs.Base.{BeginNoSections, BeginSections, IsAfterLabel, IsBaseOf, IsLabel, IsMadeBy, IsMadeByOther, IsNoText, Told, base_with, magic, our_label, this_device}
use Rattle.image_base.specs.declared.front.Maker.{Maker}
use Rattle.image_base.proofs.Labels.{event_no_label, no_other_label, ours, read_after, same_after, same_labels}
use Rattle.image_base.proofs.SectionLemmas.{same_events}

-- after a base's label its text stands as an event, and then its sections
base_text : (label text : List ℕ) (sections : List (List ℕ)) (rest : List ℕ)
    → base_with label text sections ++ rest ≡ magic ++ (label ++ (1 ∷ number_bytes (length text) ++ text ++ (spelled sections ++ rest)))
base_text label text sections rest =
    append_assoc magic (label ++ spelled (text ∷ sections)) rest
    ∙ ap (λ (l : List ℕ). magic ++ l)
    (append_assoc label (spelled (text ∷ sections)) rest ∙ ap (λ (l : List ℕ). label ++ l) (begins_spelled text sections rest))

-- what a file has that begins with a base
has_base : (file base rest : List ℕ) (told : Told) (loads : IsBaseOf base told) → file ≡ base ++ rest
    → file ≡ magic ++ (loads.label ++ (1 ∷ number_bytes (length loads.text) ++ loads.text ++ (spelled told.sections ++ rest)))
has_base file base rest told loads parts =
    parts ∙ ap (λ (l : List ℕ). l ++ rest) loads.parts ∙ base_text loads.label loads.text told.sections rest

-- a file begins with one base, which tells one thing
pub one_base : (a b x y : List ℕ) (s t : Told) → IsBaseOf a s → IsBaseOf b t → a ++ x ≡ b ++ y → (a ≡ b) × (s ≡ t)
one_base a b x y s t is_a is_b is =
    let labels = same_labels is_a.label is_b.label _ _ is_a.ours is_b.ours
    (same_after _ _ (sym (has_base (a ++ x) a x s is_a refl) ∙ has_base (a ++ x) b y t is_b is)) in
    let texts = one_reading is_a.text is_b.text (spelled s.sections ++ x) (spelled t.sections ++ y) is_a.sized is_b.sized labels.1 in
    let sections =
    (same_events s.sections t.sections x y is_a.sections.sized is_b.sections.sized (is_a.sections.number ∙ sym is_b.sections.number) texts.1).0 in
    let namespaces = same_namespace (sym is_a.read ∙ ap namespace_in texts.0 ∙ is_b.read) in
    let same : s ≡ t =
    ap (λ (ns : ZonedNamespace). record { namespace = ns; sections = s.sections }) namespaces
    ∙ ap (λ (l : List (List ℕ)). record { namespace = t.namespace; sections = l }) sections in (
      is_a.parts
          ∙ ap (λ (l : List ℕ). base_with l is_a.text s.sections) labels.0
          ∙ ap (λ (l : List ℕ). base_with is_b.label l s.sections) texts.0
          ∙ ap (base_with is_b.label is_b.text) sections ∙ sym is_b.parts,
      same,
    )
  where
    same_namespace : let first : Result ZonedNamespace LoadFault = Ok s.namespace in first ≡ Ok t.namespace → s.namespace ≡ t.namespace
    same_namespace same = cc

-- where no event stands after the label, no base stands there
pub no_event : (file after : List ℕ) → IsAfterLabel file after → BeginsNoEvent after → BeginsNoBase IsBaseOf file
no_event file after is none base rest told loads parts =
    let split = read_after file after loads.label _ is loads.ours (has_base file base rest told loads parts) in
    none loads.text (spelled told.sections ++ rest) (record { sized = loads.sized; parts = split })

-- and where another text does, neither
pub no_image : (file after text rest : List ℕ) → IsAfterLabel file after → BeginsEvent text rest after → IsNoText text → BeginsNoBase IsBaseOf file
no_image file after text rest is begins none base later told loads parts =
    let split = read_after file after loads.label _ is loads.ours (has_base file base later told loads parts) in
    let same = (one_reading text loads.text rest (spelled told.sections ++ later) begins.sized loads.sized (sym begins.parts ∙ split)).0 in
    none told.namespace (ap namespace_in same ∙ loads.read)

-- nor where no sections stand after the text
pub no_sections : (file after text rest : List ℕ) → IsAfterLabel file after → BeginsEvent text rest after → BeginNoSections rest → BeginsNoBase IsBaseOf file
no_sections file after text rest is begins none base later told loads parts =
    let split = read_after file after loads.label _ is loads.ours (has_base file base later told loads parts) in
    let same = (one_reading text loads.text rest (spelled told.sections ++ later) begins.sized loads.sized (sym begins.parts ∙ split)).1 in
    none told.sections later loads.sections same

-- nor where nothing is after a label
pub no_label : (file : List ℕ) → ((after : List ℕ) → IsAfterLabel file after → ⊥) → BeginsNoBase IsBaseOf file
no_label file none base rest told loads parts = at loads.ours
  where
    stands : List ℕ
    stands = number_bytes (length loads.text) ++ loads.text ++ (spelled told.sections ++ rest)

    whole : file ≡ magic ++ (loads.label ++ 1 ∷ stands)
    whole = has_base file base rest told loads parts

    at : IsLabel loads.label → ⊥
    at (inl made) = none (1 ∷ stands) (inl (whole ∙ ap (λ (l : List ℕ). magic ++ (l ++ 1 ∷ stands)) made))
    at (inr bare) = none (1 ∷ stands) (inr (whole ∙ ap (λ (l : List ℕ). magic ++ (l ++ 1 ∷ stands)) bare, event_no_label stands))

-- nor where another device made it
pub no_base_of_other : (maker : Maker) (file : List ℕ) → IsMadeByOther maker file → BeginsNoBase IsBaseOf file
no_base_of_other maker file by base rest told loads parts =
    no_other_label maker file loads.label _ by loads.ours (has_base file base rest told loads parts)

-- the base of a text and sections that stand there
module _ (file after text rest : List ℕ) (sections : List (List ℕ)) (ns : ZonedNamespace) (left n : ℕ) (begins : BeginsEvent text rest after)
    (read : namespace_in text ≡ Ok ns) (begin : BeginSections sections left rest) (counted : n ≡ length file - left) where
  labelled : (label : List ℕ) → IsLabel label → file ≡ magic ++ (label ++ after) → BeginsBase IsBaseOf (record { namespace = ns; sections = sections }) n file
  labelled label our is =
      let whole : file ≡ base_with label text sections ++ begin.rest =
      is
      ∙ ap (λ (l : List ℕ). magic ++ (label ++ l)) (begins.parts ∙ ap (λ (l : List ℕ). 1 ∷ number_bytes (length text) ++ text ++ l) begin.parts)
      ∙ sym (base_text label text sections begin.rest) in
      let size : length file ≡ length (base_with label text sections) + length begin.rest = ap length whole ∙ length-append (base_with label text sections) begin.rest in
      let length_is : length (base_with label text sections) ≡ n = omega (arith, size, counted, begin.counted) in
      record {
        within = omega (arith, counted);
        loaded = record {
          label = label;
          ours = our;
          text = text;
          sized = begins.sized;
          sections = begin.are;
          parts = ap (λ (l : List ℕ). take n l) whole ∙ take_at (base_with label text sections) begin.rest n length_is;
          read = read;
        };
      }

  pub begins_base : IsAfterLabel file after → BeginsBase IsBaseOf (record { namespace = ns; sections = sections }) n file
  begins_base (inl is) = labelled our_label (inl refl) is
  begins_base (inr is) = labelled [] (inr refl) is.0

-- ---- a base that is made

-- part by part
pub based : (front texted base read text : List ℕ) (sections : List (List ℕ)) → front ≡ magic ++ our_label → read ≡ text
    → texted ≡ front ++ spelled (read ∷ []) → base ≡ texted ++ spelled sections → base ≡ base_with our_label text sections
based front texted base read text sections is same added last =
    last
    ∙ ap (λ (l : List ℕ). l ++ spelled sections)
    (added ∙ ap (λ (l : List ℕ). l ++ spelled (read ∷ [])) is ∙ ap (λ (l : List ℕ). (magic ++ our_label) ++ spelled (l ∷ [])) same)
    ∙ append_assoc (magic ++ our_label) (spelled (text ∷ [])) (spelled sections)
    ∙ ap (λ (l : List ℕ). (magic ++ our_label) ++ l) (sym (spelled-append (text ∷ []) sections))
    ∙ append_assoc magic our_label (spelled (text ∷ sections))

-- this device made it
pub made_here : (base text : List ℕ) (sections : List (List ℕ)) → base ≡ base_with our_label text sections → IsMadeBy this_device base
made_here base text sections is = record {
  version_fits = omega arith;
  profile_fits = omega arith;
  rest = spelled (text ∷ sections);
  begins = is ∙ ap (λ (l : List ℕ). magic ++ (l ++ spelled (text ∷ sections))) ours;
}
