-- What is known of a file behind some calls covers what is known behind the first of them.
use Rattle.std.proofs.Common.{◌≡◌, ℕ, ◌+◌, List, [], ◌∷◌, ◌++◌, ◌≤◌, inl, reverse, ap, subst, ◌∙◌, append_assoc, arith}
use Rattle.std.proofs.lemmas.List.{reverse-append}
use Rattle.stored_file.specs.File.{MayLeave}
use Rattle.stored_file.specs.Calls.{Call, counts_behind}
use Rattle.durable_device.specs.Kept.{MayBeLeft}
use Rattle.handed_file.specs.Handed.{told_of}
use Rattle.handed_file.specs.Laws.{LeavesInTurn}

-- no moment is before an earlier one
later : (more made : List Call) → (told_of made).moment ≤ (told_of (more ++ made)).moment
later [] made = omega arith
later (call ∷ more) made = let rest : (told_of made).moment ≤ (told_of (more ++ made)).moment = later more made in omega arith

pub first_covered : (more made : List Call) (t : ℕ) (c : List ℕ) → t ≤ (told_of made).moment → MayLeave (told_of made) c
    → (told_of (more ++ made)).left_since t c
first_covered [] made t c early now = counts_behind MayBeLeft made t c early now
first_covered (call ∷ more) made t c early now =
    let rest : (told_of made).moment ≤ (told_of (more ++ made)).moment = later more made in
    inl (omega (arith, early, rest), first_covered more made t c early now)

-- the first of calls is made
pub made_first : (call : Call) (waits made : List Call) → reverse (call ∷ waits) ++ made ≡ reverse waits ++ call ∷ made
made_first call waits made =
    ap (λ (done : List Call). done ++ made) (reverse-append (call ∷ []) waits) ∙ append_assoc (reverse waits) (call ∷ []) made

module _ (P Q : List ℕ → Type 0) where
  each_in_turn : (t : ℕ) (waits made : List Call) → t ≤ (told_of made).moment
      → ((c : List ℕ) → (told_of (reverse waits ++ made)).left_since t c → P c)
      → ((c : List ℕ) → MayLeave (told_of (reverse waits ++ made)) c → Q c) → LeavesInTurn P Q waits made
  each_in_turn t [] made early each last = last
  each_in_turn t (call ∷ waits) made early each last =
      let same = made_first call waits made in
      let next : t ≤ (told_of made).moment + 1 = omega (arith, early) in (
        (λ c left. each c (first_covered (reverse (call ∷ waits)) made t c early left)),
        each_in_turn t waits (call ∷ made) next
            (subst (λ (l : List Call). (c : List ℕ) → (told_of l).left_since t c → P c) same each)
            (subst (λ (l : List Call). (c : List ℕ) → MayLeave (told_of l) c → Q c) same last),
      )

  pub leaves_in_turn : (waits made : List Call)
      → ((c : List ℕ) → (told_of (reverse waits ++ made)).left_since (told_of made).moment c → P c)
      → ((c : List ℕ) → MayLeave (told_of (reverse waits ++ made)) c → Q c) → LeavesInTurn P Q waits made
  leaves_in_turn waits made each last = each_in_turn (told_of made).moment waits made (omega arith) each last
