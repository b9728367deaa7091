-- Bytes that are written again are there.
use Rattle.std.proofs.Common.{◌≡◌, ◌&&◌, ℕ, Bool, true, List, [], ◌∷◌, ◌++◌, drop, length, take, refl, sym, ap, subst, ◌∙◌}
use Rattle.std.proofs.lemmas.Bool.{and_parts}
use Rattle.std.proofs.lemmas.Bool.Decides.{Decides-eqb}
use Rattle.std.proofs.lemmas.Slice.Eq.{slice_eq-Decides}
use Rattle.stored_file.specs.Calls.{Call, seen_behind}
use Rattle.stored_file.specs.Calls as call
use Rattle.handed_file.specs.Handed.{told_of}
use Rattle.handed_file.specs.Handing.{IsThere, all_done, done_call, each_is_there, handed, is_there}
use Rattle.handed_file.specs.declared.handed_file.FileCall.{FileCall}
use Rattle.handed_file.specs.declared.handed_file.FileCall.TheVariants.{Write, Renew, Shorten, Sync, Replace, Want}
use Rattle.handed_file.proofs.Ordered.{told_first}

-- ---- a call that was refused changes nothing that is read

seen_handed : (notes : List Call) → (told_of (handed notes)).seen ≡ (told_of notes).seen
seen_handed [] = refl
seen_handed (call.Opened bytes ∷ notes) = refl
seen_handed (call.Written «at» bytes done ∷ notes) = ap (seen_behind (call.Written «at» bytes done)) (seen_handed notes)
seen_handed (call.Renewed «at» bytes done ∷ notes) = seen_handed notes
seen_handed (call.Shortened len done ∷ notes) = ap (seen_behind (call.Shortened len done)) (seen_handed notes)
seen_handed (call.Synced done ∷ notes) = seen_handed notes
seen_handed (call.Replaced bytes done ∷ notes) = refl
seen_handed (call.NotReplaced ∷ notes) = seen_handed notes
seen_handed (call.Refused ∷ notes) = seen_handed notes

there_handed : (notes : List Call) → each_is_there notes ≡ true → each_is_there (handed notes) ≡ true
there_handed [] each = refl
there_handed (call.Opened bytes ∷ notes) each = there_handed notes each
there_handed (call.Written «at» bytes done ∷ notes) each = there_handed notes each
there_handed (call.Renewed «at» bytes done ∷ notes) each =
    let both = and_parts (is_there «at» bytes (told_of notes).seen) (each_is_there notes) each in
    let here : is_there «at» bytes (told_of (handed notes)).seen ≡ true =
    subst (λ (seen : List ℕ). is_there «at» bytes seen ≡ true) (sym (seen_handed notes)) both.0 in
    ap (λ (b : Bool). b && each_is_there (handed notes)) here ∙ there_handed notes both.1
there_handed (call.Shortened len done ∷ notes) each = there_handed notes each
there_handed (call.Synced done ∷ notes) each = there_handed notes each
there_handed (call.Replaced bytes done ∷ notes) each = there_handed notes each
there_handed (call.NotReplaced ∷ notes) each = there_handed notes each
there_handed (call.Refused ∷ notes) each = there_handed notes each

-- ---- calls of which the first are made

there_made : (more made : List Call) → each_is_there (more ++ made) ≡ true → each_is_there made ≡ true
there_made [] made each = each
there_made (call.Opened bytes ∷ more) made each = there_made more made each
there_made (call.Written «at» bytes done ∷ more) made each = there_made more made each
there_made (call.Renewed «at» bytes done ∷ more) made each =
    there_made more made (and_parts (is_there «at» bytes (told_of (more ++ made)).seen) (each_is_there (more ++ made)) each).1
there_made (call.Shortened len done ∷ more) made each = there_made more made each
there_made (call.Synced done ∷ more) made each = there_made more made each
there_made (call.Replaced bytes done ∷ more) made each = there_made more made each
there_made (call.NotReplaced ∷ more) made each = there_made more made each
there_made (call.Refused ∷ more) made each = there_made more made each

there_first : (next : FileCall) (made : List Call) → each_is_there (done_call next ∷ made) ≡ true → IsThere next (told_of made).seen
there_first (Write «at» bytes) made each = tt
there_first (Renew «at» bytes) made each = (and_parts (is_there «at» bytes.items (told_of made).seen) (each_is_there made) each).0
there_first (Shorten len) made each = tt
there_first Sync made each = tt
there_first (Replace bytes) made each = tt
there_first (Want bytes) made each = tt

pub next_is_there : (next : FileCall) (rest waiting : List FileCall) (notes made : List Call) → waiting ≡ next ∷ rest
    → handed notes ≡ all_done waiting ++ made → each_is_there notes ≡ true → IsThere next (told_of made).seen
next_is_there next rest waiting notes made first order each =
    let is : handed notes ≡ all_done rest ++ done_call next ∷ made =
    order ∙ ap (λ (calls : List FileCall). all_done calls ++ made) first ∙ told_first next rest made in
    let all : each_is_there (all_done rest ++ done_call next ∷ made) ≡ true =
    subst (λ (calls : List Call). each_is_there calls ≡ true) is (there_handed notes each) in
    there_first next made (there_made (all_done rest) (done_call next ∷ made) all)

-- ---- one more

pub renewed_there : (notes : List Call) (at : ℕ) (bytes given : List ℕ) → bytes ≡ given → take (length given) (drop at (told_of notes).seen) ≡ given
    → each_is_there notes ≡ true → each_is_there (call.Renewed at bytes true ∷ notes) ≡ true
renewed_there notes at bytes given copied again each =
    let same : bytes ≡ take (length bytes) (drop at (told_of notes).seen) =
    subst (λ (l : List ℕ). l ≡ take (length l) (drop at (told_of notes).seen)) (sym copied) (sym again) in
    ap (λ (b : Bool). b && each_is_there notes)
    ((slice_eq-Decides Decides-eqb bytes (take (length bytes) (drop at (told_of notes).seen)) (is_there at bytes (told_of notes).seen) refl).1 same) ∙ each
