-- The calls that were handed over, in order.
use Rattle.std.proofs.Common.{◌≡◌, false, List, [], ◌∷◌, ◌++◌, map, reverse, refl, ap, sym, ◌∙◌, append_assoc}
use Rattle.std.proofs.lemmas.List.{map-append, reverse-append}
use Rattle.stored_file.specs.Calls.{Call}
use Rattle.stored_file.specs.Calls as call
use Rattle.handed_file.specs.Handing.{all_done, done_call, handed, has_refused}
use Rattle.handed_file.specs.declared.handed_file.FileCall.{FileCall}
use Rattle.handed_file.specs.declared.handed_file.FileCall.TheVariants.{Write, Renew, Shorten, Sync, Replace, Want}

-- one more is handed over
one_more : (calls : List FileCall) (next : FileCall) → all_done (calls ++ next ∷ []) ≡ done_call next ∷ all_done calls
one_more calls next = ap reverse (map-append done_call calls (next ∷ [])) ∙ reverse-append (map done_call calls) (done_call next ∷ [])

handed_done : (next : FileCall) (notes : List Call) → handed (done_call next ∷ notes) ≡ done_call next ∷ handed notes
handed_done (Write «at» bytes) notes = refl
handed_done (Renew «at» bytes) notes = refl
handed_done (Shorten len) notes = refl
handed_done Sync notes = refl
handed_done (Replace bytes) notes = refl
handed_done (Want bytes) notes = refl

pub refused_done : (next : FileCall) (notes : List Call) → has_refused (done_call next ∷ notes) ≡ has_refused notes
refused_done (Write «at» bytes) notes = refl
refused_done (Renew «at» bytes) notes = refl
refused_done (Shorten len) notes = refl
refused_done Sync notes = refl
refused_done (Replace bytes) notes = refl
refused_done (Want bytes) notes = refl

pub handed_more : (calls after : List FileCall) (next : FileCall) (notes made noted : List Call) → after ≡ calls ++ next ∷ []
    → noted ≡ done_call next ∷ notes → handed notes ≡ all_done calls ++ made → handed noted ≡ all_done after ++ made
handed_more calls after next notes made noted is noted_is kept =
    ap handed noted_is ∙ handed_done next notes ∙ ap (λ (rest : List Call). done_call next ∷ rest) kept
    ∙ ap (λ (done : List Call). done ++ made) (sym (one_more calls next) ∙ ap all_done (sym is))

-- the first of them is told as done
pub told_first : (next : FileCall) (rest : List FileCall) (made : List Call) → all_done (next ∷ rest) ++ made ≡ all_done rest ++ done_call next ∷ made
told_first next rest made =
    ap (λ (done : List Call). done ++ made) (reverse-append (done_call next ∷ []) (map done_call rest))
    ∙ append_assoc (all_done rest) (done_call next ∷ []) made

-- where none was refused, all were handed over
pub all_handed : (notes : List Call) → has_refused notes ≡ false → handed notes ≡ notes
all_handed [] none = refl
all_handed (call.Refused ∷ notes) none = absurd cc
all_handed (call.Opened bytes ∷ notes) none = ap (λ (rest : List Call). call.Opened bytes ∷ rest) (all_handed notes none)
all_handed (call.Written «at» bytes done ∷ notes) none = ap (λ (rest : List Call). call.Written «at» bytes done ∷ rest) (all_handed notes none)
all_handed (call.Renewed «at» bytes done ∷ notes) none = ap (λ (rest : List Call). call.Renewed «at» bytes done ∷ rest) (all_handed notes none)
all_handed (call.NotReplaced ∷ notes) none = ap (λ (rest : List Call). call.NotReplaced ∷ rest) (all_handed notes none)
all_handed (call.Shortened len done ∷ notes) none = ap (λ (rest : List Call). call.Shortened len done ∷ rest) (all_handed notes none)
all_handed (call.Synced done ∷ notes) none = ap (λ (rest : List Call). call.Synced done ∷ rest) (all_handed notes none)
all_handed (call.Replaced bytes done ∷ notes) none = ap (λ (rest : List Call). call.Replaced bytes done ∷ rest) (all_handed notes none)

-- where none is left either, all were told as done
pub all_made : (calls : List FileCall) (notes made : List Call) → calls ≡ [] → has_refused notes ≡ false → handed notes ≡ all_done calls ++ made → made ≡ notes
all_made calls notes made none kept is = sym (sym (all_handed notes kept) ∙ is ∙ ap (λ (list : List FileCall). all_done list ++ made) none)
