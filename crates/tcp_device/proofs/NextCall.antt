-- The next call.
use Rattle.std.proofs.Common.{◌≡◌, ℕ, List, ◌∷◌, map, refl, sym, ap, subst, ◌∙◌}
use Rattle.stored_file.specs.Calls as calls
use Rattle.handed_file.specs.Handed.{made_calls, waiting}
use Rattle.handed_file.specs.Handing as handing
use Rattle.handed_file.specs.Handing.{call_bytes}
use Rattle.handed_file.specs.declared.handed_file.FileCall.{FileCall}
use Rattle.handed_file.specs.declared.handed_file.FileCall.TheVariants.{Renew, Replace, Shorten, Sync, Want, Write}
use Rattle.handed_file.specs.declared.handed_file.HandedFile.{HandedFile}
use Rattle.tcp_loop.specs.Deeds.{Meaning}
use Rattle.tcp_loop.specs.Keeping.{IsNext, IsThere, done_call}
use Rattle.tcp_loop.specs.declared.target.Call.{Call}
use Rattle.tcp_device.specs.FileCalls.{call_of, keeping_of, next_bytes}

-- it is the same with its bytes beside it
pub same_call : (call : FileCall) → handing.done_call call ≡ done_call (call_of call) (call_bytes call)
same_call (Write «at» bytes) = refl
same_call (Renew «at» bytes) = refl
same_call (Shorten len) = refl
same_call Sync = refl
same_call (Replace bytes) = refl
same_call (Want bytes) = refl

-- and what it writes again is there
pub same_there : (call : FileCall) (seen : List ℕ) → handing.IsThere call seen → IsThere (call_of call) (call_bytes call) seen
same_there (Write «at» bytes) seen there = tt
same_there (Renew «at» bytes) seen there = there
same_there (Shorten len) seen there = tt
same_there Sync seen there = tt
same_there (Replace bytes) seen there = tt
same_there (Want bytes) seen there = tt

pub is_next : {State : Type 0} (m : Meaning State) (file : HandedFile) (call : FileCall) (rest : List FileCall) (told : Call) → waiting file ≡ call ∷ rest
    → told ≡ call_of call → handing.IsThere call (calls.told_of m.may_be_left (made_calls file)).seen → IsNext m told (keeping_of file)
is_next m file call rest told is same there = record {
  rest = map handing.done_call rest;
  waits =
      ap (λ (l : List FileCall). map handing.done_call l) is
      ∙ ap (λ (c : calls.Call). c ∷ map handing.done_call rest)
      (same_call call ∙ ap (λ (t : Call). done_call t (call_bytes call)) (sym same) ∙ ap (λ (l : List FileCall). done_call told (next_bytes l)) (sym is));
  is_there =
      subst (λ (t : Call). IsThere t (next_bytes (waiting file)) (calls.told_of m.may_be_left (made_calls file)).seen) (sym same)
      (subst (λ (l : List FileCall). IsThere (call_of call) (next_bytes l) (calls.told_of m.may_be_left (made_calls file)).seen) (sym is)
      (same_there call (calls.told_of m.may_be_left (made_calls file)).seen there));
}
