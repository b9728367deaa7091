-- What is left of a file that was opened, and of one for which a call wasn't made.
use Rattle.std.proofs.Common.{◌≤◌, ◌+◌, ⊎_elim, ℕ, Bool, List, [], ◌∷◌, length, arith, refl}
use Rattle.stored_file.specs.File.{Follows, LeavesNow, MayLeave, Mixed}
use Rattle.stored_file.proofs.Renewing.{mixed_old}
use Rattle.stored_file.specs.Calls.{Call, Opened, Refused, Renewed, told_of}

module _ (MayBeLeft : List ℕ → List ℕ → Type 0) where
  pub opened_leaves : (bytes : List ℕ) → LeavesNow (told_of MayBeLeft (Opened bytes ∷ [])) (MayBeLeft bytes)
  opened_leaves bytes = record {
    left = λ c now. ⊎_elim (λ (was : (0 + 1 ≤ 0) × Unit {0}). absurd (omega (arith, was.0))) (λ (left : (0 + 1 ≤ 0 + 1) × MayBeLeft bytes c). left.1) now;
    synced = λ c is. is;
  }

  refused_left : (calls : List Call) (c : List ℕ) → MayLeave (told_of MayBeLeft (Refused ∷ calls)) c → MayLeave (told_of MayBeLeft calls) c
  refused_left calls c now =
      let m = (told_of MayBeLeft calls).moment in
      ⊎_elim (λ (was : (m + 1 ≤ m) × (told_of MayBeLeft calls).left_since (m + 1) c). absurd (omega (arith, was.0)))
      (λ (left : (m + 1 ≤ m + 1) × MayLeave (told_of MayBeLeft calls) c). left.1) now

  -- bytes weren't written again
  pub refused_mixed : (calls : List Call) (at : ℕ) (bytes : List ℕ) → ((c : List ℕ) → MayLeave (told_of MayBeLeft calls) c → at + length bytes ≤ length c)
      → Follows (Mixed at bytes) (told_of MayBeLeft calls) (told_of MayBeLeft (Refused ∷ calls))
  refused_mixed calls at bytes long c now =
      let was = refused_left calls c now in
      (c, was, mixed_old at bytes c (long c was) c refl)

  -- they were
  pub renewed_mixed : (calls : List Call) (at : ℕ) (bytes : List ℕ) (done : Bool) → Follows (Mixed at bytes) (told_of MayBeLeft calls) (told_of MayBeLeft (Renewed at bytes done ∷ calls))
  renewed_mixed calls at bytes done c now =
      let m = (told_of MayBeLeft calls).moment in
      ⊎_elim (λ (was : (m + 1 ≤ m) × (told_of MayBeLeft calls).left_since (m + 1) c). absurd (omega (arith, was.0)))
      (λ (left : (m + 1 ≤ m + 1) × ((d : List ℕ) × MayLeave (told_of MayBeLeft calls) d × Mixed at bytes d c)). left.1) now
