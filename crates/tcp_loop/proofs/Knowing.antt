-- What is known of a file after some calls is known after others that come to the same.
use Rattle.std.proofs.Common.{ℕ, ◌≡◌, ◌⊎◌, ◌≤◌, ◌+◌, Bool, true, false, if◌then◌else◌, List, [], ◌∷◌, refl, sym, ap, subst, ◌∙◌, inl, inr, ⊎_elim, arith}
use Rattle.tcp_loop.specs.Disk.{is_there, seen_after, written}
use Rattle.tcp_loop.proofs.Lists.{at_bool, there_already, torn_by_mix}
use Rattle.stored_file.specs.File.{FileState, MayLeave}
use Rattle.stored_file.specs.Calls.{Call, LeftBehind, NotReplaced, Opened, Refused, Renewed, Replaced, Shortened, Synced, Written, behind, seen_behind, told_of}
use Rattle.tcp_loop.specs.Kept.{Knows}

module _ (may_be_left : List ℕ → List ℕ → Type 0) where
  -- what a crash leaves after a call is what that call leaves
  left_by : (call : Call) (file : FileState) (c : List ℕ) → MayLeave (behind may_be_left call file) c → LeftBehind may_be_left call file c
  left_by call file c now =
      ⊎_elim (λ (was : (file.moment + 1 ≤ file.moment) × file.left_since (file.moment + 1) c). absurd (omega (arith, was.0)))
      (λ (left : (file.moment + 1 ≤ file.moment + 1) × LeftBehind may_be_left call file c). left.1) now

  by_left : (call : Call) (file : FileState) (c : List ℕ) → LeftBehind may_be_left call file c → MayLeave (behind may_be_left call file) c
  by_left call file c left = inr (omega arith, left)

  -- one more call of both
  more_left : (call : Call) (a b : List Call) → Knows may_be_left a b → (c : List ℕ)
      → LeftBehind may_be_left call (told_of may_be_left a) c → LeftBehind may_be_left call (told_of may_be_left b) c
  more_left (Opened bytes) a b k c left = left
  more_left (Written «at» bytes done) a b k c left = (left.0, k.left left.0 left.1, left.2)
  more_left (Renewed «at» bytes done) a b k c left = (left.0, k.left left.0 left.1, left.2)
  more_left (Shortened len done) a b k c left = (left.0, k.left left.0 left.1, left.2)
  more_left (Synced true) a b k c left = k.synced c left
  more_left (Synced false) a b k c left = k.left c left
  more_left (Replaced bytes true) a b k c left = left
  more_left (Replaced bytes false) a b k c left =
      ⊎_elim (λ (was : MayLeave (told_of may_be_left a) c). inl (k.left c was)) (λ (is : c ≡ bytes). inr is) left
  more_left NotReplaced a b k c left = k.left c left
  more_left Refused a b k c left = k.left c left

  more_synced : (call : Call) (a b : List Call) → Knows may_be_left a b → (c : List ℕ)
      → (told_of may_be_left (call ∷ a)).once_synced c → (told_of may_be_left (call ∷ b)).once_synced c
  more_synced (Opened bytes) a b k c left = left
  more_synced (Written «at» bytes done) a b k c left = (left.0, k.synced left.0 left.1, left.2)
  more_synced (Renewed «at» bytes done) a b k c left = (left.0, k.synced left.0 left.1, left.2)
  more_synced (Shortened len done) a b k c left = (left.0, k.synced left.0 left.1, left.2)
  more_synced (Synced done) a b k c left = k.synced c left
  more_synced (Replaced bytes done) a b k c left = left
  more_synced NotReplaced a b k c left = k.synced c left
  more_synced Refused a b k c left = k.synced c left

  more_seen : (call : Call) (a b : List Call) → Knows may_be_left a b
      → (told_of may_be_left (call ∷ a)).seen ≡ (told_of may_be_left (call ∷ b)).seen
  more_seen call a b k = ap (seen_behind call) k.seen

  pub knows_more : (call : Call) (a b : List Call) → Knows may_be_left a b → Knows may_be_left (call ∷ a) (call ∷ b)
  knows_more call a b k = record {
    seen = more_seen call a b k;
    left = λ c now. by_left call (told_of may_be_left b) c (more_left call a b k c (left_by call (told_of may_be_left a) c now));
    synced = λ c left. more_synced call a b k c left;
  }

  -- a call for which nothing changes
  pub knows_wanted : (a b : List Call) → Knows may_be_left a b → Knows may_be_left a (NotReplaced ∷ b)
  knows_wanted a b k = record {
    seen = k.seen;
    left = λ c now. by_left NotReplaced (told_of may_be_left b) c (k.left c now);
    synced = k.synced;
  }

  -- a new file has the name, and then the name is on the disk
  pub knows_placed : (bytes : List ℕ) (a b : List Call) → Knows may_be_left a b
      → Knows may_be_left (Replaced bytes true ∷ Replaced bytes false ∷ a) (Replaced bytes true ∷ b)
  knows_placed bytes a b k = record {
    seen = refl;
    left = λ c now. by_left (Replaced bytes true) (told_of may_be_left b) c
        (left_by (Replaced bytes true) (told_of may_be_left (Replaced bytes false ∷ a)) c now);
    synced = λ c left. left;
  }

  -- the same calls
  pub knows_same : (a : List Call) → Knows may_be_left a a
  knows_same a = record { seen = refl; left = λ c now. now; synced = λ c left. left }

  -- what is read after some calls
  pub seen_told : (a : List Call) → seen_after a ≡ (told_of may_be_left a).seen
  seen_told [] = refl
  seen_told (call ∷ a) = ap (seen_behind call) (seen_told a)

  -- bytes that are there are written over them
  knows_there : («at» : ℕ) (bytes : List ℕ) (a b : List Call) → Knows may_be_left a b → is_there «at» bytes (seen_after a) ≡ true
      → Knows may_be_left (Renewed «at» bytes true ∷ a) (Written «at» bytes true ∷ b)
  knows_there «at» bytes a b k there = record {
    seen = k.seen ∙ sym (there_already «at» bytes (told_of may_be_left b).seen
        (subst (λ (seen : List ℕ). is_there «at» bytes seen ≡ true) (seen_told a ∙ k.seen) there));
    left = λ c now. let left = left_by (Renewed «at» bytes true) (told_of may_be_left a) c now in
        by_left (Written «at» bytes true) (told_of may_be_left b) c (left.0, k.left left.0 left.1, torn_by_mix «at» bytes left.0 c left.2);
    synced = λ c left. (left.0, k.synced left.0 left.1, left.2);
  }

  -- bytes are written
  pub knows_written : («at» : ℕ) (bytes : List ℕ) (a b : List Call) → Knows may_be_left a b
      → Knows may_be_left (written «at» bytes true (seen_after a) ∷ a) (Written «at» bytes true ∷ b)
  knows_written «at» bytes a b k =
      at_bool (is_there «at» bytes (seen_after a))
      (λ (there : Bool). Knows may_be_left ((if there then Renewed «at» bytes true else Written «at» bytes true) ∷ a) (Written «at» bytes true ∷ b))
      (λ so. knows_there «at» bytes a b k so) (λ so. knows_more (Written «at» bytes true) a b k)

  -- bytes are written again
  pub knows_renewed : («at» : ℕ) (bytes : List ℕ) (a b : List Call) → Knows may_be_left a b
      → is_there «at» bytes (told_of may_be_left b).seen ≡ true
      → Knows may_be_left (written «at» bytes true (seen_after a) ∷ a) (Renewed «at» bytes true ∷ b)
  knows_renewed «at» bytes a b k there =
      let is : is_there «at» bytes (seen_after a) ≡ true =
      subst (λ (seen : List ℕ). is_there «at» bytes seen ≡ true) (sym (seen_told a ∙ k.seen)) there in
      subst (λ (here : Bool). Knows may_be_left ((if here then Renewed «at» bytes true else Written «at» bytes true) ∷ a) (Renewed «at» bytes true ∷ b))
      (sym is) (knows_more (Renewed «at» bytes true) a b k)

  -- a call that failed leaves no other than one that is done
  pub failed_leaves : («at» : ℕ) (bytes : List ℕ) (a : List Call) (c : List ℕ)
      → MayLeave (told_of may_be_left (written «at» bytes false (seen_after a) ∷ a)) c
      → MayLeave (told_of may_be_left (written «at» bytes true (seen_after a) ∷ a)) c
  failed_leaves «at» bytes a c =
      at_bool (is_there «at» bytes (seen_after a))
      (λ (there : Bool). MayLeave (told_of may_be_left ((if there then Renewed «at» bytes false else Written «at» bytes false) ∷ a)) c
      → MayLeave (told_of may_be_left ((if there then Renewed «at» bytes true else Written «at» bytes true) ∷ a)) c)
      (λ so now. by_left (Renewed «at» bytes true) (told_of may_be_left a) c (left_by (Renewed «at» bytes false) (told_of may_be_left a) c now))
      (λ so now. by_left (Written «at» bytes true) (told_of may_be_left a) c (left_by (Written «at» bytes false) (told_of may_be_left a) c now))

  pub not_shortened_leaves : (len : ℕ) (a : List Call) (c : List ℕ) → MayLeave (told_of may_be_left (Shortened len false ∷ a)) c
      → MayLeave (told_of may_be_left (Shortened len true ∷ a)) c
  not_shortened_leaves len a c now =
      by_left (Shortened len true) (told_of may_be_left a) c (left_by (Shortened len false) (told_of may_be_left a) c now)

  -- a sync that failed leaves what might have been left
  pub not_synced_leaves : (a : List Call) (c : List ℕ) → MayLeave (told_of may_be_left (Synced false ∷ a)) c → MayLeave (told_of may_be_left a) c
  not_synced_leaves a c now = left_by (Synced false) (told_of may_be_left a) c now

  -- a new file that isn't in its place for good leaves either
  pub half_placed_leaves : (bytes : List ℕ) (a b : List Call) (c : List ℕ) → Knows may_be_left a b
      → MayLeave (told_of may_be_left (Replaced bytes false ∷ a)) c
      → MayLeave (told_of may_be_left b) c ⊎ MayLeave (told_of may_be_left (Replaced bytes true ∷ b)) c
  half_placed_leaves bytes a b c k now =
      ⊎_elim (λ (was : MayLeave (told_of may_be_left a) c). inl (k.left c was))
      (λ (is : c ≡ bytes). inr (by_left (Replaced bytes true) (told_of may_be_left b) c is))
      (left_by (Replaced bytes false) (told_of may_be_left a) c now)
