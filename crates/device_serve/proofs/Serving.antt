-- Rounds that are done one after another, how one breaks off, and what a crash leaves of them.
use Rattle.std.proofs.Common.{◌≡◌, ℕ, suc, List, Option, [], ◌∷◌, ◌++◌, append_assoc, append-nil, take, refl, sym, ap, subst, ◌∙◌, inl, inr, Result, Ok, Err, IfOk, IfErr, OnOk, arith}
use Rattle.std.specs.Prelude.{◌⊎◌}
use Rattle.std.specs.Io.KnownBytes.{Appends}
use Rattle.std.proofs.KnownBytes.{Appends-nil}
use Rattle.std.proofs.lemmas.List.Concat.{flat_map-append}
use Rattle.stored_file.specs.File.{FileState, LeavesOnly, MayLeave}
use Rattle.stored_file.proofs.Moments.{started, then_on, weaken}
use Rattle.device_meaning.specs.State.{State}
use Rattle.durable_device.specs.Kept.{IsEither, StandsFor}
use Rattle.device_serve.specs.Rounds.{Answered, AreRounds, Breaks, BreaksOff, Doing, Done, Ended, Ending, InRounds, IsAfterRounds, IsBegun, IsUnsent, LastRound, Round, Site, Stopped, Stopping, Unsent, laid, on}
use Rattle.device_serve.specs.declared.fault.ServeFault.{ServeFault}
use Rattle.device_serve.specs.declared.fault.ServeFault.TheVariants as fault

abbrev is_disk : ServeFault → Type 0
is_disk fault.Disk = Unit {0}
is_disk _ = ⊥

abbrev is_memory : ServeFault → Type 0
is_memory fault.Memory = Unit {0}
is_memory _ = ⊥

disk_writes : fault.Disk ≡ fault.Write → ⊥
disk_writes is = subst is_disk is tt

memory_writes : fault.Memory ≡ fault.Write → ⊥
memory_writes is = subst is_memory is tt

laid_more : (pieces more : List (List ℕ)) → laid (pieces ++ more) ≡ laid pieces ++ laid more
laid_more pieces more = flat_map-append (λ piece. piece) pieces more

module _ {C D : Type 0} (does : Doing C) (told : D → FileState) (settled : State → D → Type 0) where
  -- ---- rounds

  -- what was done is on the disk and answered
  pub round_of : (bytes answers : List ℕ) (c c' : C) (s t u : State) (w v : Option (List ℕ)) (d e : D) → does c s bytes c' t answers → u ≡ t
      → LeavesOnly (told d) (told e) (IsEither s t) → settled u e → Appends w v answers
      → Round does told settled bytes (on c s w d) (on c' u v e)
  round_of bytes answers c c' s t u w v d e done same moments on_disk written = record {
    answers = answers;
    done = subst (λ (x : State). does c s bytes c' x answers) (sym same) done;
    moments = subst (λ (x : State). LeavesOnly (told d) (told e) (IsEither s x)) (sym same) moments;
    on_disk = on_disk;
    written = written;
  }

  -- a journal is folded
  pub fold_round : (c : C) (s t : State) (w : Option (List ℕ)) (d e : D) → does c s [] c s [] → t ≡ s
      → LeavesOnly (told d) (told e) (λ file. StandsFor file s) → settled t e → Round does told settled [] (on c s w d) (on c t w e)
  fold_round c s t w d e stays same moments on_disk =
      round_of [] [] c c s s t w w d e stays same (weaken (told d) (told e) (λ file. StandsFor file s) (IsEither s s) moments (λ file is. inl is)) on_disk (Appends-nil w)

  rounds_join : (pieces more : List (List ℕ)) (a b c : Site C D) → AreRounds does told settled pieces a b → AreRounds does told settled more b c
      → AreRounds does told settled (pieces ++ more) a c
  rounds_join [] more a b c same later = subst (λ (s : Site C D). AreRounds does told settled more s c) same later
  rounds_join (piece ∷ pieces) more a b c (mid, one, rest) later = (mid, one, rounds_join pieces more mid b c rest later)

  pub in_none : (s : Site C D) → InRounds does told settled [] s s
  in_none s = record { pieces = []; are = refl; rounds = refl }

  pub in_one : (bytes : List ℕ) (a b : Site C D) → Round does told settled bytes a b → InRounds does told settled bytes a b
  in_one bytes a b round = record { pieces = bytes ∷ []; are = sym (append-nil bytes); rounds = (b, round, refl) }

  pub in_join : (bytes more : List ℕ) (a b c : Site C D) → InRounds does told settled bytes a b → InRounds does told settled more b c
      → InRounds does told settled (bytes ++ more) a c
  in_join bytes more a b c first later = record {
    pieces = first.pieces ++ later.pieces;
    are = ap (λ (l : List ℕ). l ++ more) first.are ∙ ap (λ (l : List ℕ). laid first.pieces ++ l) later.are ∙ sym (laid_more first.pieces later.pieces);
    rounds = rounds_join first.pieces later.pieces a b c first.rounds later.rounds;
  }

  -- the front of what is left of a piece is served
  pub in_next : (piece front rest : List ℕ) (count : ℕ) (a b c : Site C D) → InRounds does told settled front a b → piece ≡ front ++ rest
      → Round does told settled (take count rest) b c → InRounds does told settled (front ++ take count rest) a c
  in_next piece front rest count a b c first is round = in_join front (take count rest) a b c first (in_one (take count rest) b c round)

  -- ---- what a crash leaves

  first_round : (piece : List ℕ) (pieces : List (List ℕ)) (old mid : Site C D) → Round does told settled piece old mid → (c : List ℕ)
      → IsEither old.state mid.state c → IsAfterRounds does told settled (piece ∷ pieces) old c
  first_round piece pieces old mid one c (inl stands) = record { count = 0; within = omega arith; mid = old; first = refl; stands = stands }
  first_round piece pieces old mid one c (inr stands) =
      record { count = 1; within = omega arith; mid = mid; first = (mid, one, refl); stands = stands }

  pub crash : (pieces : List (List ℕ)) (old new : Site C D) → ((s : Site C D) (c : List ℕ) → settled s.state s.disk → MayLeave (told s.disk) c → StandsFor c s.state)
      → settled old.state old.disk → AreRounds does told settled pieces old new
      → LeavesOnly (told old.disk) (told new.disk) (IsAfterRounds does told settled pieces old)
  crash [] old new stands rests same =
      subst (λ (s : Site C D). LeavesOnly (told old.disk) (told s.disk) (IsAfterRounds does told settled [] old)) (sym same)
      (started (told old.disk) (IsAfterRounds does told settled [] old)
      (λ c left. record { count = 0; within = omega arith; mid = old; first = refl; stands = stands old c rests left }))
  crash (piece ∷ pieces) old new stands rests (mid, one, more) =
      then_on (told old.disk) (told mid.disk) (told new.disk) (IsAfterRounds does told settled (piece ∷ pieces) old)
      (weaken (told old.disk) (told mid.disk) (IsEither old.state mid.state) (IsAfterRounds does told settled (piece ∷ pieces) old) one.moments
      (λ c either. first_round piece pieces old mid one c either))
      (weaken (told mid.disk) (told new.disk) (IsAfterRounds does told settled pieces mid) (IsAfterRounds does told settled (piece ∷ pieces) old)
      (crash pieces mid new stands one.on_disk more)
      (λ c is. record { count = suc is.count; within = omega (arith, is.within); mid = is.mid; first = (mid, one, is.first); stands = is.stands }))

  module _ (ends : Ending C) where
    pub last_of : (answers : List ℕ) (c c' : C) (s t u : State) (w v : Option (List ℕ)) (d e : D) → ends c s c' t answers → u ≡ t
        → LeavesOnly (told d) (told e) (IsEither s t) → settled u e → Appends w v answers
        → LastRound does told settled ends (on c s w d) (on c' u v e)
    last_of answers c c' s t u w v d e done same moments on_disk written = record {
      answers = answers;
      done = subst (λ (x : State). ends c s c' x answers) (sym same) done;
      moments = subst (λ (x : State). LeavesOnly (told d) (told e) (IsEither s x)) (sym same) moments;
      on_disk = on_disk;
      written = written;
    }

    module _ (stops : Stopping C) where
      -- ---- one breaks off

      pub stops_answered : (bytes answers : List ℕ) (left : Option (List ℕ)) (c c' : C) (s t u : State) (w v : Option (List ℕ)) (d e : D)
          (why : ServeFault) → stops c s bytes left c' t answers why → u ≡ t → LeavesOnly (told d) (told e) (IsEither s t) → settled u e
          → Appends w v answers → Breaks does told settled ends stops bytes left (on c s w d) (on c' u v e) why
      stops_answered bytes answers left c c' s t u w v d e why stopped same moments on_disk written =
          Answered answers (subst (λ (x : State). stops c s bytes left c' x answers why) (sym same) stopped)
          (subst (λ (x : State). LeavesOnly (told d) (told e) (IsEither s x)) (sym same) moments) on_disk written

      begun_at : (bytes answers : List ℕ) (left : Option (List ℕ)) (c c' : C) (s t u : State) (w w' v v' : Option (List ℕ)) (d d' e e' : D)
          → IsBegun does told settled ends stops bytes left (on c s w' d') (on c' t v' e') answers → u ≡ t
          → IsBegun does told settled ends stops bytes left (on c s w d) (on c' u v e) answers
      begun_at bytes answers left c c' s t u w w' v v' d d' e e' (Done count done) same = Done count (subst (λ (x : State). does c s (take count bytes) c' x answers) (sym same) done)
      begun_at bytes answers left c c' s t u w w' v v' d d' e e' (Ended done) same =
          Ended (subst (λ (x : State). ends c s c' x answers) (sym same) done)
      begun_at bytes answers left c c' s t u w w' v v' d d' e e' (Stopped why stopped) same =
          Stopped why (subst (λ (x : State). stops c s bytes left c' x answers why) (sym same) stopped)

      pub stops_unsent : (bytes answers : List ℕ) (left : Option (List ℕ)) (c c' : C) (s t u : State) (w w' v v' : Option (List ℕ)) (d d' e e' : D)
          (why : ServeFault) → IsBegun does told settled ends stops bytes left (on c s w' d') (on c' t v' e') answers → u ≡ t
          → LeavesOnly (told d) (told e) (IsEither s t) → IsUnsent why w v → (why ≡ fault.Write → settled u e)
          → Breaks does told settled ends stops bytes left (on c s w d) (on c' u v e) why
      stops_unsent bytes answers left c c' s t u w w' v v' d d' e e' why begun same moments unsent on_disk =
          Unsent answers (begun_at bytes answers left c c' s t u w w' v v' d d' e e' begun same) unsent
          (subst (λ (x : State). LeavesOnly (told d) (told e) (IsEither s x)) (sym same) moments) on_disk

      -- whether what was asked for is done or stopped, it was begun
      pub begun_in : (bytes answers : List ℕ) (left : Option (List ℕ)) (c c' : C) (s t : State) (w v : Option (List ℕ)) (d e : D) (r : Result ℕ ServeFault)
          → IfOk r (λ count. does c s (take count bytes) c' t answers) → IfErr r (stops c s bytes left c' t answers)
          → IsBegun does told settled ends stops bytes left (on c s w d) (on c' t v e) answers
      begun_in bytes answers left c c' s t w v d e (Ok count) done stopped = Done count done
      begun_in bytes answers left c c' s t w v d e (Err why) done stopped = Stopped why stopped

      pub begun_at_rest : {T : Type 0} (answers : List ℕ) (left : Option (List ℕ)) (c c' : C) (s t : State) (w v : Option (List ℕ)) (d e : D)
          (r : Result T ServeFault) → OnOk r (does c s [] c' t answers) → IfErr r (stops c s [] left c' t answers)
          → IsBegun does told settled ends stops [] left (on c s w d) (on c' t v e) answers
      begun_at_rest answers left c c' s t w v d e (Ok x) done stopped = Done 0 done
      begun_at_rest answers left c c' s t w v d e (Err why) done stopped = Stopped why stopped

      pub begun_at_end : {T : Type 0} (answers : List ℕ) (left : Option (List ℕ)) (c c' : C) (s t : State) (w v : Option (List ℕ)) (d e : D)
          (r : Result T ServeFault) → OnOk r (ends c s c' t answers) → IfErr r (stops c s [] left c' t answers)
          → IsBegun does told settled ends stops [] left (on c s w d) (on c' t v e) answers
      begun_at_end answers left c c' s t w v d e (Ok x) done stopped = Ended done
      begun_at_end answers left c c' s t w v d e (Err why) done stopped = Stopped why stopped

      pub off_here : (bytes : List ℕ) (left : Option (List ℕ)) (a b : Site C D) (why : ServeFault) → Breaks does told settled ends stops bytes left a b why
          → BreaksOff does told settled ends stops bytes left a b why
      off_here bytes left a b why breaks = record { first = []; rest = bytes; are = refl; mid = a; served = in_none a; breaks = breaks }

      -- behind bytes that are served
      pub off_later : (bytes more all : List ℕ) (left : Option (List ℕ)) (a b c : Site C D) (why : ServeFault) → InRounds does told settled bytes a b
          → BreaksOff does told settled ends stops more left b c why → all ≡ bytes ++ more → BreaksOff does told settled ends stops all left a c why
      off_later bytes more all left a b c why served off is = record {
        first = bytes ++ off.first;
        rest = off.rest;
        are = is ∙ ap (λ (l : List ℕ). bytes ++ l) off.are ∙ sym (append_assoc bytes off.first off.rest);
        mid = off.mid;
        served = in_join bytes off.first a b off.mid served off.served;
        breaks = off.breaks;
      }

      -- nothing more is done, and all is on the disk
      pub stops_at_rest : (left : Option (List ℕ)) (c : C) (s : State) (w : Option (List ℕ)) (d : D) (why : ServeFault) → stops c s [] left c s [] why
          → ((file : List ℕ) → MayLeave (told d) file → StandsFor file s) → settled s d
          → Breaks does told settled ends stops [] left (on c s w d) (on c s w d) why
      stops_at_rest left c s w d why stopped stands on_disk =
          Answered [] stopped (started (told d) (IsEither s s) (λ file may. inl (stands file may))) on_disk (Appends-nil w)

      unsent_by : (w : Option (List ℕ)) (why : ServeFault) → (why ≡ fault.Disk) ⊎ (why ≡ fault.Memory) → IsUnsent why w w
      unsent_by w why (inl is) = subst (λ (x : ServeFault). IsUnsent x w w) (sym is) refl
      unsent_by w why (inr is) = subst (λ (x : ServeFault). IsUnsent x w w) (sym is) refl

      unwritten_by : (why : ServeFault) → (why ≡ fault.Disk) ⊎ (why ≡ fault.Memory) → why ≡ fault.Write → ⊥
      unwritten_by why (inl is) write = absurd (disk_writes (sym is ∙ write))
      unwritten_by why (inr is) write = absurd (memory_writes (sym is ∙ write))

      -- a journal can't be folded
      pub fold_breaks : (left : Option (List ℕ)) (c : C) (s t : State) (w : Option (List ℕ)) (d e : D) (why : ServeFault) → does c s [] c s [] → t ≡ s
          → LeavesOnly (told d) (told e) (λ file. StandsFor file s) → (why ≡ fault.Disk) ⊎ (why ≡ fault.Memory)
          → Breaks does told settled ends stops [] left (on c s w d) (on c t w e) why
      fold_breaks left c s t w d e why stays same moments is =
          stops_unsent [] [] left c c s s t w w w w d d e e why (Done 0 stays) same
          (weaken (told d) (told e) (λ file. StandsFor file s) (IsEither s s) moments (λ file is. inl is)) (unsent_by w why is)
          (λ write. absurd (unwritten_by why is write))
