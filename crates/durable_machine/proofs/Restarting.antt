-- What is opened after an earlier program.
use Rattle.std.proofs.Common.{IfOk, IfErr, Result, Ok, Err, ◌≡◌, ◌⊎◌, inl, inr, ⊎_elim, ◌≤◌, ◌+◌, ℕ, Bool, List, [], ◌∷◌, ◌++◌, length, take, drop, refl, sym, ◌∙◌, ap, subst, arith, append_assoc, length-append}
use Rattle.std.proofs.lemmas.List.{take_at, drop_at}
use Rattle.stored_file.specs.File.{FileState, IsAsBefore, IsWhole, LeavesNow, LeavesOnly, MayLeave}
use Rattle.stored_file.proofs.Moments.{then_on, weaken}
use Rattle.durable_machine.specs.Journal.{AreFrames, StandsFor}
use Rattle.durable_machine.specs.LastBatch.{IsLast, IsSameBut}
use Rattle.durable_machine.proofs.Frames.{no_further, one_list_of_batches, same_length}
use Rattle.durable_machine.proofs.Repairing.{end_within, offset_whole, room, same_front, same_itself, stands_either, stands_none, stands_same}
use Rattle.durable_machine.specs.Runs.{state_again}
use Rattle.durable_machine.specs.Files.{IsState, KeepsState, joined}
use Rattle.durable_machine.specs.Refused.{HasNoState, IsDamaged, IsUndone, IsUntouched, Refuses}
use Rattle.durable_machine.specs.declared.fault.Fault.{Fault}
use Rattle.durable_machine.specs.declared.fault.Fault.TheVariants.{Unreadable, Damaged, Undone, OfFile}
use Rattle.durable_machine.specs.Restart.{IsReplayed, IsRestarted, KeepsRestarted, LacksBatch, LeavesFound, MayBeLeft}
use Rattle.durable_machine.proofs.Files.{again-push, end_whole, keeps_itself, keeps_state, one_front}

-- a gate's bytes are whole sectors
pub gate_size_whole : (last end n : ℕ) → (n ≡ 4096) ⊎ ((last ≡ end) × (n ≡ 0)) → IsWhole n
gate_size_whole last end n (inl whole) = omega (arith, whole)
gate_size_whole last end n (inr none) = omega (arith, none.1)

-- ---- what a call came to

pub ok_so : {T E : Type 0} (r : Result T E) (P Q : T → Type 0) → IfOk r P → ((t : T) → P t → Q t) → IfOk r Q
ok_so (Ok t) P Q is so = so t is
ok_so (Err e) P Q is so = tt

pub err_so : {T E : Type 0} (r : Result T E) (P Q : E → Type 0) → IfErr r P → ((e : E) → P e → Q e) → IfErr r Q
err_so (Ok t) P Q is so = tt
err_so (Err e) P Q is so = so e is

-- ---- the last of some batches

first_of : (xs ys : List (List (List ℕ))) (x y : List (List ℕ)) → xs ++ x ∷ [] ≡ ys ++ y ∷ [] → xs ≡ ys
first_of [] [] x y is = refl
first_of [] (w ∷ ys) x y is = absurd (omega (arith, ap length is, length-append ys (y ∷ [])))
first_of (z ∷ xs) [] x y is = absurd (omega (arith, ap length is, length-append xs (x ∷ [])))
first_of (z ∷ xs) (w ∷ ys) x y is = cc (first_of xs ys x y (ap (λ (l : List (List (List ℕ))). drop 1 l) is), heads is)
  where
    heads : {l m : List (List (List ℕ))} → z ∷ l ≡ w ∷ m → z ≡ w
    heads is = cc

-- it begins in one place
one_last : (begin : ℕ) (bs cs : List (List (List ℕ))) (f g : List ℕ) (m n : ℕ) → bs ≡ cs → f ≡ g → IsLast begin bs f m → IsLast begin cs g n → m ≡ n
one_last begin bs cs f g m n same frames (inl none) (inl nothing) = none.1 ∙ ap length frames ∙ sym nothing.1
one_last begin bs cs f g m n same frames (inl none) (inr l) = absurd (omega (arith, ap length (sym none.0 ∙ same ∙ l.all), length-append l.before (l.batch ∷ [])))
one_last begin bs cs f g m n same frames (inr l) (inl none) = absurd (omega (arith, ap length (sym none.0 ∙ sym same ∙ l.all), length-append l.before (l.batch ∷ [])))
one_last begin bs cs f g m n same frames (inr a) (inr b) =
    let before : a.before ≡ b.before = first_of a.before b.before a.batch b.batch (sym a.all ∙ same ∙ b.all) in
    let size : length a.first ≡ length b.first =
    same_length begin b.before a.first b.first a.frame b.frame (subst (λ (l : List (List (List ℕ))). AreFrames begin l a.first) before a.are) b.are (sym a.parts ∙ frames ∙ b.parts) in
    omega (arith, size, a.begins, b.begins)

module _ {S : Type 0} (loads : List ℕ → S → Type 0) (next : S → Bool → List ℕ → S) (one : (a b x y : List ℕ) (s t : S) → loads a s → loads b t → a ++ x ≡ b ++ y → (a ≡ b) × (s ≡ t)) where
  -- a file is read in one way
  same_gate : (file : List ℕ) (end n last m : ℕ) (s t : S) → IsReplayed loads next end last file s → IsReplayed loads next n m file t → (end ≡ n) × (last ≡ m)
  same_gate file end n last m s t x y =
      let a = x.is in
      let b = y.is in
      let fronts = one_front loads next one a.front b.front (a.has.frames ++ a.has.rest) (b.has.frames ++ b.has.rest) a.first b.first a.begins b.begins
      (sym (append_assoc a.front a.has.frames a.has.rest) ∙ sym a.has.parts ∙ b.has.parts ∙ append_assoc b.front b.has.frames b.has.rest) in
      let behind : a.has.frames ++ a.has.rest ≡ b.has.frames ++ b.has.rest =
      sym (drop_at a.front (a.has.frames ++ a.has.rest) (length a.front) refl)
      ∙ ap (λ (l : List ℕ). drop (length a.front) l) (sym (append_assoc a.front a.has.frames a.has.rest) ∙ sym a.has.parts ∙ b.has.parts ∙ append_assoc b.front b.has.frames b.has.rest)
      ∙ drop_at b.front (b.has.frames ++ b.has.rest) (length a.front) (sym (ap length fronts.0)) in
      let are : AreFrames (length a.front) b.batches b.has.frames = subst (λ (l : List ℕ). AreFrames (length l) b.batches b.has.frames) (sym fronts.0) b.has.are in
      let same = one_list_of_batches (length a.front) a.batches b.batches a.has.frames b.has.frames a.has.rest b.has.rest (length a.front + length a.has.frames) (length a.front + length b.has.frames) a.has.are are
      (no_further (length a.front + length a.has.frames) a.has.rest a.has.last) (no_further (length a.front + length b.has.frames) b.has.rest b.has.last) refl refl behind in
      let size : length a.has.frames ≡ length b.has.frames =
      omega (arith, ap length behind, ap length same.1, length-append a.has.frames a.has.rest, length-append b.has.frames b.has.rest) in
      let frames : a.has.frames ≡ b.has.frames =
      sym (take_at a.has.frames a.has.rest (length a.has.frames) refl) ∙ ap (λ (l : List ℕ). take (length a.has.frames) l) behind ∙ take_at b.has.frames b.has.rest (length a.has.frames) (sym size) in
      let offsets : x.offset ≡ y.offset =
      one_last (length a.front) a.batches b.batches a.has.frames b.has.frames x.offset y.offset same.0 frames x.gate (subst (λ (l : List ℕ). IsLast (length l) b.batches b.has.frames y.offset) (sym fronts.0) y.gate) in (
        omega (arith, a.has.ends, b.has.ends, size, ap length fronts.0, length-append a.front a.has.frames, length-append b.front b.has.frames),
        omega (arith, x.last_is, y.last_is, offsets, ap length fronts.0),
      )

  -- ---- a file that was read

  module _ (file : List ℕ) (end last : ℕ) (s : S) (found : IsReplayed loads next end last file s) where
    -- a sector for the gate, or none
    pub gate_room : (last ≡ end) ⊎ (last + 4096 ≤ end)
    gate_room = of found.gate
      where
        of : IsLast (length found.is.front) found.is.batches found.is.has.frames found.offset → (last ≡ end) ⊎ (last + 4096 ≤ end)
        of (inl none) = inl (omega (arith, found.last_is, none.1, found.is.has.ends, length-append found.is.front found.is.has.frames))
        of (inr l) = inr (let long = room found.is.front found.is.batches end file found.is.has found.offset l in omega (arith, long, found.last_is))

    pub gate_within : last ≤ end
    gate_within = of gate_room
      where
        of : (last ≡ end) ⊎ (last + 4096 ≤ end) → last ≤ end
        of (inl same) = omega (arith, same)
        of (inr more) = omega (arith, more)

    pub end_there : end ≤ length file
    end_there = end_within found.is.front found.is.batches end file found.is.has

    pub end_at_sector : IsWhole end
    end_at_sector = (end_whole loads next end file s found.is).0

    pub gate_whole : IsWhole last
    gate_whole = of found.gate
      where
        of : IsLast (length found.is.front) found.is.batches found.is.has.frames found.offset → IsWhole last
        of (inl none) = (let same : last ≡ end = omega (arith, found.last_is, none.1, found.is.has.ends, length-append found.is.front found.is.has.frames) in subst IsWhole (sym same) end_at_sector)
        of (inr l) = (let whole = offset_whole found.is.front found.is.batches end file found.is.has found.offset l (end_whole loads next end file s found.is).1 in subst IsWhole (sym found.last_is) whole)

    -- so many bytes of it are written again
    abbrev pub IsGateSize : ℕ → Type 0
    IsGateSize n = (n ≡ 4096) ⊎ ((last ≡ end) × (n ≡ 0))

    -- where there is no gate, all up to the end is the same
    none_differs : (m n : ℕ) (c : List ℕ) → last ≡ end → IsSameBut last m end file c → IsSameBut last n end file c
    none_differs m n c none is =
        same_front last n end file gate_within c is.no_shorter (ap (λ (k : ℕ). take k c) (sym none) ∙ is.before ∙ ap (λ (k : ℕ). take k file) none) is.last

    resize : (n : ℕ) → IsGateSize n → (c : List ℕ) → IsSameBut last 4096 end file c → IsSameBut last n end file c
    resize n (inl whole) c is = subst (λ (k : ℕ). IsSameBut last k end file c) (sym whole) is
    resize n (inr none) c is = none_differs 4096 n c none.0 is

    resized : (n : ℕ) → IsGateSize n → (c : List ℕ) → IsSameBut last n end file c → IsSameBut last 4096 end file c
    resized n (inl whole) c is = subst (λ (k : ℕ). IsSameBut last k end file c) whole is
    resized n (inr none) c is = none_differs n 4096 c none.0 is

    itself : (n : ℕ) (c : List ℕ) → c ≡ file → IsSameBut last n end file c
    itself n c same = same_itself found.is.front found.is.batches end file found.is.has last n gate_within c same

    pub left_same : (n : ℕ) → IsGateSize n → (c : List ℕ) → MayBeLeft loads next file c → IsSameBut last n end file c
    left_same n size c (inl same) = itself n c same
    left_same n size c (inr lacks) =
        let ways = same_gate file end lacks.end last lacks.last s lacks.s found lacks.is in
        resize n size c (subst (λ (k : ℕ). IsSameBut last 4096 k file c) (sym ways.0) (subst (λ (k : ℕ). IsSameBut k 4096 lacks.end file c) (sym ways.1) lacks.same))

    pub same_left : (n : ℕ) → IsGateSize n → (c : List ℕ) → IsSameBut last n end file c → MayBeLeft loads next file c
    same_left n size c same = inr (record { end = end; last = last; s = s; is = found; same = resized n size c same })

    pub keeps : (c : List ℕ) → IsSameBut last 0 end file c → KeepsState loads next file c
    keeps c same = keeps_state loads next one end file c s found.is (stands_same found.is.front found.is.batches end file found.is.has last gate_within c same)

  -- ---- a file of which nothing is done

  pub same_file : (file : FileState) → IsAsBefore file file
  same_file file = record { seen = refl; left = λ c left. left; synced = λ c is. is }

  pub no_moment : (file : FileState) → LeavesOnly file file (MayLeave file)
  no_moment file = record { later = omega arith; each = λ c left. left; before = λ t c until left. inl left; made = refl }

  -- ---- the file, while it is opened

  module _ (old read : FileState) (same : IsAsBefore old read) (reading : LeavesOnly old read (MayLeave old)) (restarted : IsRestarted loads next old) where
    -- it is only read
    pub read_only : KeepsRestarted loads next old read
    read_only = record {
      moments = weaken old read (MayLeave old) (λ c. MayBeLeft loads next old.seen c ⊎ KeepsState loads next old.seen c) reading (λ c left. inl (restarted.left c left));
      kept = λ disk. weaken old read (MayLeave old) (KeepsState loads next old.seen) reading (λ c left. keeps_itself loads next one old.seen c (disk.left c left));
    }

    pub untouched : HasNoState loads next old.seen → IsUntouched old read
    untouched none = record {
      seen = same.seen;
      any_moment = weaken old read (MayLeave old) (λ c. c ≡ old.seen) reading (λ c left. either c (restarted.left c left));
    }
      where
        either : (c : List ℕ) → MayBeLeft loads next old.seen c → c ≡ old.seen
        either c (inl is) = is
        either c (inr lacks) = absurd (none lacks.s (lacks.end, lacks.is.is))

    -- what is read of it is what an earlier program may have left
    pub read_restarted : IsRestarted loads next read
    read_restarted = subst (λ (l : List ℕ). LeavesNow read (MayBeLeft loads next l)) (sym same.seen) (record {
      left = λ c left. restarted.left c (same.left c left);
      synced = λ c is. restarted.synced c (same.synced c is);
    })

    -- and what is done then, is done with the file
    pub reads_on : (new : FileState) → KeepsRestarted loads next read new → KeepsRestarted loads next old new
    reads_on new leaves = record {
      moments = then_on old read new (λ c. MayBeLeft loads next old.seen c ⊎ KeepsState loads next old.seen c) read_only.moments
          (subst (λ (l : List ℕ). LeavesOnly read new (λ c. MayBeLeft loads next l c ⊎ KeepsState loads next l c)) same.seen leaves.moments);
      kept = λ disk. then_on old read new (KeepsState loads next old.seen) (read_only.kept disk)
          (subst (λ (l : List ℕ). LeavesOnly read new (KeepsState loads next l)) same.seen (leaves.kept (record {
            left = λ c left. disk.left c (same.left c left) ∙ sym same.seen;
            synced = λ c is. disk.synced c (same.synced c is) ∙ sym same.seen;
          })));
    }

    reads_untouched : (new : FileState) → HasNoState loads next old.seen → IsUntouched read new → IsUntouched old new
    reads_untouched new none is = record {
      seen = is.seen ∙ same.seen;
      any_moment = then_on old read new (λ c. c ≡ old.seen) (untouched none).any_moment (subst (λ (l : List ℕ). LeavesOnly read new (λ c. c ≡ l)) same.seen is.any_moment);
    }

    pub refuses_read : (new : FileState) (fault : Fault) → old.faults ≤ read.faults → Refuses loads next read new fault → Refuses loads next old new fault
    refuses_read new Unreadable later (none, is) =
        let no_state = subst (HasNoState loads next) same.seen none in
        (no_state, reads_untouched new no_state is)
    refuses_read new (Damaged n) later (damaged, none, is) =
        let no_state = subst (HasNoState loads next) same.seen none in
        (subst (IsDamaged loads next n) same.seen damaged, no_state, reads_untouched new no_state is)
    refuses_read new (Undone n) later (undone, is) = (subst (IsUndone loads next n) same.seen undone, is ∙ same.seen)
    refuses_read new (OfFile error) later is = (λ failed. let more = is.0 failed in omega (arith, later, more), λ full. let more = is.1 full in omega (arith, later, more))

    module _ (end last n : ℕ) (s : S) (found : IsReplayed loads next end last old.seen s) (size : IsGateSize old.seen end last s found n) where
      pub repairs_left : LeavesNow read (IsSameBut last n end read.seen)
      repairs_left = subst (λ (l : List ℕ). LeavesNow read (IsSameBut last n end l)) (sym same.seen) (record {
        left = λ c left. left_same old.seen end last s found n size c (restarted.left c (same.left c left));
        synced = λ c is. left_same old.seen end last s found n size c (restarted.synced c (same.synced c is));
      })

      pub opened : (new : FileState) → LeavesOnly read new (IsSameBut last n end read.seen)
          → (LeavesNow read (IsSameBut last 0 end read.seen) → LeavesOnly read new (IsSameBut last 0 end read.seen)) → KeepsRestarted loads next old new
      opened new moments kept = record {
        moments = then_on old read new (λ c. MayBeLeft loads next old.seen c ⊎ KeepsState loads next old.seen c) read_only.moments
            (weaken read new (IsSameBut last n end old.seen) (λ c. MayBeLeft loads next old.seen c ⊎ KeepsState loads next old.seen c)
            (subst (λ (l : List ℕ). LeavesOnly read new (IsSameBut last n end l)) same.seen moments) (λ c is. inl (same_left old.seen end last s found n size c is)));
        kept = λ disk.
            then_on old read new (KeepsState loads next old.seen) (read_only.kept disk)
            (weaken read new (IsSameBut last 0 end old.seen) (KeepsState loads next old.seen)
            (subst (λ (l : List ℕ). LeavesNow read (IsSameBut last 0 end l) → LeavesOnly read new (IsSameBut last 0 end l)) same.seen kept
            (record {
              left = λ c left. itself old.seen end last s found 0 c (disk.left c (same.left c left));
              synced = λ c is. itself old.seen end last s found 0 c (disk.synced c (same.synced c is));
            }))
            (keeps old.seen end last s found));
      }

-- ---- what is left of a file that was found

module _ {S : Type 0} (loads : List ℕ → S → Type 0) (next : S → Bool → List ℕ → S) where
  -- what has P has Q
  pub found_weaker : (old new : FileState) (P Q : List ℕ → Type 0) → LeavesFound loads next old new P → ((c : List ℕ) → P c → Q c) → LeavesFound loads next old new Q
  found_weaker old new P Q leaves so = record {
    moments = weaken old new (λ c. MayBeLeft loads next old.seen c ⊎ P c) (λ c. MayBeLeft loads next old.seen c ⊎ Q c) leaves.moments
        (λ c. ⊎_elim (λ (left : MayBeLeft loads next old.seen c). inl left) (λ (has : P c). inr (so c has)));
    kept = λ disk. weaken old new P Q (leaves.kept disk) so;
  }

  -- one step after another
  pub found_then : (old mid new : FileState) (P : List ℕ → Type 0) → LeavesFound loads next old mid P → LeavesOnly mid new P → LeavesFound loads next old new P
  found_then old mid new P first second = record {
    moments = then_on old mid new (λ c. MayBeLeft loads next old.seen c ⊎ P c) first.moments (weaken mid new P (λ c. MayBeLeft loads next old.seen c ⊎ P c) second (λ c has. inr has));
    kept = λ disk. then_on old mid new P (first.kept disk) second;
  }

-- ---- what comes back

module _ {S : Type 0} (loads : List ℕ → S → Type 0) (next : S → Bool → List ℕ → S) where
  pub left_stands : (file c : List ℕ) (s : S) (end last : ℕ) (found : IsReplayed loads next end last file s) → IsSameBut last 4096 end file c
      → IsState loads next c s ⊎ LacksBatch loads next c s
  left_stands file c s end last found same = of found.gate
    where
      at_gate : IsSameBut (length found.is.front + found.offset) 4096 end file c
      at_gate = subst (λ (k : ℕ). IsSameBut k 4096 end file c) found.last_is same

      all : StandsFor found.is.front found.is.batches c → IsState loads next c s
      all stands = (stands.0, record { front = found.is.front; first = found.is.first; begins = found.is.begins; batches = found.is.batches; has = stands.1; leads = found.is.leads })

      of : IsLast (length found.is.front) found.is.batches found.is.has.frames found.offset → IsState loads next c s ⊎ LacksBatch loads next c s
      of (inl none) = inl (all (stands_none found.is.front found.is.batches end file found.is.has found.offset none.1 c at_gate))
      of (inr l) = ⊎_elim (λ (stands : StandsFor found.is.front found.is.batches c). inl (all stands))
          (λ (stands : StandsFor found.is.front l.before c).
          let before = state_again next (joined l.before) found.is.first in
          inr (record {
            before = before;
            is = (stands.0, record { front = found.is.front; first = found.is.first; begins = found.is.begins; batches = l.before; has = stands.1; leads = refl });
            batch = l.batch;
            leads = found.is.leads ∙ ap (λ (bs : List (List (List ℕ))). state_again next (joined bs) found.is.first) l.all
                ∙ sym (again-push next l.before l.batch found.is.first before (state_again next l.batch before) refl refl);
          }))
          (stands_either found.is.front found.is.batches end file found.is.has found.offset l c at_gate)
