-- What a crash leaves while the calls are made that wait.
use Rattle.std.proofs.Common.{ℕ, Bool, true, false, map, Result, Ok, Err, OnOk, ◌≡◌, ◌≤◌, ◌+◌, ◌⊎◌, inl, inr, ⊎_elim, List, [], ◌∷◌, ◌++◌, reverse, refl, sym, ap, subst, ◌∙◌, append_assoc, arith}
use Rattle.std.proofs.lemmas.List.{reverse-append}
use Rattle.stored_file.specs.File.{LeavesOnly, MayLeave}
use Rattle.stored_file.specs.Calls.{Call, LeftBehind, NotReplaced, Replaced}
use Rattle.stored_file.proofs.Moments.{then_on, weaken}
use Rattle.device_meaning.specs.State.{State}
use Rattle.durable_device.specs.Kept.{IsCommittedBut, IsEither, IsKept, MayBeLeft, StandsFor}
use Rattle.durable_device.specs.Machine.{IsDeviceBase, next_state, one_device}
use Rattle.durable_machine.proofs.Files.{as_before, one_state, rests_before}
use Rattle.durable_machine.proofs.Waiting.{all_committed}
use Rattle.durable_machine.specs.Seals.{events_of}
use Rattle.durable_machine.specs.declared.in_file.InFile.{InFile}
use Rattle.handed_file.specs.Handed.{made_calls, noted, told, told_of, waiting, waits}
use Rattle.handed_file.specs.Handing as handing
use Rattle.handed_file.specs.Handing.{has_refused}
use Rattle.handed_file.specs.Laws.{LeavesInTurn, WaitingCallsAreCovered}
use Rattle.handed_file.specs.declared.handed_file.FileCall.{FileCall}
use Rattle.handed_file.specs.declared.handed_file.HandedFile.{HandedFile}
use Rattle.tcp_device.specs.State.{ServedState}
use Rattle.tcp_device.specs.declared.keeper.Keeper.{Keeper}
use Rattle.tcp_loop.specs.Keeping.{Covers, IsCommitted, IsFolded, KeptState}
use Rattle.tcp_device.specs.FileCalls.{keeping_of, next_bytes}
use Rattle.tcp_device.specs.Kept.{Commits, Folds, KeepsUnlessFailed, WillBeKept, file_of}
use Rattle.tcp_device.specs.LoopMeaning.{in_memory, kept_in_file}

-- where a call succeeded
pub on_both : {T E A B C : Type 0} (r : Result T E) → OnOk r A → OnOk r B → (A → B → C) → OnOk r C
on_both (Ok done) a b so = so a b
on_both (Err error) a b so = tt

-- ---- a file of which other calls were told as made

pub same_kept : (device : State) (gate : ℕ) (old new : HandedFile) → noted new ≡ noted old → IsKept device gate (told old) → IsKept device gate (told new)
same_kept device gate old new same kept =
    as_before IsDeviceBase next_state device gate (told old) kept (told new)
    (record {
      seen = ap (λ (l : List Call). (told_of l).seen) same;
      left = λ c left. subst (λ (l : List Call). MayLeave (told_of l) c) same left;
      synced = λ c left. subst (λ (l : List Call). (told_of l).once_synced c) same left;
    })

pub same_but : (waiting : List ℕ) (device : State) (gate : ℕ) (old new : HandedFile) → noted new ≡ noted old
    → IsCommittedBut waiting device gate (told old) → IsCommittedBut waiting device gate (told new)
same_but waiting device gate old new same but = record {
  committed = but.committed;
  durable = same_kept but.committed gate old new same but.durable;
  events = but.events;
  sized = but.sized;
  are_spelled = but.are_spelled;
  leads = but.leads;
}

-- all is committed
pub will_be_kept : (keeper : Keeper (InFile HandedFile)) (device : State) → events_of keeper.events.waiting ≡ []
    → IsKept device keeper.events.journal.gate (told (file_of keeper)) → has_refused (noted (file_of keeper)) ≡ false → WillBeKept keeper device
will_be_kept keeper device none kept refused = record {
  kept = all_committed IsDeviceBase next_state (events_of keeper.events.waiting) device keeper.events.journal.gate (told (file_of keeper)) none kept;
  none_refused = refused;
}

-- ---- in the words of a loop

pub covers_of : (before s : ServedState) (waits made : List Call) → LeavesInTurn (IsEither before.device s.device) (λ c. StandsFor c s.device) waits made
    → Covers kept_in_file waits made before s
covers_of before s [] made turn = turn
covers_of before s (call ∷ waits) made turn = (turn.0, covers_of before s waits (call ∷ made) turn.1)

pub turn_of : (before s : ServedState) (waits made : List Call) → Covers kept_in_file waits made before s
    → LeavesInTurn (IsEither before.device s.device) (λ c. StandsFor c s.device) waits made
turn_of before s [] made covers = covers
turn_of before s (call ∷ waits) made covers = (covers.0, turn_of before s waits (call ∷ made) covers.1)

-- ---- calls in turn, and moments

made_first : (call : Call) (waits made : List Call) → reverse (call ∷ waits) ++ made ≡ reverse waits ++ call ∷ made
made_first call waits made =
    ap (λ (done : List Call). done ++ made) (reverse-append (call ∷ []) waits) ∙ append_assoc (reverse waits) (call ∷ []) made

later : (more made : List Call) → (told_of made).moment ≤ (told_of (more ++ made)).moment
later [] made = omega arith
later (call ∷ more) made = let rest : (told_of made).moment ≤ (told_of (more ++ made)).moment = later more made in omega (arith, rest)

module _ (P Q : List ℕ → Type 0) (only : (c : List ℕ) → Q c → P c) where
  at_first : (waits made : List Call) → LeavesInTurn P Q waits made → (c : List ℕ) → MayLeave (told_of made) c → P c
  at_first [] made turn c left = only c (turn c left)
  at_first (call ∷ waits) made turn c left = turn.0 c left

  -- at each moment since they began
  moments : (t : ℕ) (waits made : List Call) → ((c : List ℕ) → (told_of made).left_since t c → P c) → LeavesInTurn P Q waits made
      → (c : List ℕ) → (told_of (reverse waits ++ made)).left_since t c → P c
  moments t [] made so turn c left = so c left
  moments t (call ∷ waits) made so turn c left =
      moments t waits (call ∷ made)
      (λ d was. ⊎_elim
      (λ (before : (t ≤ (told_of made).moment) × (told_of made).left_since t d). so d before.1)
      (λ (now : (t ≤ (told_of made).moment + 1) × LeftBehind MayBeLeft call (told_of made) d). at_first waits (call ∷ made) turn.1 d (inr (omega arith, now.1)))
      was)
      turn.1 c (subst (λ (l : List Call). (told_of l).left_since t c) (made_first call waits made) left)

-- ---- what keeps a device

module _ (covered : WaitingCallsAreCovered) (old new : Keeper (InFile HandedFile)) (device : State)
    (kept : IsKept device new.events.journal.gate (told (file_of new)))
    (made : made_calls (file_of new) ≡ made_calls (file_of old))
    (order : noted (file_of old) ≡ reverse (waits (file_of old)) ++ made_calls (file_of old))
    (ordered : noted (file_of new) ≡ reverse (waits (file_of new)) ++ made_calls (file_of new)) where
  -- once all is made, a crash leaves the device
  last : (c : List ℕ) → MayLeave (told_of (reverse (waits (file_of new)) ++ made_calls (file_of new))) c → StandsFor c device
  last c left =
      rests_before IsDeviceBase next_state device new.events.journal.gate (told (file_of new)) kept c
      (subst (λ (l : List Call). MayLeave (told_of l) c) (sym ordered) left)

  -- where none waited, what was told is all
  all_told : waits (file_of old) ≡ [] → noted (file_of old) ≡ made_calls (file_of new)
  all_told none = order ∙ ap (λ (w : List Call). reverse w ++ made_calls (file_of old)) none ∙ sym made

  each_moment : (before : State) → waits (file_of old) ≡ [] → LeavesOnly (told (file_of old)) (told (file_of new)) (IsEither before device)
      → (c : List ℕ) → (told_of (reverse (waits (file_of new)) ++ made_calls (file_of new))).left_since (told_of (made_calls (file_of new))).moment c
      → IsEither before device c
  each_moment before none moments c left =
      moments.each c
      (subst (λ (l : List Call). (told_of (noted (file_of new))).left_since (told_of l).moment c) (sym (all_told none))
      (subst (λ (l : List Call). (told_of l).left_since (told_of (made_calls (file_of new))).moment c) (sym ordered) left))

  module _ (waiting : List ℕ) (gate : ℕ) (but : IsCommittedBut waiting device gate (told (file_of old)))
      (some : (c : List ℕ) × MayLeave (told (file_of old)) c)
      (only : LeavesOnly (told (file_of old)) (told (file_of new)) (IsEither but.committed device)) where
    -- the device that a crash left is the one that was committed
    is_before : (before : State) → waits (file_of old) ≡ [] → ((c : List ℕ) → MayLeave (told_of (made_calls (file_of old))) c → StandsFor c before)
        → but.committed ≡ before
    is_before before none left =
        one_state IsDeviceBase next_state one_device some.0 but.committed before
        (rests_before IsDeviceBase next_state but.committed gate (told (file_of old)) but.durable some.0 some.1)
        (left some.0 (subst (λ (l : List Call). MayLeave (told_of l) some.0) (all_told none ∙ made) some.1))

    pub commits : Commits old new device
    commits = record {
      made = made;
      covers = λ before none left.
          covered before device (waits (file_of new)) (made_calls (file_of new))
          (each_moment before none (subst (λ (b : State). LeavesOnly (told (file_of old)) (told (file_of new)) (IsEither b device)) (is_before before none left) only))
          last;
    }

  -- ---- a new file that was wanted

  module _ (only : LeavesOnly (told (file_of old)) (told (file_of new)) (λ c. StandsFor c device)) where
    begun : (told_of (made_calls (file_of new))).moment ≤ (told_of (noted (file_of old))).moment
    begun =
        subst (λ (l : List Call). (told_of (made_calls (file_of new))).moment ≤ (told_of l).moment) (sym order)
        (subst (λ (l : List Call). (told_of l).moment ≤ (told_of (reverse (waits (file_of old)) ++ made_calls (file_of old))).moment) (sym made)
        (later (reverse (waits (file_of old))) (made_calls (file_of old))))

    before_fold : (before : State) → LeavesInTurn (IsEither before device) (λ c. StandsFor c device) (waits (file_of old)) (made_calls (file_of old))
        → (c : List ℕ) → (told_of (noted (file_of old))).left_since (told_of (made_calls (file_of new))).moment c → IsEither before device c
    before_fold before turn c left =
        moments (IsEither before device) (λ d. StandsFor d device) (λ d stands. inr stands) (told_of (made_calls (file_of old))).moment
        (waits (file_of old)) (made_calls (file_of old))
        (λ d now. at_first (IsEither before device) (λ e. StandsFor e device) (λ e stands. inr stands) (waits (file_of old)) (made_calls (file_of old)) turn d now)
        turn c
        (subst (λ (l : List Call). (told_of l).left_since (told_of (made_calls (file_of old))).moment c) order
        (subst (λ (l : List Call). (told_of (noted (file_of old))).left_since (told_of l).moment c) made left))

    fold_moment : (before : State) → LeavesInTurn (IsEither before device) (λ c. StandsFor c device) (waits (file_of old)) (made_calls (file_of old))
        → (c : List ℕ) → (told_of (reverse (waits (file_of new)) ++ made_calls (file_of new))).left_since (told_of (made_calls (file_of new))).moment c
        → IsEither before device c
    fold_moment before turn c left =
        ⊎_elim (before_fold before turn c) (λ (now : StandsFor c device). inr now)
        (only.before (told_of (made_calls (file_of new))).moment c begun
        (subst (λ (l : List Call). (told_of l).left_since (told_of (made_calls (file_of new))).moment c) (sym ordered) left))

    pub folds : Folds old new device
    folds = record {
      made = made;
      covers = λ before turn. covered before device (waits (file_of new)) (made_calls (file_of new)) (fold_moment before turn) last;
    }

-- nothing is done
pub not_folded : (old new : Keeper (InFile HandedFile)) (device : State) → waits (file_of new) ≡ waits (file_of old)
    → made_calls (file_of new) ≡ made_calls (file_of old) → Folds old new device
not_folded old new device waits_same made_same = record {
  made = made_same;
  covers = λ before turn.
      subst (λ (w : List Call). LeavesInTurn (IsEither before device) (λ c. StandsFor c device) w (made_calls (file_of new))) (sym waits_same)
      (subst (λ (m : List Call). LeavesInTurn (IsEither before device) (λ c. StandsFor c device) (waits (file_of old)) m) (sym made_same) turn);
}

-- a commit, and a fold after it
pub committed_then : (old mid new : Keeper (InFile HandedFile)) (before device : State)
    → LeavesOnly (told (file_of old)) (told (file_of mid)) (IsEither before device)
    → LeavesOnly (told (file_of mid)) (told (file_of new)) (λ c. StandsFor c device)
    → LeavesOnly (told (file_of old)) (told (file_of new)) (IsEither before device)
committed_then old mid new before device first second =
    then_on (told (file_of old)) (told (file_of mid)) (told (file_of new)) (IsEither before device) first
    (weaken (told (file_of mid)) (told (file_of new)) (λ c. StandsFor c device) (IsEither before device) second (λ c stands. inr stands))

-- ---- what a loop is told

pub is_committed : (old new : Keeper (InFile HandedFile)) (s : ServedState) → Commits old new s.device
    → IsCommitted kept_in_file (record { state = s; file = keeping_of (file_of old) }) (record { state = s; file = keeping_of (file_of new) })
is_committed old new s commits = record {
  made = commits.made;
  covers = λ before settled.
      covers_of before s (waits (file_of new)) (made_calls (file_of new)) (commits.covers before.device settled.none settled.left);
}

pub is_folded : (is_put : Bool) (old new : Keeper (InFile HandedFile)) (s : ServedState) → Folds old new s.device
    → ((rest : List Call) → waits (file_of old) ≡ NotReplaced ∷ rest → is_put ≡ true
    → (more : List Call) × (waits (file_of new) ≡ NotReplaced ∷ Replaced (next_bytes (waiting (file_of old))) true ∷ more))
    → ((rest : List Call) → waits (file_of old) ≡ NotReplaced ∷ rest → is_put ≡ false → (more : List Call) × (waits (file_of new) ≡ NotReplaced ∷ more))
    → IsFolded kept_in_file is_put (record { state = s; file = keeping_of (file_of old) }) (record { state = s; file = keeping_of (file_of new) })
is_folded is_put old new s folds put not_put = record {
  made = folds.made;
  put = put;
  not_put = not_put;
  covers = λ before covers.
      covers_of before s (waits (file_of new)) (made_calls (file_of new))
      (folds.covers before.device (turn_of before s (waits (file_of old)) (made_calls (file_of old)) covers));
}

-- of calls that wait, the first is told as done
first_told : (calls : List FileCall) (old new : HandedFile) → waiting old ≡ calls
    → ((call : FileCall) (rest : List FileCall) → waiting old ≡ call ∷ rest
    → (waiting new ≡ rest) × (made_calls new ≡ handing.done_call call ∷ made_calls old))
    → (call : Call) (rest : List Call) → map handing.done_call calls ≡ call ∷ rest
    → (waits new ≡ rest) × (made_calls new ≡ call ∷ made_calls old)
first_told [] old new is told call rest first = absurd cc
first_told (one ∷ calls) old new is told call rest first =
    let done = told one calls is in
    let same : handing.done_call one ≡ call = cc in
    let others : map handing.done_call calls ≡ rest = cc in
    (ap (λ (l : List FileCall). map handing.done_call l) done.0 ∙ others, done.1 ∙ ap (λ (c : Call). c ∷ made_calls old) same)

pub is_told : (old new : HandedFile)
    → ((call : FileCall) (rest : List FileCall) → waiting old ≡ call ∷ rest
    → (waiting new ≡ rest) × (made_calls new ≡ handing.done_call call ∷ made_calls old))
    → (call : Call) (rest : List Call) → waits old ≡ call ∷ rest → (waits new ≡ rest) × (made_calls new ≡ call ∷ made_calls old)
is_told old new told call rest first = first_told (waiting old) old new refl told call rest first

-- it is kept all the same
pub still_kept : (failed : Bool) (old new : Keeper (InFile HandedFile)) (device : State) → events_of new.events.waiting ≡ events_of old.events.waiting
    → new.events.journal.gate ≡ old.events.journal.gate → noted (file_of new) ≡ noted (file_of old)
    → KeepsUnlessFailed failed old device → KeepsUnlessFailed failed new device
still_kept failed old new device waiting gate same keeps usable = record {
  kept =
      subst (λ (w : List ℕ). IsCommittedBut w device new.events.journal.gate (told (file_of new))) (sym waiting)
      (subst (λ (g : ℕ). IsCommittedBut (events_of old.events.waiting) device g (told (file_of new))) (sym gate)
      (same_but (events_of old.events.waiting) device old.events.journal.gate (file_of old) (file_of new) same (keeps usable).kept));
  none_refused = ap has_refused same ∙ (keeps usable).none_refused;
}

-- nothing is asked of a file to which a device in memory is saved at the end
pub in_memory_covers : (before s : ServedState) (waits made : List Call) → Covers in_memory waits made before s
in_memory_covers before s [] made = λ c left. tt
in_memory_covers before s (call ∷ waits) made = ((λ c left. inl tt), in_memory_covers before s waits (call ∷ made))

pub in_memory_committed : (old new : KeptState ServedState) → new.file.made ≡ old.file.made → IsCommitted in_memory old new
in_memory_committed old new made = record {
  made = made;
  covers = λ before settled. in_memory_covers before old.state new.file.waits new.file.made;
}

pub in_memory_not_folded : (now : KeptState ServedState) → IsFolded in_memory false now now
in_memory_not_folded now = record {
  made = refl;
  put = λ rest first put. absurd cc;
  not_put = λ rest first not_put. (rest, first);
  covers = λ before covers. covers;
}

-- a device whose file was opened by calls that are all told as done
pub begins : (file : HandedFile) (device : State) (gate : ℕ) (s : ServedState) → s.device ≡ device → IsKept device gate (told file)
    → noted file ≡ reverse (waits file) ++ made_calls file → waits file ≡ [] → Covers kept_in_file (waits file) (made_calls file) s s
begins file device gate s same kept order none =
    subst (λ (w : List Call). Covers kept_in_file w (made_calls file) s s) (sym none)
    (λ c left. subst (λ (d : State). StandsFor c d) (sym same)
    (rests_before IsDeviceBase next_state device gate (told file) kept c
    (subst (λ (l : List Call). MayLeave (told_of l) c) (sym (order ∙ ap (λ (w : List Call). reverse w ++ made_calls file) none)) left)))

-- where a call succeeded
pub on_ok : {T E A B : Type 0} (r : Result T E) → OnOk r A → (A → B) → OnOk r B
on_ok (Ok done) a so = so a
on_ok (Err error) a so = tt

-- what was known of a file is known of it after other things happened that it doesn't note
pub from_same : (old mid new : HandedFile) (P : List ℕ → Type 0) → noted mid ≡ noted old → made_calls mid ≡ made_calls old
    → LeavesOnly (told mid) (told new) P → LeavesOnly (told old) (told new) P
from_same old mid new P same told_same only = record {
  later = subst (λ (l : List Call). (told_of l).moment ≤ (told new).moment) same only.later;
  each = λ c left. only.each c (subst (λ (l : List Call). (told new).left_since (told_of l).moment c) (sym same) left);
  before = λ t c le left.
      subst (λ (l : List Call). (told_of l).left_since t c ⊎ P c) same
      (only.before t c (subst (λ (l : List Call). t ≤ (told_of l).moment) (sym same) le) left);
  made = only.made ∙ told_same;
}
