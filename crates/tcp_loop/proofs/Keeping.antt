-- What is known of the file at each stage of a round, and what each operation makes of it.
use Rattle.std.proofs.Common.{ℕ, zero, suc, ◌≡◌, ◌⊎◌, Bool, true, false, if◌then◌else◌, List, [], ◌∷◌, ◌++◌, ◌&&◌, Some, refl, sym, ap, subst, ◌∙◌, inr, ⊎_elim, arith}
use Rattle.std.proofs.lemmas.Grind.{common_steps}
use Rattle.stored_file.specs.File.{MayLeave, is_written}
use Rattle.stored_file.specs.Calls as calls
use Rattle.stored_file.specs.Calls.{told_of}
use Rattle.tcp_loop.specs.Deeds.{AreDone, Deed, Meaning}
use Rattle.tcp_loop.specs.Disk.{NewFile, calls_by, is_done, named, new_file_by, no_file, seen_after, written}
use Rattle.tcp_loop.specs.Keeping.{Covers, IsCommitted, IsFolded, IsNext, IsSettled, IsToldDone, KeptState, Keeping, Leaves, done_call, new_call, wanted_by}
use Rattle.tcp_loop.specs.Kept.{Answered, Attending, Begun, Called, Committing, Due, Folding, IsAnswered, IsAsked, IsAtRest, IsKept, IsPlacing, IsToName, IsToPlace, IsUnderWay, Knows, Pending, Phase, Placing, Resting, Settled, Stopped, Told, after_call, after_part, not_made}
use Rattle.tcp_loop.specs.Law.{HasAnswered, sends, state_before}
use Rattle.tcp_loop.specs.Stages.{operation_of_call, operation_of_part}
use Rattle.tcp_loop.specs.declared.operation.Answer.{Answer}
use Rattle.tcp_loop.specs.declared.stage.Part.{Part}
use Rattle.tcp_loop.specs.declared.stage.Part.TheVariants as part
use Rattle.tcp_loop.specs.declared.target.Call.{Call}
use Rattle.tcp_loop.specs.declared.target.Call.TheVariants as call
use Rattle.tcp_loop.proofs.Knowing.{failed_leaves, half_placed_leaves, knows_more, knows_placed, knows_renewed, knows_wanted, knows_written, not_shortened_leaves, not_synced_leaves}
use Rattle.tcp_loop.proofs.Lists.{at_bool}

-- bytes are written to a file without any
written_anew : (bytes : List ℕ) → is_written 0 bytes [] ≡ bytes
written_anew bytes = grind (arith, common_steps)

-- the call for which a new file is made
new_is_wanted : (call : Call) (wants : Bool) (bytes : List ℕ) → wanted_by call ≡ Some wants → done_call call bytes ≡ new_call wants bytes
new_is_wanted (call.Write «at») wants bytes is = cc
new_is_wanted (call.Renew «at») wants bytes is = cc
new_is_wanted (call.Shorten len) wants bytes is = cc
new_is_wanted call.Sync wants bytes is = cc
new_is_wanted call.Replace true bytes is = cc
new_is_wanted call.Replace false bytes is = refl
new_is_wanted call.Want true bytes is = refl
new_is_wanted call.Want false bytes is = cc

module _ {State : Type 0} (m : Meaning State) where
  -- ---- at rest

  -- one more deed that sends nothing
  pub rests_more : (deed : Deed) (asked : List calls.Call) (file file' : Keeping) (deeds : List Deed) (begun s s' : State)
      (done : AreDone m deeds begun s) (did : m.does deed s s') → sends deed ≡ false → file' ≡ file
      → Knows m.may_be_left asked file.made × IsAtRest m file deeds begun s done
      → Knows m.may_be_left asked file'.made
      × IsAtRest m file' (deed ∷ deeds) begun s' (record { between = s; first = done; last = did })
  rests_more deed asked file file' deeds begun s s' done did silent same kept =
      subst (λ (f : Keeping). Knows m.may_be_left asked f.made
      × IsAtRest m f (deed ∷ deeds) begun s' (record { between = s; first = done; last = did })) (sym same)
      (kept.0, record { missing = suc kept.1.missing; unanswered = (silent, kept.1.unanswered); settled = kept.1.settled })

  -- all is committed, and nothing was done since
  pub settled_rests : (asked : List calls.Call) (beside : NewFile) (file : Keeping) (deeds : List Deed) (begun s : State) (done : AreDone m deeds begun s)
      → IsKept m Settled asked beside file deeds begun s done → IsKept m Resting asked beside file deeds begun s done
  settled_rests asked beside file deeds begun s done kept =
      (kept.0, record { missing = zero; unanswered = tt; settled = kept.1 })

  -- what was sent changes nothing that is kept
  pub settled_sent : (asked : List calls.Call) (file file' : Keeping) (s s' : State) → file' ≡ file
      → ((c : List ℕ) → m.stands_for c s → m.stands_for c s')
      → Knows m.may_be_left asked file.made × IsSettled m file s → Knows m.may_be_left asked file'.made × IsSettled m file' s'
  settled_sent asked file file' s s' same keeps kept =
      subst (λ (f : Keeping). Knows m.may_be_left asked f.made × IsSettled m f s') (sym same)
      (kept.0, record { none = kept.1.none; left = λ c now. keeps c (kept.1.left c now) })

  -- ---- what a crash leaves

  -- of calls, before the next is made
  covers_now : (waits made : List calls.Call) (before after : State) → Covers m waits made before after
      → Leaves m made (λ c. m.stands_for c before ⊎ m.stands_for c after)
  covers_now [] made before after covers = λ c now. inr (covers c now)
  covers_now (call ∷ waits) made before after covers = covers.0

  covers_next : (next : calls.Call) (rest waits made : List calls.Call) (before after : State) → waits ≡ next ∷ rest
      → Covers m waits made before after → Covers m rest (next ∷ made) before after
  covers_next next rest waits made before after is covers =
      let at_next : Covers m (next ∷ rest) made before after = subst (λ (w : List calls.Call). Covers m w made before after) is covers in
      at_next.1

  answered_by : (c : List ℕ) (file : Keeping) (deeds : List Deed) (begun s : State) (done : AreDone m deeds begun s) (u : IsUnderWay m file deeds begun s done)
      → m.stands_for c (state_before m u.missing deeds begun s done) ⊎ m.stands_for c s → HasAnswered m c deeds begun s done
  answered_by c file deeds begun s done u either =
      ⊎_elim
      (λ (was : m.stands_for c (state_before m u.missing deeds begun s done)). record { missing = u.missing; unanswered = u.unanswered; stands = was })
      (λ (now : m.stands_for c s). record { missing = zero; unanswered = tt; stands = now }) either

  under_way_leaves : (file : Keeping) (deeds : List Deed) (begun s : State) (done : AreDone m deeds begun s) → IsUnderWay m file deeds begun s done
      → Leaves m file.made (λ c. HasAnswered m c deeds begun s done)
  under_way_leaves file deeds begun s done u = λ c now.
      answered_by c file deeds begun s done u (covers_now file.waits file.made _ s u.covers c now)

  next_leaves : (next : calls.Call) (rest : List calls.Call) (file : Keeping) (deeds : List Deed) (begun s : State) (done : AreDone m deeds begun s)
      → file.waits ≡ next ∷ rest → IsUnderWay m file deeds begun s done → Leaves m (next ∷ file.made) (λ c. HasAnswered m c deeds begun s done)
  next_leaves next rest file deeds begun s done is u = λ c now.
      answered_by c file deeds begun s done u
      (covers_now rest (next ∷ file.made) _ s (covers_next next rest file.waits file.made _ s is u.covers) c now)

  asked_leaves : (next : calls.Call) (asked : List calls.Call) (file : Keeping) (deeds : List Deed) (begun s : State) (done : AreDone m deeds begun s)
      → IsAsked m next asked file deeds begun s done → Leaves m asked (λ c. HasAnswered m c deeds begun s done)
  asked_leaves next asked file deeds begun s done k = λ c now.
      under_way_leaves file deeds begun s done k.under_way c (k.knows.left c now)

  to_place_leaves : (asked : List calls.Call) (beside : NewFile) (file : Keeping) (deeds : List Deed) (begun s : State) (done : AreDone m deeds begun s)
      → IsToPlace m asked beside file deeds begun s done → Leaves m asked (λ c. HasAnswered m c deeds begun s done)
  to_place_leaves asked beside file deeds begun s done k =
      subst (λ (a : List calls.Call). Leaves m a (λ c. HasAnswered m c deeds begun s done)) (sym k.named)
      (λ c now. ⊎_elim
      (λ (was : MayLeave (told_of m.may_be_left file.made) c). under_way_leaves file deeds begun s done k.asks.under_way c was)
      (λ (put : MayLeave (told_of m.may_be_left (calls.Replaced k.bytes true ∷ file.made)) c).
      next_leaves (calls.Replaced k.bytes true) k.asks.rest file deeds begun s done k.asks.waits k.asks.under_way c put)
      (half_placed_leaves m.may_be_left k.bytes k.before file.made c k.asks.knows now))

  placing_leaves : (p : Part) (asked : List calls.Call) (beside : NewFile) (file : Keeping) (deeds : List Deed) (begun s : State) (done : AreDone m deeds begun s)
      → IsPlacing m p asked beside file deeds begun s done → Leaves m asked (λ c. HasAnswered m c deeds begun s done)
  placing_leaves (part.Made wants) asked beside file deeds begun s done k = asked_leaves _ asked file deeds begun s done k
  placing_leaves (part.Filled wants) asked beside file deeds begun s done k = asked_leaves _ asked file deeds begun s done k.0
  placing_leaves (part.Flushed wants) asked beside file deeds begun s done k = asked_leaves _ asked file deeds begun s done k.0
  placing_leaves part.Named asked beside file deeds begun s done k = asked_leaves _ asked file deeds begun s done k.asks
  placing_leaves part.Placed asked beside file deeds begun s done k = to_place_leaves asked beside file deeds begun s done k
  placing_leaves part.Discarded asked beside file deeds begun s done k = asked_leaves _ asked file deeds begun s done k

  -- in each phase it has all that was answered
  pub kept_leaves : (phase : Phase) (asked : List calls.Call) (beside : NewFile) (file : Keeping) (deeds : List Deed) (begun s : State) (done : AreDone m deeds begun s)
      → IsKept m phase asked beside file deeds begun s done → Leaves m asked (λ c. HasAnswered m c deeds begun s done)
  kept_leaves Resting asked beside file deeds begun s done k = λ c now.
      record { missing = k.1.missing; unanswered = k.1.unanswered; stands = k.1.settled.left c (k.0.left c now) }
  kept_leaves (Attending from) asked beside file deeds begun s done k = λ c now.
      record { missing = k.1.missing; unanswered = k.1.unanswered; stands = k.1.settled.left c (k.0.left c now) }
  kept_leaves Due asked beside file deeds begun s done k = λ c now.
      record { missing = k.1.missing; unanswered = k.1.unanswered; stands = k.1.settled.left c (k.0.left c now) }
  kept_leaves Begun asked beside file deeds begun s done k = λ c now. under_way_leaves file deeds begun s done k.1 c (k.0.left c now)
  kept_leaves Told asked beside file deeds begun s done k = λ c now. under_way_leaves file deeds begun s done k.1 c (k.0.left c now)
  kept_leaves Called asked beside file deeds begun s done k = λ c now.
      record { missing = zero; unanswered = tt; stands = k.1.left c (k.0.left c now) }
  kept_leaves Pending asked beside file deeds begun s done k = λ c now. under_way_leaves file deeds begun s done k.1 c (k.0.left c now)
  kept_leaves (Committing call) asked beside file deeds begun s done k = asked_leaves _ asked file deeds begun s done k.0
  kept_leaves Answered asked beside file deeds begun s done k = λ c now.
      next_leaves k.next k.rest file deeds begun s done k.waits k.under_way c (k.knows.left c now)
  kept_leaves (Placing p) asked beside file deeds begun s done k = placing_leaves p asked beside file deeds begun s done k
  kept_leaves Folding asked beside file deeds begun s done k = asked_leaves _ asked file deeds begun s done k.0
  kept_leaves Settled asked beside file deeds begun s done k = λ c now.
      record { missing = zero; unanswered = tt; stands = k.1.left c (k.0.left c now) }
  kept_leaves Stopped asked beside file deeds begun s done k = k

  -- ---- the calls of a commit

  -- what was done is committed once the calls are made that wait
  pub committed : (asked : List calls.Call) (beside : NewFile) (old new : KeptState State) (deeds : List Deed) (begun : State)
      (done : AreDone m deeds begun old.state) → IsCommitted m old new → IsKept m Resting asked beside old.file deeds begun old.state done
      → IsKept m Pending asked beside new.file deeds begun old.state done
  committed asked beside old new deeds begun done commits k = (
    subst (λ (made : List calls.Call). Knows m.may_be_left asked made) (sym commits.made) k.0,
    record { missing = k.1.missing; unanswered = k.1.unanswered; covers = commits.covers _ k.1.settled },
  )

  -- one of them is next
  pub next_known : (call : Call) (asked : List calls.Call) (beside : NewFile) (file : Keeping) (deeds : List Deed) (begun s : State)
      (done : AreDone m deeds begun s) → IsNext m call file → IsKept m Pending asked beside file deeds begun s done
      → IsKept m (Committing call) asked beside file deeds begun s done
  next_known call asked beside file deeds begun s done next k =
      (record { rest = next.rest; waits = next.waits; knows = k.0; under_way = k.1 }, next.is_there)

  -- none is
  pub none_settled : (asked : List calls.Call) (beside : NewFile) (file : Keeping) (deeds : List Deed) (begun s : State)
      (done : AreDone m deeds begun s) → file.waits ≡ [] → IsKept m Pending asked beside file deeds begun s done
      → IsKept m Settled asked beside file deeds begun s done
  none_settled asked beside file deeds begun s done none k =
      let covers : Covers m [] file.made (state_before m k.1.missing deeds begun s done) s =
      subst (λ (w : List calls.Call). Covers m w file.made (state_before m k.1.missing deeds begun s done) s) none k.1.covers in
      (k.0, record { none = none; left = covers })

  -- the one that is made is told
  told_covers : (call : calls.Call) (rest : List calls.Call) (file file' : Keeping) (before s : State) → file.waits ≡ call ∷ rest
      → file'.waits ≡ rest → file'.made ≡ call ∷ file.made → Covers m file.waits file.made before s → Covers m file'.waits file'.made before s
  told_covers call rest file file' before s is waits made covers =
      subst (λ (w : List calls.Call). Covers m w file'.made before s) (sym waits)
      (subst (λ (done : List calls.Call). Covers m rest done before s) (sym made) (covers_next call rest file.waits file.made before s is covers))

  pub told : (asked : List calls.Call) (beside : NewFile) (file file' : Keeping) (deeds : List Deed) (begun s : State)
      (done : AreDone m deeds begun s) → IsToldDone m file file' → IsKept m Answered asked beside file deeds begun s done
      → IsKept m Pending asked beside file' deeds begun s done
  told asked beside file file' deeds begun s done tells k =
      let t : (file'.waits ≡ k.rest) × (file'.made ≡ k.next ∷ file.made) = tells k.next k.rest k.waits in (
        subst (λ (made : List calls.Call). Knows m.may_be_left asked made) (sym t.1) k.knows,
        record {
          missing = k.under_way.missing;
          unanswered = k.under_way.unanswered;
          covers = told_covers k.next k.rest file file' _ s k.waits t.0 t.1 k.under_way.covers;
        },
      )

  -- ---- an operation for a call

  module _ (asked : List calls.Call) (beside : NewFile) (file : Keeping) (deeds : List Deed) (begun s : State) (done : AreDone m deeds begun s) where
    -- this call is made
    answered : (next : calls.Call) (asked' : List calls.Call) → IsAsked m next asked file deeds begun s done
        → Knows m.may_be_left asked' (next ∷ file.made) → IsAnswered m asked' file deeds begun s done
    answered next asked' k knows = record { next = next; rest = k.rest; waits = k.waits; knows = knows; under_way = k.under_way }

    -- or it failed, and left no other than if it were
    failed : (next : calls.Call) (asked' made' : List calls.Call) → IsAsked m next asked file deeds begun s done
        → Knows m.may_be_left made' (next ∷ file.made)
        → ((c : List ℕ) → MayLeave (told_of m.may_be_left asked') c → MayLeave (told_of m.may_be_left made') c)
        → Leaves m asked' (λ c. HasAnswered m c deeds begun s done)
    failed next asked' made' k knows no_other = λ c now.
        next_leaves next k.rest file deeds begun s done k.waits k.under_way c (knows.left c (no_other c now))

    pub called : (beside' : NewFile) (call : Call) (ok : Bool) → IsKept m (Committing call) asked beside file deeds begun s done
        → IsKept m (after_call (wanted_by call) ok) (calls_by (operation_of_call call) ok file.bytes beside (seen_after asked) ++ asked) beside'
        file deeds begun s done
    called beside' (call.Write «at») true k =
        answered (calls.Written «at» file.bytes true) _ k.0 (knows_written m.may_be_left «at» file.bytes asked file.made k.0.knows)
    called beside' (call.Write «at») false k =
        failed (calls.Written «at» file.bytes true) (written «at» file.bytes false (seen_after asked) ∷ asked) (written «at» file.bytes true (seen_after asked) ∷ asked) k.0 (knows_written m.may_be_left «at» file.bytes asked file.made k.0.knows)
        (failed_leaves m.may_be_left «at» file.bytes asked)
    called beside' (call.Renew «at») true k =
        answered (calls.Renewed «at» file.bytes true) _ k.0 (knows_renewed m.may_be_left «at» file.bytes asked file.made k.0.knows k.1)
    called beside' (call.Renew «at») false k =
        failed (calls.Renewed «at» file.bytes true) (written «at» file.bytes false (seen_after asked) ∷ asked) (written «at» file.bytes true (seen_after asked) ∷ asked) k.0 (knows_renewed m.may_be_left «at» file.bytes asked file.made k.0.knows k.1)
        (failed_leaves m.may_be_left «at» file.bytes asked)
    called beside' (call.Shorten len) true k =
        answered (calls.Shortened len true) _ k.0 (knows_more m.may_be_left (calls.Shortened len true) asked file.made k.0.knows)
    called beside' (call.Shorten len) false k =
        failed (calls.Shortened len true) (calls.Shortened len false ∷ asked) (calls.Shortened len true ∷ asked) k.0 (knows_more m.may_be_left (calls.Shortened len true) asked file.made k.0.knows)
        (not_shortened_leaves m.may_be_left len asked)
    called beside' call.Sync true k =
        answered (calls.Synced true) _ k.0 (knows_more m.may_be_left (calls.Synced true) asked file.made k.0.knows)
    called beside' call.Sync false k = λ c now. asked_leaves _ asked file deeds begun s done k.0 c (not_synced_leaves m.may_be_left asked c now)
    called beside' call.Replace ok k = asked_leaves _ asked file deeds begun s done k.0
    called beside' call.Want ok k = asked_leaves _ asked file deeds begun s done k.0

    -- ---- a new file

    not_there : (wants : Bool) (beside' : NewFile) → IsAsked m (new_call wants file.bytes) asked file deeds begun s done
        → IsKept m (not_made wants) asked beside' file deeds begun s done
    not_there true beside' k = k
    not_there false beside' k = asked_leaves _ asked file deeds begun s done k

    flushed : (wants : Bool) → IsKept m (Placing (part.Flushed wants)) asked beside file deeds begun s done
        → IsKept m (after_part (part.Flushed wants) true) asked (record beside { is_synced = true }) file deeds begun s done
    flushed true k = (k.0, ap (λ (n : NewFile). record n { is_synced = true }) k.1)
    flushed false k = record { bytes = file.bytes; whole = ap (λ (n : NewFile). record n { is_synced = true }) k.1; asks = k.0 }

    named_now : IsToName m asked beside file deeds begun s done
        → IsToPlace m (named beside false ++ asked) (record beside { is_named = true }) file deeds begun s done
    named_now k = record {
      bytes = k.bytes;
      whole = ap (λ (n : NewFile). record n { is_named = true }) k.whole;
      before = asked;
      named = ap (λ (n : NewFile). named n false ++ asked) k.whole;
      asks = k.asks;
    }

    placed_now : IsToPlace m asked beside file deeds begun s done
        → IsAnswered m ((if beside.is_named && true then named beside true else []) ++ asked) file deeds begun s done
    placed_now k = record {
      next = calls.Replaced k.bytes true;
      rest = k.asks.rest;
      waits = k.asks.waits;
      knows = subst (λ (n : NewFile). Knows m.may_be_left ((if n.is_named && true then named n true else []) ++ asked) (calls.Replaced k.bytes true ∷ file.made))
          (sym k.whole)
          (subst (λ (a : List calls.Call). Knows m.may_be_left (calls.Replaced k.bytes true ∷ a) (calls.Replaced k.bytes true ∷ file.made)) (sym k.named)
          (knows_placed m.may_be_left k.bytes k.before file.made k.asks.knows));
      under_way = k.asks.under_way;
    }

    not_placed : IsToPlace m asked beside file deeds begun s done
        → Leaves m ((if beside.is_named && false then named beside true else []) ++ asked) (λ c. HasAnswered m c deeds begun s done)
    not_placed k =
        subst (λ (n : NewFile). Leaves m ((if n.is_named && false then named n true else []) ++ asked) (λ c. HasAnswered m c deeds begun s done))
        (sym k.whole) (to_place_leaves asked beside file deeds begun s done k)

    pub placed : (p : Part) (a : Answer) → IsKept m (Placing p) asked beside file deeds begun s done
        → IsKept m (after_part p (is_done a)) (calls_by (operation_of_part p) (is_done a) file.bytes beside (seen_after asked) ++ asked)
        (new_file_by (operation_of_part p) a file.bytes beside) file deeds begun s done
    placed (part.Made wants) a k =
        at_bool (is_done a) (λ (ok : Bool). IsKept m (after_part (part.Made wants) ok) asked no_file file deeds begun s done)
        (λ so. (k, refl)) (λ so. not_there wants no_file k)
    placed (part.Filled wants) a k =
        at_bool (is_done a) (λ (ok : Bool). IsKept m (after_part (part.Filled wants) ok) asked
        (record { bytes = is_written 0 file.bytes beside.bytes; is_synced = false; is_named = false }) file deeds begun s done)
        (λ so. (
          k.0,
          ap (λ (n : NewFile). let new : NewFile = record { bytes = is_written 0 file.bytes n.bytes; is_synced = false; is_named = false } in new) k.1
              ∙ ap (λ (l : List ℕ). let new : NewFile = record { bytes = l; is_synced = false; is_named = false } in new) (written_anew file.bytes),
        ))
        (λ so. not_there wants _ k.0)
    placed (part.Flushed wants) a k =
        at_bool (is_done a) (λ (ok : Bool). IsKept m (after_part (part.Flushed wants) ok) asked (record beside { is_synced = ok }) file deeds begun s done)
        (λ so. flushed wants k) (λ so. not_there wants _ k.0)
    placed part.Named a k =
        at_bool (is_done a) (λ (ok : Bool). IsKept m (after_part part.Named ok) (named beside false ++ asked) (record beside { is_named = true }) file deeds begun s done)
        (λ so. named_now k) (λ so. to_place_leaves (named beside false ++ asked) (record beside { is_named = true }) file deeds begun s done (named_now k))
    placed part.Placed a k =
        at_bool (is_done a) (λ (ok : Bool). IsKept m (after_part part.Placed ok) ((if beside.is_named && ok then named beside true else []) ++ asked)
        (record beside { is_named = false }) file deeds begun s done)
        (λ so. placed_now k) (λ so. not_placed k)
    placed part.Discarded a k = answered calls.NotReplaced asked k (knows_wanted m.may_be_left asked file.made k.knows)

  -- ---- a fold

  -- the file that was wanted is to take the place of the old one: that call is next
  pub folded : (asked : List calls.Call) (beside : NewFile) (old mid : KeptState State) (file' : Keeping) (is_put : Bool) (deeds : List Deed) (begun : State)
      (done : AreDone m deeds begun old.state) → is_put ≡ true → IsFolded m is_put old mid → IsToldDone m mid.file file'
      → IsKept m Folding asked beside old.file deeds begun old.state done → IsKept m (Placing part.Named) asked beside file' deeds begun old.state done
  folded asked beside old mid file' is_put deeds begun done is f tells k =
      let put = f.put k.0.rest k.0.waits is in
      let t : (file'.waits ≡ calls.Replaced old.file.bytes true ∷ put.0) × (file'.made ≡ calls.NotReplaced ∷ mid.file.made) =
      tells calls.NotReplaced (calls.Replaced old.file.bytes true ∷ put.0) put.1 in
      record {
        bytes = old.file.bytes;
        whole = k.1;
        asks = record {
          rest = put.0;
          waits = t.0;
          knows = subst (λ (made : List calls.Call). Knows m.may_be_left asked made) (sym t.1)
              (knows_wanted m.may_be_left asked mid.file.made
              (subst (λ (made : List calls.Call). Knows m.may_be_left asked made) (sym f.made) k.0.knows));
          under_way = record {
            missing = k.0.under_way.missing;
            unanswered = k.0.under_way.unanswered;
            covers = told_covers calls.NotReplaced (calls.Replaced old.file.bytes true ∷ put.0) mid.file file' _ old.state put.1 t.0 t.1
                (f.covers _ k.0.under_way.covers);
          };
        };
      }

  -- or it isn't
  pub not_folded : (asked : List calls.Call) (beside : NewFile) (old new : KeptState State) (is_put : Bool) (deeds : List Deed) (begun : State)
      (done : AreDone m deeds begun old.state) → is_put ≡ false → IsFolded m is_put old new
      → IsKept m Folding asked beside old.file deeds begun old.state done → IsKept m (Placing part.Discarded) asked beside new.file deeds begun old.state done
  not_folded asked beside old new is_put deeds begun done is f k =
      let put = f.not_put k.0.rest k.0.waits is in
      record {
        rest = put.0;
        waits = put.1;
        knows = subst (λ (made : List calls.Call). Knows m.may_be_left asked made) (sym f.made) k.0.knows;
        under_way = record {
          missing = k.0.under_way.missing;
          unanswered = k.0.under_way.unanswered;
          covers = f.covers _ k.0.under_way.covers;
        };
      }

  -- a new file is made for the next call
  pub to_make : (call : Call) (wants : Bool) (asked : List calls.Call) (beside : NewFile) (file : Keeping) (deeds : List Deed) (begun s : State)
      (done : AreDone m deeds begun s) → wanted_by call ≡ Some wants → IsKept m (Committing call) asked beside file deeds begun s done
      → IsKept m (Placing (part.Made wants)) asked beside file deeds begun s done
  to_make call wants asked beside file deeds begun s done is k =
      subst (λ (next : calls.Call). IsAsked m next asked file deeds begun s done) (new_is_wanted call wants file.bytes is) k.0
