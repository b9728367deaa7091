-- Each run that may go on has its turns.
use Rattle.std.proofs.Common.{◌≡◌, ◌≢◌, ◌≤◌, ◌<◌, ◌+◌, ◌-◌, ◌*◌, ℕ, zero, suc, Bool, true, false, List, [], ◌∷◌, length, drop, get_or, Option, None, Some, refl, ap, sym, subst, ◌∙◌, ◌⊎◌, inl, inr, ⊎_elim, arith}
use Rattle.std.specs.Prelude.{◌==◌, ◌%◌, if◌then◌else◌, position}
use Rattle.std.proofs.lemmas.Bool.{cases_lt, eqb-false, eqb-true}
use Rattle.std.proofs.lemmas.List.{get_or-drop, get_or_past, length-drop, length-set}
use Rattle.std.proofs.lemmas.Grind.{common_steps}
use Rattle.std.proofs.lemmas.List.Quantifiers.{position-Some}
use Rattle.std.proofs.lemmas.List.Sums.{fails_before_first}
use Rattle.std.specs.List.{position_or_len}
use Rattle.device_events.specs.declared.reply.Reply.{Reply}
use Rattle.device_events.specs.declared.reply.Reply.TheVariants as reply
use Rattle.tcp_connection.specs.Executing.{Execution}
use Rattle.tcp_target.specs.QueueCommands.{given_to_device}
use Rattle.tcp_device.specs.Deeds.{AreDone, Closed, Deed, Does, Opened, Received, Resumed, Sent, Served, Ticked, Turned}
use Rattle.tcp_device.specs.Served.{ResumesGiven, ServesGiven, TurnsGiven, behind, can_go, freed_by, kept_by, next_run, or_else, run_from}
use Rattle.tcp_device.specs.State.{CommandOfRun, ServedState}
use Rattle.tcp_device.specs.Turning.{AtTurns, HasRuns, MayGo, RunsTakeTurns, may_go, turn_in, turns_by, turns_given, turns_in, turns_of}

-- ---- the first that may go

module _ {X : Type 0} (p : X → Bool) (xs : List X) (i : ℕ) (d : X) (fails : p d ≡ false) (passes : p (get_or xs i d) ≡ true) where
  found_at : (r : Option ℕ) → position p xs ≡ r → (k : ℕ) × (position p xs ≡ Some k) × (k ≤ i)
  found_at (Some k) is = (
    k,
    is,
    ⊎_elim
        (λ (less : i < k). let fails_here = (position-Some p xs k d is).2 i less in absurd cc)
        (λ (no_later : k ≤ i). no_later)
        (cases_lt i k),
  )
  found_at None is =
      let past : length xs ≤ position_or_len p xs = grind (arith, common_steps) in
      ⊎_elim
      (λ (within : i < length xs). let fails_here = fails_before_first p xs i d (omega (arith, within, past)) in absurd cc)
      (λ (out : length xs ≤ i). let fails_here : p (get_or xs i d) ≡ false = ap p (get_or_past xs i d out) ∙ fails in absurd cc)
      (cases_lt i (length xs))

  -- one is found, and no later than one that passes
  pub found : (k : ℕ) × (position p xs ≡ Some k) × (k ≤ i)
  found = found_at (position p xs) refl

-- ---- how far a run is from the one at which a target looks next

-- so many others are before it, round the runs
record IsAhead (run next ahead : ℕ) : Type 0 where
  few : ahead ≤ 7
  is : (next + ahead ≡ run) ⊎ (next + ahead ≡ run + 8)

-- another is met before it, or it is
abbrev IsBetween : (run next other : ℕ) → Type 0
IsBetween run next other =
    ((next ≤ other) × (other ≤ run)) ⊎ (((run < next) × (next ≤ other)) ⊎ ((run < next) × (other ≤ run)))

module _ (s : ServedState) (run : ℕ) (h : HasRuns s) (low : run < 8) (may : may_go run s ≡ true) where
  pub record IsNext : Type 0 where
    pub other : ℕ
    pub is : next_run s ≡ Some other
    pub other_low : other < 8
    pub between : IsBetween run s.next other

  from : (first : ℕ) → first ≤ run → (k : ℕ) × (run_from s.target s.pending first ≡ Some (first + k)) × (first + k ≤ run)
  from first before =
      let here : first + (run - first) ≡ run = omega (arith, before) in
      let at : get_or (drop first s.pending) (run - first) None ≡ get_or s.pending run None =
      get_or-drop first s.pending (run - first) None ∙ ap (λ (n : ℕ). get_or s.pending n None) here in
      let yes : can_go s.target (get_or (drop first s.pending) (run - first) None) ≡ true = ap (can_go s.target) at ∙ may in
      let first_is = found (can_go s.target) (drop first s.pending) (run - first) None refl yes in
      (first_is.0, ap (behind first) first_is.1, (let few = first_is.2 in omega (arith, few, here)))

  later : (r : Option ℕ) → r ≡ position (can_go s.target) (drop s.next s.pending) → run < s.next
      → or_else (behind s.next r) (run_from s.target s.pending 0) ≡ next_run s → IsNext
  later (Some k) is past whole =
      let within = (position-Some (can_go s.target) (drop s.next s.pending) k None (sym is)).0 in
      let long = length-drop s.next s.pending in let eight = h.places in
      record {
        other = s.next + k;
        is = sym whole;
        other_low = omega (arith, within, long, eight);
        between = inr (inl (past, omega arith));
      }
  later None is past whole =
      let first = from 0 (omega arith) in
      record {
        other = 0 + first.0;
        is = sym whole ∙ first.1;
        other_low = (let few = first.2 in omega (arith, few, low));
        between = inr (inr (past, first.2));
      }

  next_is : IsNext
  next_is = ⊎_elim
      (λ (past : run < s.next). later (position (can_go s.target) (drop s.next s.pending)) refl past refl)
      (λ (before : s.next ≤ run). let first = from s.next before in
      record {
        other = s.next + first.0;
        is = ap (λ (r : Option ℕ). or_else r (run_from s.target s.pending 0)) first.1;
        other_low = (let few = first.2 in omega (arith, few, low));
        between = inl (omega arith, first.2);
      })
      (cases_lt run s.next)

-- ---- a turn

-- the number after one, round the runs
wraps : (n : ℕ) → n < 8 → (((n + 1) % 8 ≡ n + 1) × (n < 7)) ⊎ (((n + 1) % 8 ≡ 0) × (n ≡ 7))
wraps zero low = inl (refl, omega arith)
wraps (suc zero) low = inl (refl, omega arith)
wraps (suc (suc zero)) low = inl (refl, omega arith)
wraps (suc (suc (suc zero))) low = inl (refl, omega arith)
wraps (suc (suc (suc (suc zero)))) low = inl (refl, omega arith)
wraps (suc (suc (suc (suc (suc zero))))) low = inl (refl, omega arith)
wraps (suc (suc (suc (suc (suc (suc zero)))))) low = inl (refl, omega arith)
wraps (suc (suc (suc (suc (suc (suc (suc zero))))))) low = inr (refl, refl)
wraps (suc (suc (suc (suc (suc (suc (suc (suc n)))))))) low = absurd (omega (arith, low))

-- the run is given the turn, and waits for all others; or another is before it
record Nears (run next' ahead given : ℕ) : Type 0 where
  ahead' : ℕ
  is : IsAhead run next' ahead'
  nearer : 1 + ahead' ≤ ahead + 8 * given

module _ (run next other next' ahead : ℕ) (low : run < 8) (next_low : next < 8) (other_low : other < 8) (between : IsBetween run next other)
    (a : IsAhead run next ahead) (wrapped : ((next' ≡ other + 1) × (other < 7)) ⊎ ((next' ≡ 0) × (other ≡ 7))) where
  given_one : run ≡ other → Nears run next' ahead 1
  given_one same = ⊎_elim
      (λ (w : (next' ≡ other + 1) × (other < 7)). let e = w.0 in
      record { ahead' = 7; is = record { few = omega arith; is = inr (omega (arith, e, same)) }; nearer = omega arith })
      (λ (w : (next' ≡ 0) × (other ≡ 7)). let e = w.0 in let seven = w.1 in
      record { ahead' = 7; is = record { few = omega arith; is = inl (omega (arith, e, seven, same)) }; nearer = omega arith })
      wrapped

  -- the number of others, whichever way round
  far : ((next ≤ run) × (next + ahead ≡ run)) ⊎ ((run < next) × (next + ahead ≡ run + 8))
  far = let few = a.few in ⊎_elim
      (λ (e : next + ahead ≡ run). inl (omega (arith, e), e))
      (λ (e : next + ahead ≡ run + 8). inr (omega (arith, e, few), e))
      a.is

  near : (ahead' : ℕ) → (next' + ahead' ≡ run) ⊎ (next' + ahead' ≡ run + 8) → ahead' ≤ 7 → 1 + ahead' ≤ ahead → Nears run next' ahead 0
  near ahead' is few nearer = record { ahead' = ahead'; is = record { few = few; is = is }; nearer = omega (arith, nearer) }

  given_none : run ≢ other → Nears run next' ahead 0
  given_none differs =
      let few = a.few in
      ⊎_elim
      (λ (f : (next ≤ run) × (next + ahead ≡ run)). let e = f.1 in let on = f.0 in
      ⊎_elim
      (λ (b : (next ≤ other) × (other ≤ run)). let b0 = b.0 in let b1 = b.1 in
      let less : other < run = omega (arith, b1, differs) in
      ⊎_elim
      (λ (w : (next' ≡ other + 1) × (other < 7)). let n = w.0 in
      near (run - (other + 1)) (inl (omega (arith, n, less))) (omega (arith, low)) (omega (arith, less, b0, e)))
      (λ (w : (next' ≡ 0) × (other ≡ 7)). let seven = w.1 in absurd (omega (arith, seven, less, low)))
      wrapped)
      (λ (b : ((run < next) × (next ≤ other)) ⊎ ((run < next) × (other ≤ run))).
      let past : run < next = ⊎_elim (λ (c : (run < next) × (next ≤ other)). c.0) (λ (c : (run < next) × (other ≤ run)). c.0) b in
      absurd (omega (arith, past, on)))
      between)
      (λ (f : (run < next) × (next + ahead ≡ run + 8)). let e = f.1 in let past = f.0 in
      ⊎_elim
      (λ (b : (next ≤ other) × (other ≤ run)). let b0 = b.0 in let b1 = b.1 in absurd (omega (arith, past, b0, b1)))
      (λ (b : ((run < next) × (next ≤ other)) ⊎ ((run < next) × (other ≤ run))).
      ⊎_elim
      (λ (c : (run < next) × (next ≤ other)). let c1 = c.1 in
      ⊎_elim
      (λ (w : (next' ≡ other + 1) × (other < 7)). let n = w.0 in let w1 = w.1 in
      near (run + 8 - (other + 1)) (inr (omega (arith, n, w1))) (omega (arith, past, c1)) (omega (arith, c1, e, w1)))
      (λ (w : (next' ≡ 0) × (other ≡ 7)). let n = w.0 in
      near run (inl (omega (arith, n))) (omega (arith, low)) (omega (arith, e, next_low)))
      wrapped)
      (λ (c : (run < next) × (other ≤ run)). let c1 = c.1 in
      let less : other < run = omega (arith, c1, differs) in
      ⊎_elim
      (λ (w : (next' ≡ other + 1) × (other < 7)). let n = w.0 in
      near (run - (other + 1)) (inl (omega (arith, n, less))) (omega (arith, low)) (omega (arith, less, e, next_low)))
      (λ (w : (next' ≡ 0) × (other ≡ 7)). let seven = w.1 in absurd (omega (arith, seven, less, low)))
      wrapped)
      b)
      between)
      far

  given_by : (b : Bool) → (run == other) ≡ b → Nears run next' ahead (if b then 1 else 0)
  given_by true is = given_one (eqb-true run other is)
  given_by false is = given_none (eqb-false run other is)

-- ---- deeds

pub kept_long : (r : Reply) (number : ℕ) (entry : List ℕ) (pending : List (Option CommandOfRun))
    → length (kept_by r number entry pending) ≡ length pending
kept_long (reply.Complete queue completion length) number entry pending = refl
kept_long (reply.Pending run) number entry pending = length-set pending run _
kept_long reply.Idle number entry pending = refl
kept_long reply.FaultTaken number entry pending = refl
kept_long reply.FaultRefused number entry pending = refl

pub freed_long : (r : Reply) (run : ℕ) (pending : List (Option CommandOfRun)) → length (freed_by r run pending) ≡ length pending
freed_long (reply.Complete queue completion length) run pending = length-set pending run None
freed_long (reply.Pending number) run pending = refl
freed_long reply.Idle run pending = refl
freed_long reply.FaultTaken run pending = refl
freed_long reply.FaultRefused run pending = refl

-- a target with as many places that looks at the same run next
as_before : (s s' : ServedState) → length s'.pending ≡ length s.pending → s'.next ≡ s.next → HasRuns s → HasRuns s'
as_before s s' places next h = record {
  places = places ∙ h.places;
  next = (let less = h.next in omega (arith, less, next));
}

by : (s s' t : ServedState) → s' ≡ t → length t.pending ≡ length s.pending → t.next ≡ s.next
    → (length s'.pending ≡ length s.pending) × (s'.next ≡ s.next)
by s s' t is places next = (ap (λ (x : ServedState). length x.pending) is ∙ places, ap (λ (x : ServedState). x.next) is ∙ next)

-- all but turns leave them so
served_as : (given : Option Execution) (number : ℕ) (s s' : ServedState) → ServesGiven given number s s'
    → (length s'.pending ≡ length s.pending) × (s'.next ≡ s.next)
served_as None number s s' done = by s s' _ done refl refl
served_as (Some execution) number s s' done = by s s' _ done.rest (kept_long _ number execution.entry s.pending) refl

resumed_as : (command : Option CommandOfRun) (run : ℕ) (s s' : ServedState) → ResumesGiven command run s s'
    → (length s'.pending ≡ length s.pending) × (s'.next ≡ s.next)
resumed_as None run s s' done = by s s' _ done.rest refl refl
resumed_as (Some command) run s s' done = by s s' _ done refl refl

wrapped_low : (n : ℕ) → n < 8 → (n + 1) % 8 < 8
wrapped_low n low =
    ⊎_elim (λ (w : ((n + 1) % 8 ≡ n + 1) × (n < 7)). let e = w.0 in let less = w.1 in omega (arith, e, less))
    (λ (w : ((n + 1) % 8 ≡ 0) × (n ≡ 7)). let e = w.0 in omega (arith, e)) (wraps n low)

-- the next run has a low number
run_low : (s : ServedState) (first k : ℕ) (r : Option ℕ) → length s.pending ≡ 8 → r ≡ position (can_go s.target) (drop first s.pending)
    → behind first r ≡ Some k → k < 8
run_low s first k (Some offset) eight is at =
    let within = (position-Some (can_go s.target) (drop first s.pending) offset None (sym is)).0 in
    let long = length-drop first s.pending in let same : first + offset ≡ k = cc in omega (arith, within, long, eight, same)
run_low s first k None eight is at = absurd cc

next_low : (s : ServedState) (k : ℕ) (r : Option ℕ) → length s.pending ≡ 8 → r ≡ run_from s.target s.pending s.next
    → or_else r (run_from s.target s.pending 0) ≡ Some k → k < 8
next_low s k (Some other) eight is at =
    let same : Some other ≡ Some k = at in run_low s s.next k _ eight refl (sym is ∙ same)
next_low s k None eight is at = run_low s 0 k _ eight refl at

turned_has : (r : Option ℕ) (s s' : ServedState) → r ≡ next_run s → TurnsGiven r s s' → HasRuns s → HasRuns s'
turned_has None s s' is done h = subst (λ (x : ServedState). HasRuns x) (sym done) h
turned_has (Some run) s s' is done h =
    let low = next_low s run (run_from s.target s.pending s.next) h.places refl (sym is) in
    let next : s'.next ≡ (run + 1) % 8 = ap (λ (x : ServedState). x.next) done.rest in
    let less = wrapped_low run low in
    record {
      places = ap (λ (x : ServedState). length x.pending) done.rest ∙ freed_long _ run s.pending ∙ h.places;
      next = omega (arith, next, less);
    }

same_runs : (deed : Deed) (s s' : ServedState) → turn_in deed ≡ 0 → Does deed s s'
    → (length s'.pending ≡ length s.pending) × (s'.next ≡ s.next)
same_runs Opened s s' none done = by s s' _ done refl refl
same_runs (Received number piece) s s' none done = by s s' _ done refl refl
same_runs (Sent number count) s s' none done = by s s' _ done refl refl
same_runs (Closed number) s s' none done = by s s' _ done refl refl
same_runs (Ticked milliseconds) s s' none done = by s s' _ done refl refl
same_runs (Served number) s s' none done = served_as (given_to_device number s.target.queues) number s s' done
same_runs Turned s s' none done = absurd cc
same_runs (Resumed run) s s' none done = resumed_as (get_or s.pending run None) run s s' done

stays : (deed : Deed) (s s' : ServedState) → Does deed s s' → HasRuns s → HasRuns s'
stays Opened s s' done h = let same = same_runs Opened s s' refl done in as_before s s' same.0 same.1 h
stays (Received number piece) s s' done h = let same = same_runs (Received number piece) s s' refl done in as_before s s' same.0 same.1 h
stays (Sent number count) s s' done h = let same = same_runs (Sent number count) s s' refl done in as_before s s' same.0 same.1 h
stays (Closed number) s s' done h = let same = same_runs (Closed number) s s' refl done in as_before s s' same.0 same.1 h
stays (Ticked milliseconds) s s' done h = let same = same_runs (Ticked milliseconds) s s' refl done in as_before s s' same.0 same.1 h
stays (Served number) s s' done h = let same = same_runs (Served number) s s' refl done in as_before s s' same.0 same.1 h
stays Turned s s' done h = turned_has (next_run s) s s' refl done h
stays (Resumed run) s s' done h = let same = same_runs (Resumed run) s s' refl done in as_before s s' same.0 same.1 h

-- ---- how many turns others have

module _ (run : ℕ) (low : run < 8) where
  -- by a turn, one more is given, and the run is nearer by one, or has had it
  turn_nears : (s s' : ServedState) → HasRuns s → may_go run s ≡ true → TurnsGiven (next_run s) s s' → (ahead : ℕ) → IsAhead run s.next ahead
      → Nears run s'.next ahead (turns_given run (next_run s))
  turn_nears s s' h may done ahead a =
      let n = next_is s run h low may in
      let turn = subst (λ (r : Option ℕ). TurnsGiven r s s') n.is done in
      let next : s'.next ≡ (n.other + 1) % 8 = ap (λ (x : ServedState). x.next) turn.rest in
      let wrapped = subst (λ (k : ℕ). ((k ≡ n.other + 1) × (n.other < 7)) ⊎ ((k ≡ 0) × (n.other ≡ 7))) (sym next) (wraps n.other n.other_low) in
      subst (λ (r : Option ℕ). Nears run s'.next ahead (turns_given run r)) (sym n.is)
      (given_by run s.next n.other s'.next ahead low h.next n.other_low n.between a wrapped (run == n.other) refl)

  -- those that were given, and those that are to be given before its next
  record Passes (given turns : ℕ) (s : ServedState) : Type 0 where
    has : HasRuns s
    ahead : ℕ
    is : IsAhead run s.next ahead
    few : given + ahead ≤ 8 * turns + 7

  other_deed : (deed : Deed) (given turns : ℕ) (s s' : ServedState) → turn_in deed ≡ 0 → turns_by run deed s ≡ 0 → Does deed s s'
      → Passes given turns s → Passes (given + turn_in deed) (turns + turns_by run deed s) s'
  other_deed deed given turns s s' none none_of done p =
      let same = same_runs deed s s' none done in let next = same.1 in let few = p.few in
      record {
        has = stays deed s s' done p.has;
        ahead = p.ahead;
        is = subst (λ (n : ℕ). IsAhead run n p.ahead) (sym next) p.is;
        few = omega (arith, few, none, none_of);
      }

  passes_by : (earlier : List Deed) (deed : Deed) (given turns : ℕ) (s s' : ServedState) → Does deed s s'
      → AtTurns (λ t. may_go run t ≡ true) earlier deed s → Passes given turns s → Passes (given + turn_in deed) (turns + turns_by run deed s) s'
  passes_by earlier Opened given turns s s' done may p = other_deed Opened given turns s s' refl refl done p
  passes_by earlier (Received number piece) given turns s s' done may p = other_deed (Received number piece) given turns s s' refl refl done p
  passes_by earlier (Sent number count) given turns s s' done may p = other_deed (Sent number count) given turns s s' refl refl done p
  passes_by earlier (Closed number) given turns s s' done may p = other_deed (Closed number) given turns s s' refl refl done p
  passes_by earlier (Ticked milliseconds) given turns s s' done may p = other_deed (Ticked milliseconds) given turns s s' refl refl done p
  passes_by earlier (Served number) given turns s s' done may p = other_deed (Served number) given turns s s' refl refl done p
  passes_by earlier Turned given turns s s' done may p =
      let n = turn_nears s s' p.has may done p.ahead p.is in let nearer = n.nearer in let few = p.few in
      record {
        has = stays Turned s s' done p.has;
        ahead = n.ahead';
        is = n.is;
        few = omega (arith, nearer, few);
      }
  passes_by earlier (Resumed other) given turns s s' done may p = other_deed (Resumed other) given turns s s' refl refl done p

  ahead_of : (next : ℕ) → next < 8 → (ahead : ℕ) × IsAhead run next ahead
  ahead_of next next_is_low = ⊎_elim
      (λ (past : run < next). (run + 8 - next, record { few = omega (arith, past); is = inr (omega (arith, next_is_low)) }))
      (λ (before : next ≤ run). (run - next, record { few = omega (arith, low); is = inl (omega (arith, before)) }))
      (cases_lt run next)

  all_passed : (deeds : List Deed) (old new : ServedState) (done : AreDone deeds old new) → HasRuns old → MayGo run deeds old new done
      → Passes (turns_in deeds) (turns_of run deeds old new done) new
  all_passed [] old new done h may =
      let first = ahead_of old.next h.next in let few = first.1.few in
      subst (λ (s : ServedState). Passes 0 0 s) (sym done) (record { has = h; ahead = first.0; is = first.1; few = omega (arith, few) })
  all_passed (deed ∷ deeds) old new done h may =
      passes_by deeds deed _ _ done.between new done.last may.1 (all_passed deeds old done.between done.first h may.0)

pub runs_take_turns : RunsTakeTurns
runs_take_turns = record {
  begin = λ device subsystem format. record { places = refl; next = omega arith };
  stay = stays;
  turns = λ run low deeds old new done h may. let p = all_passed run low deeds old new done h may in let few = p.few in omega (arith, few);
}
