-- What an operation makes of what is owed to hosts.
use Rattle.std.proofs.Common.{ℕ, ◌≡◌, ◌≢◌, ◌≤◌, ◌<◌, ◌+◌, Bool, true, false, ◌&&◌, ◌||◌, List, [], ◌∷◌, Option, None, if◌then◌else◌, sym, ap, subst, ◌∙◌, ⊎_elim, arith}
use Rattle.std.specs.Prelude.{◌==◌, not, refl, slice_index_or}
use Rattle.std.proofs.lemmas.Bool.{and_parts, false_from_ne_true, or_cases, or_from, or_left, or_right}
use Rattle.tcp_loop.specs.Trace.{Made, Trace}
use Rattle.tcp_loop.specs.Sockets.{has_come, is_open, taken_of}
use Rattle.tcp_loop.specs.Rounds.{ends_read, ends_write, flag, is_again, is_over, is_to_end, may_accept, may_read, may_write, owes_accept, owes_read, owes_write}
use Rattle.tcp_loop.specs.Deeds.{Closed, Meaning, Opened}
use Rattle.tcp_loop.specs.Law.{IsFrontOf}
use Rattle.tcp_loop.specs.Orderly.{HasGrown, IsOrderly}
use Rattle.tcp_loop.specs.Fair.{Closes, IsFair, Point, ReadLeft, Reads, Takes, Tells, ToClose, ToWrite, Waits, WriteLeft, Writes}
use Rattle.tcp_loop.specs.Stages.{operation_of, operation_of_call, operation_of_part}
use Rattle.tcp_loop.specs.declared.hosts.Hosts.{Hosts}
use Rattle.tcp_loop.specs.declared.operation.Answer.{Answer}
use Rattle.tcp_loop.specs.declared.operation.Answer.TheVariants as answer
use Rattle.tcp_loop.specs.declared.operation.Operation.TheVariants as operation
use Rattle.tcp_loop.specs.declared.operation.Ready.{Ready}
use Rattle.tcp_loop.specs.declared.operation.Watched.{Watched}
use Rattle.tcp_loop.specs.declared.stage.Stage.{Stage}
use Rattle.tcp_loop.specs.declared.stage.Stage.TheVariants as stage
use Rattle.tcp_loop.specs.declared.stage.Part.{Part}
use Rattle.tcp_loop.specs.declared.stage.Part.TheVariants as part
use Rattle.tcp_loop.specs.declared.target.Call.{Call}
use Rattle.tcp_loop.specs.declared.target.Call.TheVariants as call
use Rattle.tcp_loop.proofs.Fairness.{some_grows}
use Rattle.tcp_loop.proofs.Lists.{at_places}

-- ---- answers

-- a read that brought nothing ends a connection unless something may come later
pub ends_read_is : (a : Answer) → has_come a ≡ false → ends_read a ≡ not (is_again a)
ends_read_is answer.Done none = refl
ends_read_is answer.Came none = cc
ends_read_is (answer.Taken count) none = refl
ends_read_is answer.Again none = refl
ends_read_is answer.NoRoom none = refl
ends_read_is answer.Failed none = refl
ends_read_is (answer.Happened ready) none = refl
ends_read_is (answer.Time time) none = refl
ends_read_is (answer.Signal ends) none = refl

-- and so does a write of which nothing was taken
pub ends_write_is : (a : Answer) → taken_of a ≡ None → ends_write a ≡ not (is_again a)
ends_write_is answer.Done none = refl
ends_write_is answer.Came none = refl
ends_write_is (answer.Taken count) none = cc
ends_write_is answer.Again none = refl
ends_write_is answer.NoRoom none = refl
ends_write_is answer.Failed none = refl
ends_write_is (answer.Happened ready) none = refl
ends_write_is (answer.Time time) none = refl
ends_write_is (answer.Signal ends) none = refl

-- the answer with which bytes come
pub came_is : (a : Answer) → has_come a ≡ true → a ≡ answer.Came
came_is answer.Done has = cc
came_is answer.Came has = refl
came_is (answer.Taken count) has = cc
came_is answer.Again has = cc
came_is answer.NoRoom has = cc
came_is answer.Failed has = cc
came_is (answer.Happened ready) has = cc
came_is (answer.Time time) has = cc
came_is (answer.Signal ends) has = cc

-- ---- tests

pub or_false : (b : Bool) → (b || false) ≡ b
or_false true = refl
or_false false = refl

-- what is done isn't owed
undone : (number place : ℕ) (before : Bool) (P : Type 0) → (place ≢ number → before ≡ true → P)
    → (if place == number then false else before) ≡ true → P
undone number place before P there =
    at_places number place (λ b. (if b then false else before) ≡ true → P) (λ here is. cc) (λ other is. there other is)

unless : (b c : Bool) → (if b then false else c) ≡ true → (b ≡ false) × (c ≡ true)
unless true c is = cc
unless false c is = (refl, is)

-- neither is both
not_both : (b c : Bool) → c ≡ true → (b && not c) ≡ false
not_both true c is = ap not is
not_both false c is = refl

lost_or : (b c e : Bool) → (b ≡ true → c ≡ true) → (b || e) ≡ true → (c || e) ≡ true
lost_or b c e so is =
    ⊎_elim (λ (was : b ≡ true). or_left c e (so was)) (λ (now : e ≡ true). or_right c e now) (or_cases b e is)

-- a connection is found to be over
over_now : (number place : ℕ) (before fails : Bool) (old new : List Bool) → flag number new ≡ (flag number old || fails)
    → (place ≢ number → flag place new ≡ flag place old) → (before ≡ true → flag place old ≡ true)
    → (if place == number then before || fails else before) ≡ true → flag place new ≡ true
over_now number place before fails old new now others was =
    at_places number place (λ b. (if b then before || fails else before) ≡ true → flag place new ≡ true)
    (λ here is. subst (λ (n : ℕ). flag n new ≡ true) here
    (now ∙ lost_or before (flag number old) fails (λ so. subst (λ (n : ℕ). flag n old ≡ true) (sym here) (was so)) is))
    (λ other is. others other ∙ was is)

module _ {State : Type 0} (m : Meaning State) (free : State → Option ℕ) (o : IsOrderly m free) where
  -- ---- operations that are nothing to hosts

  made : (x : Made) (p : Point) (trace : Trace) (h : Hosts) (waiting : List (List ℕ)) (s : State)
      → ((place : ℕ) → place < 40 → is_open place (x ∷ trace) ≡ is_open place trace) → ((place : ℕ) → is_over place (x ∷ trace) ≡ is_over place trace)
      → ((place : ℕ) → owes_read place (x ∷ trace) ≡ owes_read place trace)
      → ((place : ℕ) → owes_write place (x ∷ trace) ≡ owes_write place trace) → owes_accept (x ∷ trace) ≡ owes_accept trace
      → IsFair m free o p trace h waiting s → IsFair m free o p (x ∷ trace) h waiting s
  made x p trace h waiting s opened over reads writes accepts f = record {
    known = λ q low. f.known q low ∙ sym (opened q low);
    there = λ q low. f.there q low ∙ sym (opened q low);
    over = λ q low is. f.over q low (sym (over q) ∙ is);
    reads = λ q low is. f.reads q low (sym (reads q) ∙ is);
    writes = λ q low is. f.writes q low (sym (writes q) ∙ is);
    accepts = λ is. f.accepts (sym accepts ∙ is);
    closes = f.closes;
    goes_on = f.goes_on;
    watching = f.watching;
  }

  -- do all of its operations move no bytes, begin and close no connection, and tell nothing of hosts?
  abbrev IsPlain : Stage → Type 0
  IsPlain stage.Timing = Unit {0}
  IsPlain stage.Called = Unit {0}
  IsPlain (stage.Calling next) = Unit {0}
  IsPlain (stage.Placing p) = Unit {0}
  IsPlain (stage.Refusing more) = Unit {0}
  IsPlain (stage.Telling cause fails) = Unit {0}
  IsPlain (stage.Ended done) = Unit {0}
  IsPlain (stage.Polling watched milliseconds) = ⊥
  IsPlain stage.Signalled = ⊥
  IsPlain (stage.Reading place) = ⊥
  IsPlain (stage.Writing place) = ⊥
  IsPlain (stage.Closing place) = ⊥
  IsPlain (stage.Accepting place more) = ⊥

  module _ (p : Point) (carried came : List ℕ) (a : Answer) (trace : Trace) (h : Hosts) (waiting : List (List ℕ)) (s : State)
      (f : IsFair m free o p trace h waiting s) where
    plain_call : (next : Call) → IsFair m free o p (record { asked = operation_of_call next; carried = carried; answer = a; came = came } ∷ trace) h waiting s
    plain_call (call.Write «at») = made _ p trace h waiting s (λ q low. refl) (λ q. refl) (λ q. refl) (λ q. refl) refl f
    plain_call (call.Renew «at») = made _ p trace h waiting s (λ q low. refl) (λ q. refl) (λ q. refl) (λ q. refl) refl f
    plain_call (call.Shorten len) = made _ p trace h waiting s (λ q low. refl) (λ q. refl) (λ q. refl) (λ q. refl) refl f
    plain_call call.Sync = made _ p trace h waiting s (λ q low. refl) (λ q. refl) (λ q. refl) (λ q. refl) refl f
    plain_call call.Replace = made _ p trace h waiting s (λ q low. refl) (λ q. refl) (λ q. refl) (λ q. refl) refl f
    plain_call call.Want = made _ p trace h waiting s (λ q low. refl) (λ q. refl) (λ q. refl) (λ q. refl) refl f

    plain_part : (next : Part) → IsFair m free o p (record { asked = operation_of_part next; carried = carried; answer = a; came = came } ∷ trace) h waiting s
    plain_part (part.Made wants) = made _ p trace h waiting s (λ q low. refl) (λ q. refl) (λ q. refl) (λ q. refl) refl f
    plain_part (part.Filled wants) = made _ p trace h waiting s (λ q low. refl) (λ q. refl) (λ q. refl) (λ q. refl) refl f
    plain_part (part.Flushed wants) = made _ p trace h waiting s (λ q low. refl) (λ q. refl) (λ q. refl) (λ q. refl) refl f
    plain_part part.Named = made _ p trace h waiting s (λ q low. refl) (λ q. refl) (λ q. refl) (λ q. refl) refl f
    plain_part part.Placed = made _ p trace h waiting s (λ q low. refl) (λ q. refl) (λ q. refl) (λ q. refl) refl f
    plain_part part.Discarded = made _ p trace h waiting s (λ q low. refl) (λ q. refl) (λ q. refl) (λ q. refl) refl f

    pub plain : (at_stage : Stage) → IsPlain at_stage
        → IsFair m free o p (record { asked = operation_of at_stage; carried = carried; answer = a; came = came } ∷ trace) h waiting s
    plain stage.Timing is = made _ p trace h waiting s (λ q low. refl) (λ q. refl) (λ q. refl) (λ q. refl) refl f
    plain stage.Called is = made _ p trace h waiting s (λ q low. refl) (λ q. refl) (λ q. refl) (λ q. refl) refl f
    plain (stage.Calling next) is = plain_call next
    plain (stage.Placing next) is = plain_part next
    plain (stage.Refusing more) is =
        made _ p trace h waiting s
        (λ q low. at_places 40 q (λ b. (if b then false else is_open q trace) ≡ is_open q trace)
        (λ here. absurd (omega (arith, low, here))) (λ there. refl)) (λ q. refl) (λ q. refl) (λ q. refl) refl f
    plain (stage.Telling cause fails) is = made _ p trace h waiting s (λ q low. refl) (λ q. refl) (λ q. refl) (λ q. refl) refl f
    plain (stage.Ended done) is = made _ p trace h waiting s (λ q low. refl) (λ q. refl) (λ q. refl) (λ q. refl) refl f
    plain (stage.Polling watched milliseconds) is = absurd is
    plain stage.Signalled is = absurd is
    plain (stage.Reading place) is = absurd is
    plain (stage.Writing place) is = absurd is
    plain (stage.Closing place) is = absurd is
    plain (stage.Accepting place more) is = absurd is

  -- ---- bytes

  -- a connection was read
  pub read_made : (place : ℕ) (carried came : List ℕ) (a : Answer) (trace : Trace) (h : Hosts) (lost : List Bool) (waiting waiting' : List (List ℕ)) (s s' : State)
      → HasGrown m free o s s' → flag place lost ≡ (flag place h.lost || ends_read a) → ((q : ℕ) → q ≢ place → flag q lost ≡ flag q h.lost)
      → ((q : ℕ) → q ≢ place → slice_index_or waiting' q [] ≡ slice_index_or waiting q [])
      → IsFair m free o (Reads place) trace h waiting s
      → IsFair m free o (Reads (place + 1)) (record { asked = operation.Read place; carried = carried; answer = a; came = came } ∷ trace)
      (record h { lost = lost }) waiting' s'
  read_made place carried came a trace h lost waiting waiting' s s' grown now others rest f = record {
    known = f.known;
    there = λ q low. grown.there q low ∙ f.there q low;
    over = λ q low. over_now place q (is_over q trace) (ends_read a) h.lost lost now (others q) (f.over q low);
    reads = λ q low. undone place q (owes_read q trace) (ReadLeft (Reads (place + 1)) q (record h { lost = lost }) waiting')
        (λ other is. let left = f.reads q low is in (
          omega (arith, left.0, other),
          record { ready = left.1.ready; there = left.1.there; alive = others q other ∙ left.1.alive; empty = rest q other ∙ left.1.empty },
        ));
    writes = λ q low. at_places place q
        (λ b. (if b then (if ends_read a then false else owes_write q trace) else owes_write q trace) ≡ true
        → ToWrite q (record h { lost = lost }) (m.to_send q s'))
        (λ here is. let so = unless (ends_read a) (owes_write q trace) is in let left = f.writes q low so.1 in record {
          there = left.there;
          alive = subst (λ (n : ℕ). flag n lost ≡ false) here
              (now ∙ or_from (flag place h.lost) (ends_read a) (subst (λ (n : ℕ). flag n h.lost ≡ false) (sym here) left.alive) so.0);
          takes = left.takes;
          some = some_grows (m.to_send q s) (m.to_send q s') (grown.front q low) left.some;
        })
        (λ other is. let left = f.writes q low is in record {
          there = left.there;
          alive = others q other ∙ left.alive;
          takes = left.takes;
          some = some_grows (m.to_send q s) (m.to_send q s') (grown.front q low) left.some;
        });
    accepts = λ is. let left = f.accepts is in record { ready = left.ready; accepts = left.accepts; goes_on = left.goes_on };
    closes = λ q low. tt;
    goes_on = tt;
    watching = tt;
  }

  -- one was written
  pub write_made : (place : ℕ) (carried came : List ℕ) (a : Answer) (trace : Trace) (h : Hosts) (full lost : List Bool) (waiting : List (List ℕ)) (s s' : State)
      → ((q : ℕ) → q < 40 → o.is_there q s' ≡ o.is_there q s)
      → ((q : ℕ) → q < 40 → q ≢ place → IsFrontOf (m.to_send q s) (m.to_send q s'))
      → flag place lost ≡ (flag place h.lost || ends_write a) → ((q : ℕ) → q ≢ place → flag q lost ≡ flag q h.lost)
      → ((q : ℕ) → q ≢ place → flag q full ≡ flag q h.full) → IsFair m free o (Writes place) trace h waiting s
      → IsFair m free o (Writes (place + 1)) (record { asked = operation.Write place; carried = carried; answer = a; came = came } ∷ trace)
      (record h { full = full; lost = lost }) waiting s'
  write_made place carried came a trace h full lost waiting s s' there front now others fulls f = record {
    known = f.known;
    there = λ q low. there q low ∙ f.there q low;
    over = λ q low. over_now place q (is_over q trace) (ends_write a) h.lost lost now (others q) (f.over q low);
    reads = f.reads;
    writes = λ q low. undone place q (owes_write q trace) (WriteLeft (Writes (place + 1)) q (record h { full = full; lost = lost }) (m.to_send q s'))
        (λ other is. let left = f.writes q low is in (
          omega (arith, left.0, other),
          record {
            there = left.1.there;
            alive = others q other ∙ left.1.alive;
            takes = fulls q other ∙ left.1.takes;
            some = some_grows (m.to_send q s) (m.to_send q s') (front q low other) left.1.some;
          },
        ));
    accepts = λ is. let left = f.accepts is in record { ready = left.ready; accepts = left.accepts; goes_on = left.goes_on };
    closes = λ q low. tt;
    goes_on = tt;
    watching = tt;
  }

  -- ---- connections

  -- one is closed
  pub closed_made : (place : ℕ) (carried came : List ℕ) (a : Answer) (trace : Trace) (h : Hosts) (opens : List Bool) (waiting : List (List ℕ)) (s s' : State)
      → m.does (Closed place) s s' → flag place opens ≡ false → ((q : ℕ) → q ≢ place → flag q opens ≡ flag q h.there)
      → IsFair m free o Closes trace h waiting s
      → IsFair m free o Closes (record { asked = operation.Close place; carried = carried; answer = a; came = came } ∷ trace)
      (record h { there = opens; accepts = true }) waiting s'
  closed_made place carried came a trace h opens waiting s s' did now others f = record {
    known = λ q low. at_places place q (λ b. flag q opens ≡ (if b then false else is_open q trace))
        (λ here. subst (λ (n : ℕ). flag n opens ≡ false) here now) (λ other. others q other ∙ f.known q low);
    there = λ q low. o.stays (Closed place) s s' did q low ∙ ap (λ (b : Bool). if q == place then false else b) (f.there q low);
    over = f.over;
    reads = f.reads;
    writes = f.writes;
    accepts = λ is. let left = f.accepts is in record { ready = left.ready; accepts = refl; goes_on = left.goes_on };
    closes = λ q low. tt;
    goes_on = tt;
    watching = tt;
  }

  -- one begins
  pub begun_made : (place : ℕ) (carried came : List ℕ) (trace : Trace) (h : Hosts) (opens full lost : List Bool) (waiting waiting' : List (List ℕ)) (s s' : State)
      → m.does (Opened place) s s' → flag place opens ≡ true → ((q : ℕ) → q ≢ place → flag q opens ≡ flag q h.there)
      → flag place lost ≡ false → ((q : ℕ) → q ≢ place → flag q lost ≡ flag q h.lost) → IsFair m free o Takes trace h waiting s
      → IsFair m free o Tells (record { asked = operation.Accept place; carried = carried; answer = answer.Done; came = came } ∷ trace)
      (record h { there = opens; full = full; lost = lost }) waiting' s'
  begun_made place carried came trace h opens full lost waiting waiting' s s' did now others alive lives f = record {
    known = λ q low. at_places place q (λ b. flag q opens ≡ (if b then true else is_open q trace))
        (λ here. subst (λ (n : ℕ). flag n opens ≡ true) here now) (λ other. others q other ∙ f.known q low);
    there = λ q low. o.stays (Opened place) s s' did q low ∙ ap (λ (b : Bool). if q == place then true else b) (f.there q low);
    over = λ q low. undone place q (is_over q trace) (flag q lost ≡ true) (λ other is. lives q other ∙ f.over q low is);
    reads = f.reads;
    writes = f.writes;
    accepts = λ is. cc;
    closes = λ q low. at_places place q (λ b. ToClose q (record h { there = opens; full = full; lost = lost }) → ⊥)
        (λ here left. let is : flag q lost ≡ false = subst (λ (n : ℕ). flag n lost ≡ false) here alive in
        let no : flag q lost ≡ true = left.over in cc)
        (λ other left. f.closes q low (record { there = sym (others q other) ∙ left.there; over = sym (lives q other) ∙ left.over }));
    goes_on = tt;
    watching = tt;
  }

  -- or none begins
  not_begun_open : (place q : ℕ) (a : Answer) (carried came : List ℕ) (trace : Trace) → (a ≡ answer.Done → 40 ≤ place) → q < 40
      → let x : Made = record { asked = operation.Accept place; carried = carried; answer = a; came = came } in
      (is_open q (x ∷ trace) ≡ is_open q trace) × (is_over q (x ∷ trace) ≡ is_over q trace)
  not_begun_open place q answer.Done carried came trace beyond low = (
    at_places place q (λ b. (if b then true else is_open q trace) ≡ is_open q trace)
        (λ here. let far : 40 ≤ place = beyond refl in absurd (omega (arith, far, low, here))) (λ there. refl),
    at_places place q (λ b. (if b then false else is_over q trace) ≡ is_over q trace)
        (λ here. let far : 40 ≤ place = beyond refl in absurd (omega (arith, far, low, here))) (λ there. refl),
  )
  not_begun_open place q answer.Came carried came trace beyond low = (refl, refl)
  not_begun_open place q (answer.Taken count) carried came trace beyond low = (refl, refl)
  not_begun_open place q answer.Again carried came trace beyond low = (refl, refl)
  not_begun_open place q answer.NoRoom carried came trace beyond low = (refl, refl)
  not_begun_open place q answer.Failed carried came trace beyond low = (refl, refl)
  not_begun_open place q (answer.Happened ready) carried came trace beyond low = (refl, refl)
  not_begun_open place q (answer.Time time) carried came trace beyond low = (refl, refl)
  not_begun_open place q (answer.Signal ends) carried came trace beyond low = (refl, refl)

  pub not_begun_made : (place : ℕ) (carried came : List ℕ) (a : Answer) (trace : Trace) (h : Hosts) (waiting : List (List ℕ)) (s : State)
      → (a ≡ answer.Done → 40 ≤ place) → IsFair m free o Takes trace h waiting s
      → IsFair m free o Tells (record { asked = operation.Accept place; carried = carried; answer = a; came = came } ∷ trace) h waiting s
  not_begun_made place carried came a trace h waiting s beyond f = record {
    known = λ q low. f.known q low ∙ sym (not_begun_open place q a carried came trace beyond low).0;
    there = λ q low. f.there q low ∙ sym (not_begun_open place q a carried came trace beyond low).0;
    over = λ q low is. f.over q low (sym (not_begun_open place q a carried came trace beyond low).1 ∙ is);
    reads = f.reads;
    writes = f.writes;
    accepts = λ is. cc;
    closes = f.closes;
    goes_on = tt;
    watching = tt;
  }

  -- ---- waiting

  -- it is told what happened
  pub polled_made : (watched : Watched) (milliseconds : ℕ) (carried came : List ℕ) (a : Answer) (trace : Trace) (h : Hosts) (ready : Ready)
      (full : List Bool) (waiting : List (List ℕ)) (s : State) → ((q : ℕ) → q < 40 → flag q ready.reads ≡ may_read q a)
      → ((q : ℕ) → q < 40 → flag q ready.writes ≡ may_write q a) → ready.accepts ≡ may_accept a
      → ((q : ℕ) → q < 40 → flag q full ≡ (flag q h.full && not (flag q ready.writes))) → IsFair m free o (Waits watched) trace h waiting s
      → IsFair m free o (Reads 0) (record { asked = operation.Poll watched milliseconds; carried = carried; answer = a; came = came } ∷ trace)
      (record h { ready = ready; full = full }) waiting s
  polled_made watched milliseconds carried came a trace h ready full waiting s may_read_is may_write_is may_accept_is full_is f = record {
    known = f.known;
    there = f.there;
    over = f.over;
    reads = λ q low is. let so = and_parts (flag q watched.reads) (may_read q a) is in
        let watches = (f.watching.places q low).reads so.0 in (
          omega arith,
          record {
            ready = may_read_is q low ∙ so.1;
            there = watches.0;
            alive = false_from_ne_true (flag q h.lost) (λ over. f.closes q low (record { there = watches.0; over = over }));
            empty = watches.1;
          },
        );
    writes = λ q low is. let so = and_parts (flag q watched.writes) (may_write q a) is in
        let watches = (f.watching.places q low).writes so.0 in record {
          there = watches.0;
          alive = false_from_ne_true (flag q h.lost) (λ over. f.closes q low (record { there = watches.0; over = over }));
          takes = full_is q low ∙ not_both (flag q h.full) (flag q ready.writes) (may_write_is q low ∙ so.1);
          some = watches.1;
        };
    accepts = λ is. let so = and_parts watched.accepts (may_accept a) is in
        record { ready = may_accept_is ∙ so.1; accepts = sym f.watching.accepts ∙ so.0; goes_on = f.goes_on };
    closes = λ q low. tt;
    goes_on = tt;
    watching = tt;
  }

  -- a signal is taken
  pub signalled_made : (carried came : List ℕ) (a : Answer) (trace : Trace) (h : Hosts) (ends : Bool) (waiting : List (List ℕ)) (s : State)
      → (is_to_end a ≡ false → ends ≡ h.ends) → IsFair m free o (Reads 0) trace h waiting s
      → IsFair m free o (Reads 0) (record { asked = operation.Signal; carried = carried; answer = a; came = came } ∷ trace)
      (record h { ends = ends }) waiting s
  signalled_made carried came a trace h ends waiting s same f = record {
    known = f.known;
    there = f.there;
    over = f.over;
    reads = λ q low is. let left = f.reads q low is in
        (left.0, record { ready = left.1.ready; there = left.1.there; alive = left.1.alive; empty = left.1.empty });
    writes = λ q low is. let left = f.writes q low is in
        record { there = left.there; alive = left.alive; takes = left.takes; some = left.some };
    accepts = λ is. let so = unless (is_to_end a) (owes_accept trace) is in let left = f.accepts so.1 in
        record { ready = left.ready; accepts = left.accepts; goes_on = same so.0 ∙ left.goes_on };
    closes = λ q low. tt;
    goes_on = tt;
    watching = tt;
  }
