-- At each wait nothing is owed, whatever the world answers.
use Rattle.std.proofs.Common.{ℕ, ◌≡◌, ◌+◌, List, ◌∷◌, length, Option, sym, ap, subst, ◌∙◌, arith}
use Rattle.stored_file.specs.Calls.{Call}
use Rattle.tcp_loop.specs.Trace.{Made, Trace}
use Rattle.tcp_loop.specs.Deeds.{Meaning}
use Rattle.tcp_loop.specs.Keeping.{KeptState}
use Rattle.tcp_loop.specs.Kept.{Phase}
use Rattle.tcp_loop.specs.Holding.{Holds}
use Rattle.tcp_loop.specs.Orderly.{IsOrderly}
use Rattle.tcp_loop.specs.Fair.{IsFair, IsFairTo, Point}
use Rattle.tcp_loop.specs.Progress.{EndsRounds, Falls}
use Rattle.tcp_loop.specs.Running.{NeverOwes, NeverOwesMore, OwesNothingAt}
use Rattle.tcp_loop.specs.declared.clock.Clock.{Clock}
use Rattle.tcp_loop.specs.declared.hosts.Hosts.{Hosts}
use Rattle.tcp_loop.specs.declared.operation.Answer.{Answer}
use Rattle.tcp_loop.specs.declared.operation.Operation.{Operation}
use Rattle.tcp_loop.specs.declared.operation.Operation.TheVariants.{Accept, Close, Create, Discard, End, Fsync, Ftruncate, Log}
use Rattle.tcp_loop.specs.declared.operation.Operation.TheVariants.{Now, Poll, Pwrite, Read, Rename, Signal, SyncFolder, Write}
use Rattle.tcp_loop.proofs.Progress.{ends_by}

module _ {State : Type 0} (m : Meaning State) (free : State → Option ℕ) (o : IsOrderly m free) where
  pub owes_nothing_at : (asked : Operation) (trace : Trace) (waiting : List (List ℕ)) (s : State) → IsFairTo m free o asked trace waiting s
      → OwesNothingAt asked trace
  owes_nothing_at (Poll watched milliseconds) trace waiting s fair = fair.0
  owes_nothing_at Signal trace waiting s fair = tt
  owes_nothing_at Now trace waiting s fair = tt
  owes_nothing_at (Accept place) trace waiting s fair = record { unused = fair.unused; alive = fair.alive }
  owes_nothing_at (Read place) trace waiting s fair = tt
  owes_nothing_at (Write place) trace waiting s fair = tt
  owes_nothing_at (Close place) trace waiting s fair = tt
  owes_nothing_at (Pwrite file «at») trace waiting s fair = tt
  owes_nothing_at (Ftruncate len) trace waiting s fair = tt
  owes_nothing_at (Fsync file) trace waiting s fair = tt
  owes_nothing_at Create trace waiting s fair = tt
  owes_nothing_at Rename trace waiting s fair = tt
  owes_nothing_at SyncFolder trace waiting s fair = tt
  owes_nothing_at Discard trace waiting s fair = tt
  owes_nothing_at (Log cause) trace waiting s fair = tt
  owes_nothing_at (End done) trace waiting s fair = tt

-- ---- an operation that the world made

abbrev one : Operation → List ℕ → Answer → List ℕ → Made
one asked carried answer came = record { asked = asked; carried = carried; answer = answer; came = came }

module _ (trace trace' : Trace) (asked asked' : Operation) (carried : List ℕ) (answer : Answer) (came came' : List ℕ)
    (is : trace' ≡ one asked carried answer came ∷ trace) (same : asked ≡ asked') (brought : came' ≡ came) where
  -- it is the one that was asked for, with the bytes that came
  made_is : trace' ≡ one asked' carried answer came' ∷ trace
  made_is =
      is ∙ ap (λ (a : Operation). one a carried answer came ∷ trace) same
      ∙ ap (λ (l : List ℕ). one asked' carried answer l ∷ trace) (sym brought)

  pub holds_next : {State : Type 0} (m : Meaning State) (opened : List Call) (begun : State) (phase : Phase) (now : KeptState State)
      (waiting : List (List ℕ)) (clock : Clock) → Holds m opened begun (one asked' carried answer came' ∷ trace) phase now waiting clock
      → Holds m opened begun trace' phase now waiting clock
  holds_next m opened begun phase now waiting clock holds =
      subst (λ (t : Trace). Holds m opened begun t phase now waiting clock) (sym made_is) holds

  pub fair_next : {State : Type 0} (m : Meaning State) (free : State → Option ℕ) (o : IsOrderly m free) (p : Point) (h : Hosts)
      (waiting : List (List ℕ)) (s : State) → IsFair m free o p (one asked' carried answer came' ∷ trace) h waiting s
      → OwesNothingAt asked' trace → NeverOwes trace → NeverOwesMore m free o p trace' h waiting s
  fair_next m free o p h waiting s fair nothing never =
      subst (λ (t : Trace). NeverOwesMore m free o p t h waiting s) (sym made_is) (record { fair = fair; never = (nothing, never) })

  pub ends_next : (before after : ℕ) → Falls asked' before after → EndsRounds trace before → EndsRounds trace' after
  ends_next before after falls ends =
      subst (λ (t : Trace). EndsRounds t after) (sym made_is) (ends_by (one asked' carried answer came') trace before after falls ends)

-- it is one more
pub made_more : {made : Made} (trace trace' : Trace) → trace' ≡ made ∷ trace → length trace' ≡ length trace + 1
made_more {made} trace trace' is = let long : length trace' ≡ length (made ∷ trace) = ap (λ (t : Trace). length t) is in omega (arith, long)
