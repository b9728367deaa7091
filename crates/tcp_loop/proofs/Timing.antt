-- What is counted of time goes on from phase to phase.
use Rattle.std.proofs.Common.{ℕ, ◌≡◌, ◌<◌, ◌+◌, ◌*◌, Bool, true, false, if◌then◌else◌, Option, Some, None, refl, sym, ap, ◌∙◌, arith}
use Rattle.tcp_loop.specs.Kept.{Answered, Attending, Begun, Called, Committing, Due, Folding, Pending, Phase, Placing, Resting, Settled, Stopped, Told, after_call, after_part, not_made}
use Rattle.tcp_loop.specs.Times.{gone}
use Rattle.tcp_loop.specs.Timed.{IsLast, IsTimed, most_untold}
use Rattle.tcp_loop.specs.declared.clock.Clock.{Clock}
use Rattle.tcp_loop.specs.declared.stage.Part.{Part}
use Rattle.tcp_loop.specs.declared.stage.Part.TheVariants as part
use Rattle.tcp_loop.specs.declared.target.Call.{Call}

-- it is never two seconds
pub few_all : (phase : Phase) (n : ℕ) → n < most_untold phase → n < 2000000
few_all Resting n few = omega (arith, few)
few_all Due n few = few
few_all (Attending from) n few = omega (arith, few)
few_all Begun n few = omega (arith, few)
few_all Pending n few = few
few_all Told n few = few
few_all (Committing call) n few = few
few_all Answered n few = few
few_all (Placing part) n few = few
few_all Folding n few = few
few_all Called n few = few
few_all Settled n few = few
few_all Stopped n few = few

module _ (c t : ℕ) (f : Bool) (l : ℕ) (clock : Clock) where
  -- where the last time isn't asked for
  pub timed_stopped : (phase : Phase) → IsTimed phase c t f l clock → IsTimed Stopped c t f l clock
  timed_stopped phase h = record { counts = h.counts; few = few_all phase clock.untold h.few; last_is = tt }

  pub timed_placing : (phase : Phase) (p : Part) → IsTimed phase c t f l clock → IsTimed (Placing p) c t f l clock
  timed_placing phase p h = record { counts = h.counts; few = few_all phase clock.untold h.few; last_is = tt }

  pub timed_committing : (phase : Phase) (call : Call) → IsTimed phase c t f l clock → IsTimed (Committing call) c t f l clock
  timed_committing phase call h = record { counts = h.counts; few = few_all phase clock.untold h.few; last_is = tt }

  pub timed_due : IsTimed Resting c t f l clock → IsTimed Due c t f l clock
  timed_due h = record { counts = h.counts; few = few_all Resting clock.untold h.few; last_is = h.last_is }

  pub timed_pending : IsTimed Due c t f l clock → IsTimed Pending c t f l clock
  timed_pending h = record { counts = h.counts; few = h.few; last_is = h.last_is }

  pub timed_settled : IsTimed Pending c t f l clock → IsTimed Settled c t f l clock
  timed_settled h = record { counts = h.counts; few = h.few; last_is = h.last_is }

  pub timed_begun : IsTimed Begun c t f l clock → IsTimed Resting c t f l clock
  timed_begun h = record { counts = h.counts; few = h.few; last_is = h.last_is }

  pub timed_attending : (from : ℕ) → IsTimed Resting c t f l clock → IsTimed (Attending from) c t f l clock
  timed_attending from h = record { counts = h.counts; few = h.few; last_is = h.last_is }

  pub timed_attended : (from : ℕ) → IsTimed (Attending from) c t f l clock → IsTimed Resting c t f l clock
  timed_attended from h = record { counts = h.counts; few = h.few; last_is = h.last_is }

  pub timed_told : IsTimed Answered c t f l clock → IsTimed Told c t f l clock
  timed_told h = record { counts = h.counts; few = h.few; last_is = h.last_is }

  pub timed_called : IsTimed Told c t f l clock → IsTimed Called c t f l clock
  timed_called h = record { counts = h.counts; few = h.few; last_is = h.last_is }

  pub timed_resting : clock.untold < 1000000 → IsTimed Settled c t f l clock → IsTimed Resting c t f l clock
  timed_resting few h = record { counts = h.counts; few = few; last_is = h.last_is }

  -- once an operation for the file is made
  after_not_made : (phase : Phase) (wants : Bool) → IsTimed phase c t f l clock → IsTimed (not_made wants) c t true l clock
  after_not_made phase true h = record { counts = h.counts; few = few_all phase clock.untold h.few; last_is = tt }
  after_not_made phase false h = record { counts = h.counts; few = few_all phase clock.untold h.few; last_is = tt }

  pub timed_call : (call : Call) (wanted : Option Bool) (ok : Bool) → IsTimed (Committing call) c t f l clock
      → IsTimed (after_call wanted ok) c t true l clock
  timed_call call None true h = record { counts = h.counts; few = h.few; last_is = refl }
  timed_call call None false h = record { counts = h.counts; few = h.few; last_is = tt }
  timed_call call (Some wants) ok h = record { counts = h.counts; few = h.few; last_is = tt }

  pub timed_part : (p : Part) (ok : Bool) → IsTimed (Placing p) c t f l clock → IsTimed (after_part p ok) c t true l clock
  timed_part (part.Made wants) true h = record { counts = h.counts; few = h.few; last_is = tt }
  timed_part (part.Filled wants) true h = record { counts = h.counts; few = h.few; last_is = tt }
  timed_part (part.Flushed true) true h = record { counts = h.counts; few = h.few; last_is = tt }
  timed_part (part.Flushed false) true h = record { counts = h.counts; few = h.few; last_is = tt }
  timed_part part.Named true h = record { counts = h.counts; few = h.few; last_is = tt }
  timed_part part.Placed true h = record { counts = h.counts; few = h.few; last_is = refl }
  timed_part (part.Made wants) false h = after_not_made (Placing (part.Made wants)) wants h
  timed_part (part.Filled wants) false h = after_not_made (Placing (part.Filled wants)) wants h
  timed_part (part.Flushed wants) false h = after_not_made (Placing (part.Flushed wants)) wants h
  timed_part part.Named false h = record { counts = h.counts; few = h.few; last_is = tt }
  timed_part part.Placed false h = record { counts = h.counts; few = h.few; last_is = tt }
  timed_part part.Discarded ok h = record { counts = h.counts; few = h.few; last_is = refl }

-- ---- readings of the clock

-- what is gone of a trace is gone of the clock
gone_same : (f : Bool) (l now : ℕ) (clock : Clock) → IsLast f l clock → gone f l now ≡ gone false clock.last now
gone_same true l now clock is = ap (λ (last : ℕ). gone false last now) (sym is)
gone_same false l now clock is = ap (λ (last : ℕ). gone false last now) (sym is)

pub timed_counted : (c t : ℕ) (f : Bool) (l now : ℕ) (clock clock' : Clock) → clock'.last ≡ now
    → (clock.untold < 1000000 → (clock'.untold ≡ clock.untold + gone false clock.last now) × (clock'.untold < 2000000))
    → IsTimed Resting c t f l clock → IsTimed Due (c + gone f l now) t false now clock'
timed_counted c t f l now clock clock' last more h =
    let m = more h.few in
    let same : gone f l now ≡ gone false clock.last now = gone_same f l now clock h.last_is in
    let untold : clock'.untold ≡ clock.untold + gone false clock.last now = m.0 in
    let counts : c ≡ t * 1000 + clock.untold = h.counts in
    record { counts = omega (arith, same, untold, counts); few = m.1; last_is = last }

pub timed_skipped : (c t : ℕ) (f : Bool) (l now : ℕ) (clock clock' : Clock) → clock'.last ≡ now → clock'.untold ≡ clock.untold
    → IsTimed Called c t f l clock → IsTimed Settled (c + gone f l now) t false now clock'
timed_skipped c t f l now clock clock' last same h =
    let none : gone f l now ≡ 0 = ap (λ (b : Bool). gone b l now) h.last_is in
    let counts : c ≡ t * 1000 + clock.untold = h.counts in
    let few : clock.untold < 2000000 = h.few in
    record { counts = omega (arith, none, same, counts); few = omega (arith, same, few); last_is = last }

pub timed_lost : (c t : ℕ) (f : Bool) (l : ℕ) (clock clock' : Clock) → clock'.last ≡ 0 → clock'.untold ≡ clock.untold
    → IsTimed Called c t f l clock → IsTimed Settled c t f l clock'
timed_lost c t f l clock clock' last same h =
    let none : 0 ≡ (if f then 0 else l) = ap (λ (b : Bool). if b then 0 else l) (sym h.last_is) in
    let counts : c ≡ t * 1000 + clock.untold = h.counts in
    let few : clock.untold < 2000000 = h.few in
    record { counts = omega (arith, same, counts); few = omega (arith, same, few); last_is = last ∙ none }

-- the target is let count
pub timed_ticked : (c t milliseconds : ℕ) (f : Bool) (l : ℕ) (clock clock' : Clock) → clock'.last ≡ clock.last
    → clock.untold ≡ milliseconds * 1000 + clock'.untold → (clock.untold < 2000000 → clock'.untold < 1000000)
    → IsTimed Settled c t f l clock → IsTimed Resting c (t + milliseconds) f l clock'
timed_ticked c t milliseconds f l clock clock' last told few h =
    let counts : c ≡ t * 1000 + clock.untold = h.counts in
    record { counts = omega (arith, told, counts); few = few h.few; last_is = last ∙ h.last_is }
