-- What changes clocks alone.
use Rattle.std.proofs.Common.{◌≡◌, ℕ, ◌==◌, zero, suc, true, false, cond, Option, None, Some, refl, map}
use Rattle.tcp_target.specs.Queues.{QueuesState}
use Rattle.tcp_target.specs.Clocks.{later_controller}
use Rattle.tcp_target.specs.Events.{opened_as, taken_by_host}
use Rattle.tcp_target.specs.Target.{TargetState, connection_clock_at, with_connection_clock}
use Rattle.tcp_target.specs.Time.{counted_below, ticked}

-- a connection begins,
pub opened_queues : (number : Option ℕ) (t : TargetState) → (opened_as number t).queues ≡ t.queues
opened_queues None t = refl
opened_queues (Some number) t = refl

-- its host takes bytes,
pub taken_queues : (number count : ℕ) (t : TargetState) → (taken_by_host number count t).queues ≡ t.queues
taken_queues number count t =
    let clock = connection_clock_at number t in
    elim (count == 0) as (λ b. (cond b t (with_connection_clock number (record clock { taken = None }) t)).queues ≡ t.queues) [
      | true ↦ refl
      | false ↦ refl
    ]

-- and time goes by
pub counted_queues : (milliseconds number : ℕ) (t : TargetState) → (counted_below milliseconds number t).queues ≡ t.queues
unfolding counted_below
counted_queues milliseconds zero t = refl
counted_queues milliseconds (suc number) t = counted_queues milliseconds number t

pub ticked_queues : (milliseconds : ℕ) (t : TargetState) → (ticked milliseconds t).queues ≡ t.queues
ticked_queues milliseconds t =
    counted_queues milliseconds 40 (record t { controller_clocks = map (λ clock. later_controller milliseconds clock) t.controller_clocks })
