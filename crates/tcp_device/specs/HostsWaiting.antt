-- For how long a host is waited for.
use Rattle.std.specs.Prelude.{ℕ, ◌≡◌, ◌≤◌, ◌<◌, ◌≢◌, ◌+◌, ◌==◌, true, List, [], ◌∷◌, length, Option, None, Some, if◌then◌else◌}
use Rattle.tcp_admin.specs.declared.controller.Controller.{Controller}
use Rattle.tcp_target.specs.declared.role.Role.TheVariants.{Admin}
use Rattle.tcp_target.specs.Associations.{role_at}
use Rattle.tcp_target.specs.declared.clocks.ControllerClock.{ControllerClock}
use Rattle.tcp_target.specs.Clocks.{started_controller}
use Rattle.tcp_target.specs.Events.{count_of}
use Rattle.tcp_target.specs.Target.{controller_at, controller_clock_at}
use Rattle.tcp_target.specs.Time.{is_lost, patience_of}
use Rattle.tcp_device.specs.Deeds.{AreDone, Closed, Deed, Does, Opened, Received, Resumed, Sent, Served, Ticked, Turned}
use Rattle.tcp_device.specs.State.{ServedState}

-- the milliseconds that went by
abbrev pub ticks_of : Deed → ℕ
ticks_of Opened = 0
ticks_of (Received number piece) = 0
ticks_of (Sent number count) = 0
ticks_of (Closed number) = 0
ticks_of (Ticked milliseconds) = milliseconds
ticks_of (Served number) = 0
ticks_of Turned = 0
ticks_of (Resumed run) = 0

abbrev pub ticks : List Deed → ℕ
ticks [] = 0
ticks (deed ∷ deeds) = ticks deeds + ticks_of deed

-- a clock has counted no more
abbrev pub Within : ℕ → Option ℕ → Type 0
Within n None = Unit {0}
Within n (Some counted) = counted ≤ n

pub record CountsAtMost (n : ℕ) (clock : ControllerClock) : Type 0 where
  pub admin : Within n clock.admin
  pub queues : Within n clock.queues

abbrev pub clock_of : ℕ → ServedState → ControllerClock
clock_of id s = controller_clock_at id s.target

-- for how many milliseconds a controller waits to hear of its host; without a Keep Alive Timeout, for 10 minutes
abbrev pub limit_of : Controller → ℕ
limit_of c = if c.keep_alive == 0 then 600000 else patience_of c

pub record HostsAreWaitedFor : Type 0 where
  -- bytes that are taken on the admin queue of a controller start its clocks anew
  pub heard : (number id : ℕ) (piece : List ℕ) (old new : ServedState) → Does (Received number piece) old new
      → role_at number new.target.queues.associations ≡ Admin id → count_of number piece old.target ≢ 0
      → id < length old.target.controller_clocks → clock_of id new ≡ started_controller
  -- from then on its host is taken for lost only once as much time was counted as it is waited for
  pub lost : (id : ℕ) (deeds : List Deed) (old new : ServedState) → AreDone deeds old new → clock_of id old ≡ started_controller
      → is_lost id new.target ≡ true → limit_of (controller_at id new.target) ≤ ticks deeds
