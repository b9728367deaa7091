-- What time does to a target, and which connections it takes to be given up by their hosts.
use Rattle.std.specs.Prelude.{ℕ, zero, suc, Bool, false, not, ◌&&◌, ◌||◌, ◌*◌, ◌/◌, ◌==◌, length, if◌then◌else◌, map}
use Rattle.tcp_admin.specs.declared.controller.Controller.{Controller}
use Rattle.tcp_target.specs.declared.role.Role.{Role}
use Rattle.tcp_target.specs.declared.role.Role.TheVariants.{Unconnected, Admin, Io, Ended}
use Rattle.tcp_target.specs.Associations.{role_at}
use Rattle.tcp_target.specs.Ends.{is_cut_off}
use Rattle.tcp_target.specs.Queues.{place_at}
use Rattle.tcp_target.specs.Clocks.{is_past, later_connection, later_controller}
use Rattle.tcp_target.specs.Target.{TargetState, connection_clock_at, controller_at, controller_clock_at, with_connection_clock}

-- ---- a tick

-- is something to be sent on a connection?
abbrev pub waits : ℕ → TargetState → Bool
waits number t = not (length (place_at number t.queues).unsent == 0)

-- so many milliseconds go by at a connection,
abbrev pub counted_at : ℕ → ℕ → TargetState → TargetState
counted_at milliseconds number t =
    with_connection_clock number (later_connection milliseconds (waits number t) (connection_clock_at number t)) t

-- at those with the lowest numbers,
unfoldable pub counted_below : ℕ → ℕ → TargetState → TargetState
counted_below milliseconds zero t = t
counted_below milliseconds (suc number) t = counted_at milliseconds number (counted_below milliseconds number t)

-- and at all 40, and of all controllers: nothing else happens
abbrev pub ticked : ℕ → TargetState → TargetState
ticked milliseconds t = counted_below milliseconds 40 (record t { controller_clocks = map (λ clock. later_controller milliseconds clock) t.controller_clocks })

-- ---- which hosts are waited for no longer

-- Keep Alive (NVMe Base 2.0, 3.9): a host is taken for lost where nothing comes on its admin queue for one and a half times KATO,
abbrev pub patience_of : Controller → ℕ
patience_of c = c.keep_alive * 3 / 2

-- or, where that is 0, nothing on any of its queues for 10 minutes (profile)
abbrev pub is_lost : ℕ → TargetState → Bool
is_lost id t =
    if (controller_at id t).keep_alive == 0 then is_past 600000 (controller_clock_at id t).queues
    else is_past (patience_of (controller_at id t)) (controller_clock_at id t).admin

-- a host has 30 seconds for a Connect that succeeds (profile); the admin queue of one that is lost ends, and with it the controller. An I/O
-- queue may be silent as long as its controller is there
abbrev pub is_late_as : Role → ℕ → TargetState → Bool
is_late_as Unconnected number t = is_past 30000 (connection_clock_at number t).begun
is_late_as (Admin id) number t = is_lost id t
is_late_as (Io id queue) number t = false
is_late_as Ended number t = false

-- on any connection a host has 60 seconds for the next bytes of what is to be sent (profile)
abbrev pub is_late : ℕ → TargetState → Bool
is_late number t =
    (place_at number t.queues).is_open
    && (is_past 60000 (connection_clock_at number t).taken || is_late_as (role_at number t.queues.associations) number t)

-- such a connection is to be closed at once, and one whose controller has ended, or was stopped
abbrev pub is_given_up : ℕ → TargetState → Bool
is_given_up number t = is_cut_off number t.queues || is_late number t
