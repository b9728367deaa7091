-- Which zones a report lists.
use Rattle.std.specs.Prelude.{ℕ, Bool, true, false, ◌==◌, Option, Some, None, if◌then◌else◌}
use Rattle.zone_state.specs.declared.state.ZoneState.{ZoneState}
use Rattle.zone_state.specs.declared.state.ZoneState.TheVariants as state
use Rattle.nvme_entry.specs.declared.filter.ZoneFilter.{ZoneFilter}
use Rattle.nvme_entry.specs.declared.filter.ZoneFilter.TheVariants.{All, Empty, ImplicitlyOpened, ExplicitlyOpened, Closed, Full, ReadOnly, Offline}

-- Zone Receive Action Specific (ZNS 1.1, 3.4.2)
abbrev pub filter_of : ℕ → Option ZoneFilter
filter_of code =
    if code == 0x00 then Some All else
    if code == 0x01 then Some Empty else
    if code == 0x02 then Some ImplicitlyOpened else
    if code == 0x03 then Some ExplicitlyOpened else
    if code == 0x04 then Some Closed else
    if code == 0x05 then Some Full else
    if code == 0x06 then Some ReadOnly else
    if code == 0x07 then Some Offline else None

-- does a report with the filter list zones of the state?
abbrev pub lists : ZoneFilter → ZoneState → Bool
lists All _ = true
lists Empty state.Empty = true
lists ImplicitlyOpened state.ImplicitlyOpened = true
lists ExplicitlyOpened state.ExplicitlyOpened = true
lists Closed state.Closed = true
lists Full state.Full = true
lists ReadOnly state.ReadOnly = true
lists Offline state.Offline = true
lists _ _ = false

-- the filter that lists the zones of the state, and no others
abbrev pub filter_for : ZoneState → ZoneFilter
filter_for state.Empty = Empty
filter_for state.ImplicitlyOpened = ImplicitlyOpened
filter_for state.ExplicitlyOpened = ExplicitlyOpened
filter_for state.Closed = Closed
filter_for state.ReadOnly = ReadOnly
filter_for state.Full = Full
filter_for state.Offline = Offline
