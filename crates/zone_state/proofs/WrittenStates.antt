-- What a write makes of the state that a write left.
use Rattle.std.proofs.Common.{◌≡◌, refl}
use Rattle.zone_state.specs.Zone.{written_state}
use Rattle.zone_state.specs.declared.state.ZoneState.{ZoneState}
use Rattle.zone_state.specs.declared.state.ZoneState.TheVariants.{Empty, ImplicitlyOpened, ExplicitlyOpened, Closed, ReadOnly, Full, Offline}

-- a second write leaves the state that the first one left
pub written_twice : (s : ZoneState) → written_state (written_state s) ≡ written_state s
written_twice Empty = refl
written_twice ImplicitlyOpened = refl
written_twice ExplicitlyOpened = refl
written_twice Closed = refl
written_twice ReadOnly = refl
written_twice Full = refl
written_twice Offline = refl
