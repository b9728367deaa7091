-- The zone that a new image has as often as it has zones.
use Rattle.std.specs.Prelude.{ℕ}
use Rattle.zone_state.specs.declared.state.ZoneState.TheVariants.{Empty}
use Rattle.zone_state.specs.Zone.{CountedZone}

-- a zone of which nothing is written
abbrev pub empty_counted_zone : ℕ → CountedZone
empty_counted_zone capacity = record { state = Empty; written = 0; capacity = capacity }
