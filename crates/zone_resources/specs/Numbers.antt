-- How many runs there are.
use Rattle.std.specs.Prelude.{◌≡◌}
use Rattle.zone_resources.specs.declared.holds.TheConstants.{RUNS}

-- as many runs as this can be active at one time (profile)
abbrev pub RunsAreEight : Type 0
RunsAreEight = RUNS ≡ 8
