use Rattle.std.proofs.Common.{◌≡◌, length, map, take}
use Rattle.runner.specs.steps.ActiveRuns.{source_held, destination_held}
use Rattle.zone_resources.specs.declared.holds.TheConstants.{RUNS}
use Rattle.runner.proofs.places.holds.Given as goal

abbrev pub invariant-loop-number : goal.invariant-loop-number
invariant-loop-number l = record {
  sources : take l.number l.sources ≡ map source_held (take l.number l.runs);
  destinations : take l.number l.destinations ≡ map destination_held (take l.number l.runs);
  all_sources : length l.sources ≡ RUNS;
  all_destinations : length l.destinations ≡ RUNS;
}
