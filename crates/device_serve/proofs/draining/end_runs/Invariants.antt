use Rattle.std.proofs.Common.{◌≡◌}
use Rattle.device_meaning.specs.Draining.{turns_left}
use Rattle.device_serve.proofs.EndingRuns.{IsEnding}
use Rattle.device_serve.proofs.draining.end_runs.Given as goal

abbrev pub invariant-loop-run : goal.invariant-loop-run
invariant-loop-run g l = record {
  ending : IsEnding g.P.Spells.spelled l.fn.kept.device.value l.kept.device.value l.fn.answer.items l.answer.items;
  kept : g.S.Store.keeps l.kept.device.value (g.S.Store.waits l.kept.events) (g.S.Store.disk l.kept.events);
  same : g.S.Store.disk l.kept.events ≡ g.S.Store.disk l.fn.kept.events;
}

abbrev pub decreases-loop-run : goal.decreases-loop-run
decreases-loop-run g l = turns_left l.kept.device.value.places
