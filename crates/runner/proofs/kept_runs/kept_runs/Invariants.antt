use Rattle.std.proofs.Common.{◌≡◌, ◌<◌, ℕ, None, IfSome, get_or, map, take}
use Rattle.kept_device.specs.Kept.{place_told}
use Rattle.runner.specs.DeviceState.{running}
use Rattle.runner.specs.steps.RunsKept.{IsOfRun}
use Rattle.runner.proofs.kept_runs.kept_runs.Given as goal

abbrev pub invariant-loop-place : goal.invariant-loop-place
invariant-loop-place l = record {
  told : map place_told l.kept.items ≡ map running (take l.place-index l.runs);
  are : (k : ℕ) → k < l.place-index → IfSome (get_or l.runs k None) IsOfRun;
}
