use Rattle.std.proofs.Common.{◌≡◌, length, map, take}
use Rattle.tcp_target.specs.Clocks.{later_controller}
use Rattle.tcp_target.proofs.time.later_clocks.Given as goal

abbrev pub invariant-loop-id : goal.invariant-loop-id
invariant-loop-id l = record {
  made : take l.id l.later ≡ map (λ clock. later_controller l.milliseconds clock) (take l.id l.clocks);
  all : length l.later ≡ 5;
}
