use Rattle.std.proofs.Common.{◌≡◌, replicate}
use Rattle.tcp_target.specs.Places.{vacant}
use Rattle.tcp_target.proofs.queues.vacant_places.Given as goal

abbrev pub invariant-loop : goal.invariant-loop
invariant-loop l = l.places.items ≡ replicate l.counter vacant
