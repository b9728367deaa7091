use Rattle.std.proofs.Common.{length}
use Rattle.tcp_connection.specs.steps.Commands.{HasRooms}
use Rattle.tcp_connection.proofs.waiting.let_all_go.Given as goal

abbrev pub invariant-loop-kept : goal.invariant-loop-kept
invariant-loop-kept l = record {
  rooms : HasRooms l.kept l.rooms;
}

abbrev pub decreases-loop-kept : goal.decreases-loop-kept
decreases-loop-kept l = length l.kept.items
