use Rattle.std.proofs.Common.{◌≤◌, ◌-◌, length, vec_capacity}
use Rattle.std.specs.List.{All}
use Rattle.tcp_connection.specs.steps.Commands.{IsRoom}
use Rattle.tcp_connection.proofs.waiting.make_rooms.Given as goal

abbrev pub invariant-loop-alloc : goal.invariant-loop-alloc
invariant-loop-alloc l = record {
  few : length l.rooms.items ≤ 128;
  capacity : 128 ≤ vec_capacity l.rooms;
  all : All IsRoom l.rooms.items;
}

abbrev pub decreases-loop-alloc : goal.decreases-loop-alloc
decreases-loop-alloc l = 128 - length l.rooms.items
