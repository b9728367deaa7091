use Rattle.std.proofs.Common.{◌≡◌, None, length, replicate, take}
use Rattle.tcp_connection.proofs.transfers.clear.Given as goal

abbrev pub invariant-loop-tag : goal.invariant-loop-tag
invariant-loop-tag l = record {
  cleared : take l.tag l.places ≡ replicate l.tag None;
  all : length l.places ≡ 4;
}
