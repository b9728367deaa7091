use Rattle.std.proofs.Common.{◌≤◌, ◌+◌, length}
use Rattle.command_entry.proofs.worded_lines.worded_lines.Given as goal

abbrev pub invariant-loop-rest : goal.invariant-loop-rest
invariant-loop-rest l = record {
  counted : l.number + length l.rest ≤ length l.file + 1;
}

abbrev pub decreases-loop-rest : goal.decreases-loop-rest
decreases-loop-rest l = length l.rest
