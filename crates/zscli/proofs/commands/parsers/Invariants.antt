use Rattle.std.proofs.Common.{◌≡◌, ◌≤◌, vec_capacity, vec_len}
use Rattle.zscli.proofs.commands.parsers.Given as goal

abbrev pub invariant-loop-words : goal.invariant-loop-words
invariant-loop-words l = record {
  count : vec_len l.parsers ≡ l.words-index;
  capacity : 18 ≤ vec_capacity l.parsers;
}
