use Rattle.std.proofs.Common.{◌≡◌, vec_len}
use Rattle.stored_file.proofs.choices.Choices.torn.Given as goal

abbrev pub invariant-loop-index : goal.invariant-loop-index
invariant-loop-index l = vec_len l.torn ≡ l.index
