use Rattle.std.proofs.Common.{length}
use Rattle.command_query.proofs.cells.without_filling.Given as goal

abbrev pub decreases-loop-inside : goal.decreases-loop-inside
decreases-loop-inside l = length l.inside
