use Rattle.std.proofs.Common.{length}
use Rattle.question_compiler.proofs.compiling.+emitted_end.Given as goal

abbrev pub decreases-emitted_end : goal.decreases-emitted_end
decreases-emitted_end l = length l.ranges.now
