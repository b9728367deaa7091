use Rattle.std.proofs.Common.{length}
use Rattle.command_query.proofs.records.push_rows_of_block.Given as goal

abbrev pub decreases-loop-record : goal.decreases-loop-record
decreases-loop-record l = length l.rest
