use Rattle.std.proofs.Common.{◌≡◌, take}
use Rattle.command_explain.proofs.waiting.Waiting.new.Given as goal

abbrev pub invariant-loop-submission : goal.invariant-loop-submission
invariant-loop-submission l = l.submissions.items ≡ take l.submission-index l.all
