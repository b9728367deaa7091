use Rattle.std.proofs.Common.{◌≡◌, take}
use Rattle.std.specs.HashMap.{get}
use Rattle.command_explain.specs.declared.submissions.Identity.{Identity}
use Rattle.command_explain.specs.steps.Submissions.{same_identity}
use Rattle.command_explain.specs.steps.Uses.{ends_in_run}
use Rattle.command_explain.proofs.uses.ends_in_run.Given as goal

abbrev pub invariant-loop-submission : goal.invariant-loop-submission
invariant-loop-submission l =
    (q : Identity) → get same_identity l.ends q ≡ ends_in_run q (take l.submission-index l.submissions)
