use Rattle.std.proofs.Common.{◌≡◌, unwrap_or, take}
use Rattle.std.specs.HashMap.{get}
use Rattle.command_explain.specs.declared.submissions.Identity.{Identity}
use Rattle.command_explain.specs.steps.Submissions.{same_identity}
use Rattle.command_explain.specs.steps.Uses.{count_of}
use Rattle.command_explain.proofs.uses.tally.Given as goal

abbrev pub invariant-loop-identity : goal.invariant-loop-identity
invariant-loop-identity l =
    (q : Identity) → unwrap_or (get same_identity l.counts q) 0 ≡ count_of q (take l.identity-index l.all)
