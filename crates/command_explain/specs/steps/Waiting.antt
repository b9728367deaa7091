-- The submissions that wait for their completions.
use Rattle.std.specs.Prelude.{◌≡◌, List, Option, None, MatchOption, position, remove, slice_get}
use Rattle.command_explain.specs.declared.submissions.Identity.{Identity}
use Rattle.command_explain.specs.declared.submissions.Submission.{Submission}
use Rattle.command_explain.specs.steps.Submissions.{same_identity}

-- the first with this identity waits no longer, and is given; where none has it, nothing changes
abbrev pub TakesFirst : Identity → List Submission → List Submission → Option Submission → Type 0
TakesFirst identity old new given = MatchOption (position (λ (submission : Submission). same_identity submission.identity identity) old)
    ((given ≡ None) × (new ≡ old))
    (λ at. (given ≡ slice_get old at) × (new ≡ remove old at))
