-- How often a queue and a command identifier are used.
use Rattle.std.specs.Prelude.{ℕ, ◌≡◌, ◌+◌, ◌*◌, ◌==◌, Bool, false, nat_lt, if◌then◌else◌, List, count_by, find, map, reverse, slice_index, Option, Some, None, option_map, unwrap_or}
use Rattle.std.specs.List.{filter_map}
use Rattle.std.specs.HashMap.{get}
use Rattle.device_events.specs.declared.reply.Reply.{Reply}
use Rattle.device_events.specs.declared.reply.Reply.TheVariants as reply
use Rattle.event_text.specs.ReplyFile.{reply_of}
use Rattle.event_text.specs.declared.reply_file.ToldReply.{ToldReply}
use Rattle.command_explain.specs.declared.submissions.Identity.{Identity}
use Rattle.command_explain.specs.declared.submissions.Submission.{Submission}
use Rattle.command_explain.specs.declared.uses.Doubt.{Doubt}
use Rattle.command_explain.specs.declared.uses.Doubt.TheVariants.{Counts, BehindRun}
use Rattle.command_explain.specs.declared.uses.Uses.{Uses}
use Rattle.command_explain.specs.steps.Submissions.{is_run, same_identity}

-- how often an identity stands in a list
abbrev pub count_of : Identity → List Identity → ℕ
count_of identity identities = count_by (λ other. same_identity identity other) identities

-- the identity of a submission that is a Run
abbrev pub run_in : Submission → Option Identity
run_in submission = if is_run submission.entry then Some submission.identity else None

-- the identity of a completion, whose bytes 12 and 13 have the command identifier (NVMe Base 2.0, 3.3.3.2)
abbrev pub identity_in : ℕ → List ℕ → Identity
identity_in queue entry = record { queue = queue; cid = slice_index entry 12 + 256 * slice_index entry 13 }

abbrev pub completion_of : Reply → Option Identity
completion_of (reply.Complete queue entry length) = Some (identity_in queue entry)
completion_of (reply.Pending run) = None
completion_of reply.Idle = None
completion_of reply.FaultTaken = None
completion_of reply.FaultRefused = None

-- the identity of a reply that is one
abbrev pub completion_in : ToldReply → Option Identity
completion_in told = completion_of (reply_of told)

-- is the last submission that has an identity a Run? None where no submission has it
abbrev pub ends_in_run : Identity → List Submission → Option Bool
ends_in_run identity submissions =
    option_map (λ (submission : Submission). is_run submission.entry)
    (find (λ (submission : Submission). same_identity submission.identity identity) (reverse submissions))

-- of an identity the submissions, the completions, the Runs, and whether the last submission is a Run, are those of these lists
pub record AreCountedOf (identity : Identity) (all : List Submission) (told : List ToldReply) (uses : Uses) : Type 0 where
  pub submissions : unwrap_or (get same_identity uses.submissions identity) 0
      ≡ count_of identity (map (λ (submission : Submission). submission.identity) all)
  pub runs : unwrap_or (get same_identity uses.runs identity) 0 ≡ count_of identity (filter_map run_in all)
  pub ends_in_run : get same_identity uses.ends_in_run identity ≡ ends_in_run identity all
  pub completions : unwrap_or (get same_identity uses.completions identity) 0 ≡ count_of identity (filter_map completion_in told)

-- the same of every identity
abbrev pub AreCounted : List Submission → List ToldReply → Uses → Type 0
AreCounted submissions replies uses = (identity : Identity) → AreCountedOf identity submissions replies uses

-- each submission has one completion, and those of commands that are no Runs come in the order of the submissions: so where there are
-- as many completions as submissions, and none but the last of these is a Run, all are paired in order; else there is a doubt
abbrev pub doubt_of : ℕ → ℕ → ℕ → Bool → Option Doubt
doubt_of submissions completions runs last =
    if submissions == completions
    then (if nat_lt (if last then 1 else 0) runs then Some (BehindRun submissions) else None)
    else Some (Counts submissions completions)

-- the doubt about completions with an identity
abbrev pub doubt_at : Identity → Uses → Option Doubt
doubt_at identity uses =
    doubt_of (unwrap_or (get same_identity uses.submissions identity) 0) (unwrap_or (get same_identity uses.completions identity) 0)
    (unwrap_or (get same_identity uses.runs identity) 0) (unwrap_or (get same_identity uses.ends_in_run identity) false)
