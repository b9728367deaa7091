-- Completions, each paired with a submission of a command file.
use Rattle.std.specs.Prelude.{◌≡◌, List, Option, IfSome, option_map}
use Rattle.nvme_entry.specs.declared.completion.Completion.{Completion}
use Rattle.event_text.specs.declared.reply_file.ToldReply.{ToldReply}
use Rattle.command_explain.specs.declared.pairing.Paired.{Paired}
use Rattle.command_explain.specs.declared.pairing.Pairing.{Pairing}
use Rattle.command_explain.specs.declared.submissions.Identity.{Identity}
use Rattle.command_explain.specs.declared.submissions.Submission.{Submission}
use Rattle.command_explain.specs.steps.Uses.{AreCounted, doubt_at}
use Rattle.command_explain.specs.steps.Waiting.{TakesFirst}

-- all submissions wait, and the uses are those of the submissions and the replies
pub record Begins (submissions : List Submission) (replies : List ToldReply) (pairing : Pairing) : Type 0 where
  pub waiting : pairing.waiting.submissions.items ≡ submissions
  pub counted : AreCounted submissions replies pairing.uses

-- the identity of a completion
abbrev pub identity_of : Completion → Identity
identity_of completion = record { queue = completion.queue; cid = completion.cid }

-- a completion with this identity is paired with the first submission that waits and has it, if one does, with the doubt about it;
-- the uses stay
pub record Pairs (identity : Identity) (old new : Pairing) (paired : Option Paired) : Type 0 where
  pub submission : TakesFirst identity old.waiting.submissions.items new.waiting.submissions.items
      (option_map (λ (paired : Paired). paired.submission) paired)
  pub doubt : IfSome paired (λ (paired : Paired). paired.doubt ≡ doubt_at identity old.uses)
  pub uses : new.uses ≡ old.uses
