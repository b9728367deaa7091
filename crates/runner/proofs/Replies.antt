-- What answers come to as replies.
use Rattle.std.proofs.Common.{◌≡◌, ℕ, ◌≤◌, Bool, List, [], length, take, Result, ap, sym, ◌∙◌, arith}
use Rattle.std.proofs.lemmas.List.{length-take-le}
use Rattle.zone_state.specs.declared.status.Status.{Status}
use Rattle.nvme_entry.specs.Completion.{completion_bytes}
use Rattle.nvme_entry.specs.Entry.{identifier_of}
use Rattle.nvme_entry.specs.declared.command.Command.{Command}
use Rattle.device_meaning.specs.Judging.{Judge}
use Rattle.zns_commands.specs.Answer.{refused_answer}
use Rattle.zns_commands.specs.declared.answer.Answer.{Answer}
use Rattle.device_meaning.specs.EventReplies.{Happening, Submission, completed, refused}
use Rattle.device_events.specs.Replies.{without_data}
use Rattle.device_meaning.specs.Happenings.{submitted}
use Rattle.device_meaning.specs.State.{State}
use Rattle.device_events.specs.declared.reply.Reply.{Reply}
use Rattle.device_events.specs.declared.reply.Reply.TheVariants as reply
use Rattle.runner.specs.steps.Answered.{HasSubmitted, answered, as_submission, complete_reply, with_data}
use Rattle.runner.specs.declared.submission.Submission.{Submission as GivenSubmission}

module _ (judge : Judge) (told : GivenSubmission) (asked : Result Command Status) (old new : State) (starved : Bool) (answer : Answer) (r : Reply) where
  abbrev sub : Submission
  sub = as_submission told

  -- an answer with its bytes, as a reply and the bytes in front
  pub replied : (bytes : List ℕ) → submitted judge starved sub old asked ≡ answered sub answer bytes new
      → r ≡ complete_reply sub.queue (identifier_of sub.entry) answer → answer.length ≤ length bytes
      → HasSubmitted judge told asked old new (with_data r bytes)
  replied bytes is as_reply within =
      let entry = completion_bytes (record { dw0 = answer.dw0; dw1 = answer.dw1; queue = sub.queue; cid = identifier_of sub.entry; status = answer.status }) in
      let counting : ℕ → Happening =
      λ n. record { reply = record { reply = reply.Complete sub.queue entry n; bytes = take answer.length bytes }; state = new } in
      let replying : Reply → Happening = λ x. record { reply = with_data x bytes; state = new } in
      record { starved = starved; happening = is ∙ ap counting (length-take-le answer.length bytes within) ∙ ap replying (sym as_reply) }

  -- an answer without data
  pub replied_alone : (bytes : List ℕ) → submitted judge starved sub old asked ≡ answered sub answer [] new
      → r ≡ complete_reply sub.queue (identifier_of sub.entry) answer → answer.length ≡ 0
      → HasSubmitted judge told asked old new (with_data r bytes)
  replied_alone bytes is as_reply none =
      let same = ap (λ (n : ℕ). take n []) none ∙ sym (ap (λ (n : ℕ). take n bytes) none) in
      replied bytes (is ∙ ap (λ (output : List ℕ). completed sub answer.status answer.dw0 answer.dw1 output new) same) as_reply (omega (arith, none))

  pub replied_refusal : (status : Status) → submitted judge starved sub old asked ≡ refused sub status old
      → r ≡ complete_reply sub.queue (identifier_of sub.entry) answer → answer ≡ refused_answer status → new ≡ old
      → HasSubmitted judge told asked old new (without_data r)
  replied_refusal status is as_reply refusing same =
      let replying : Reply → Happening = λ x. record { reply = without_data x; state = old } in
      let leaving : State → Happening = λ s. record { reply = without_data r; state = s } in
      record {
        starved = starved;
        happening = is ∙ ap replying (sym (as_reply ∙ ap (complete_reply sub.queue (identifier_of sub.entry)) refusing)) ∙ ap leaving (sym same);
      }
