-- An entry whose reply is Pending is a Run that is admitted.
use Rattle.std.proofs.Common.{◌≡◌, ℕ, true, false, Some, refl, ap, ◌∙◌}
use Rattle.nvme_entry.specs.declared.command.RunCommand.{RunCommand}
use Rattle.device_meaning.specs.Judging.{Judge}
use Rattle.device_meaning.specs.EventReplies.{Happening, Submission, submission_of}
use Rattle.device_events.specs.Replies.{ReplyWithData, without_data}
use Rattle.pushdown.specs.Laws.{PendingIsAdmitted}
use Rattle.pushdown.specs.Pushdown.{IsAdmitted}
use Rattle.device_meaning.specs.State.{State}
use Rattle.device_events.specs.declared.reply.Reply.{Reply}
use Rattle.device_events.specs.declared.reply.Reply.TheVariants as reply
use Rattle.device_meaning.proofs.Proved.{HoldsOfEach, of_entry, is_pending}

abbrev run_in : Reply → ℕ
run_in (reply.Pending run) = run
run_in (reply.Complete queue entry length) = 0
run_in reply.Idle = 0
run_in reply.FaultTaken = 0
run_in reply.FaultRefused = 0

other_reply : (t : ReplyWithData) (run : ℕ) → is_pending t.reply ≡ false → t ≡ without_data (reply.Pending run) → ⊥
other_reply t run other is =
    let pends_so : is_pending t.reply ≡ true = ap (λ (x : ReplyWithData). is_pending x.reply) is in cc

module _ (judge : Judge) (sub : Submission) (s : State) (run : ℕ) where
  -- where the reply is Pending, a Run is admitted
  abbrev AdmittedIfPending : Happening → Type 0
  AdmittedIfPending h = h.reply ≡ without_data (reply.Pending run) → (command : RunCommand) × IsAdmitted s sub command run

  -- it is so of each entry
  pends : HoldsOfEach judge AdmittedIfPending sub s
  pends = record {
    unchanged = λ status output untrapped is. absurd (other_reply _ run refl is);
    standard = λ c asked is. absurd (other_reply _ run refl is);
    load = λ load h asked loads is. absurd (other_reply _ run loads.replied is);
    start = λ command first asked passed at is.
        let same : first ≡ run = ap (λ (x : ReplyWithData). run_in x.reply) is in
        (command, record { asked = asked; passed = passed; free = at ∙ ap Some same });
  }

module _ (judge : Judge) where
  pub pending_is_admitted : PendingIsAdmitted judge
  pending_is_admitted s starved queue entry input run is =
      let sub = submission_of queue entry input in
      of_entry judge (AdmittedIfPending judge sub s run) sub s (pends judge sub s run) starved is
