use Rattle.std.proofs.Common.{ap, List, None, ◌≡◌, ◌∙◌}
use Rattle.std.proofs.lemmas.Result.{err_from_is_err_and}
use Rattle.device_events.specs.Replies.{ReplyWithData}
use Rattle.device_meaning.specs.Judging.{judge_by}
use Rattle.image_text.specs.Text.{text}
use Rattle.command_files.specs.Crash.{AreWritten}
use Rattle.command_files.specs.Surroundings.{around}
use Rattle.command_files.proofs.Proved.{leaves_weaker}
use Rattle.command_exec.specs.Executed.{AreLeft}
use Rattle.command_exec.specs.declared.worded.Worded.{Worded}
use Rattle.command_exec.specs.steps.Tallied.{told_of_tally}
use Rattle.command_exec.proofs.Failing.{leaves_of_saving, saving_of_changes}
use Rattle.command_exec.proofs.Saving.{begins_new, done_unsaved, prints_something, saves_all, saves_first, shown_is_left, tells}
use Rattle.command_exec.proofs.running.run_in_words.Goals as goal

pub returns-in-Ok-clause-saved : goal.returns-in-Ok-clause-saved
returns-in-Ok-clause-saved g c =
    saves_all (judge_by g.D.Domain.operations) (around g.F.Files g.F.Reader.Source.tells g.F.Writer.Sink.tells c.args.files.now c.save_changes.new.files) c.args.work.now.events.now c.args.device.now.namespace c.image.result.now c.args.path.now
    c.serve_and_drain-done.new.device c.in_ok-save_changes.ensures.saved c.image.ensures.value c.args.work.now.stops _
    (begins_new (judge_by g.D.Domain.operations) c.args.work.now.stops c.args.work.now.events.now c.args.device.now.namespace c.args.device.now c.serve_and_drain-done.new.device _ _ c.requires.new
    (tells (λ (then now : Worded _) (replies : List ReplyWithData). now.out.ghost_name ≡ then.out.ghost_name) c.args.work.now.numbers.now c.new-watched.result c.serve_and_drain-done.new.replies c.refused.result None None
    c.refused.ensures.few c.new-watched.ensures.none (c.refused.ensures.told ∙ ap (told_of_tally c.args.work.now.numbers.now) c.tally-tally.ensures)
    (λ replies took. tt)) c.in-Ok.ensures.done)

pub returns-clause-stopped : goal.returns-clause-stopped
returns-clause-stopped g c = λ _.
    saves_first (judge_by g.D.Domain.operations) (around g.F.Files g.F.Reader.Source.tells g.F.Writer.Sink.tells c.args.files.now c.save_changes.new.files) c.args.work.now.events.now c.args.device.now.namespace c.image.result.now c.args.path.now
    c.serve_and_drain-done.new.device c.in_ok-save_changes.ensures.saved c.image.ensures.value
    c.args.device.now c.requires.new c.in-Err.ensures.stopped

pub returns-in_err-save_changes-clause-failed : goal.returns-in_err-save_changes-clause-failed
returns-in_err-save_changes-clause-failed g c =
    let p = err_from_is_err_and c.from_residual-in_err-save_changes.result c.from_residual-in_err-save_changes.ensures.1 in
    rw (p.1, p.2) (saving_of_changes c.args.path _ c.in_err-save_changes.ensures.failed)

pub returns-in-Ok-clause-others : goal.returns-in-Ok-clause-others
returns-in-Ok-clause-others g c = c.in_ok-save_changes.ensures.others

pub returns-clause-others_stopped : goal.returns-clause-others_stopped
returns-clause-others_stopped g c = λ _. c.in_ok-save_changes.ensures.others

pub returns-in-Ok-clause-crash : goal.returns-in-Ok-clause-crash
returns-in-Ok-clause-crash g c =
    let writes = g.F.Writer.Sink.tells in
    leaves_weaker c.args.path.now (AreWritten writes (text c.image.result.now)) (AreLeft (judge_by g.D.Domain.operations) writes c.args.work.now.events.now c.args.device.now.namespace)
    (shown_is_left (judge_by g.D.Domain.operations) c.args.work.now.stops c.serve_and_drain-done.result writes c.args.work.now.events.now c.args.device.now.namespace c.image.result.now c.args.device.now c.serve_and_drain-done.new.device
    _ c.requires.new c.image.ensures.value c.serve_and_drain-done.ensures.done c.serve_and_drain-done.ensures.stopped)
    _ _ c.save_changes.ensures.crash

pub returns-clause-crash : goal.returns-clause-crash
returns-clause-crash g c =
    let writes = g.F.Writer.Sink.tells in
    leaves_weaker c.args.path.now (AreWritten writes (text c.image.result.now)) (AreLeft (judge_by g.D.Domain.operations) writes c.args.work.now.events.now c.args.device.now.namespace)
    (shown_is_left (judge_by g.D.Domain.operations) c.args.work.now.stops c.serve_and_drain-done.result writes c.args.work.now.events.now c.args.device.now.namespace c.image.result.now c.args.device.now c.serve_and_drain-done.new.device
    _ c.requires.new c.image.ensures.value c.serve_and_drain-done.ensures.done c.serve_and_drain-done.ensures.stopped)
    _ _ c.save_changes.ensures.crash

pub returns-in_err-save_changes-clause-crash : goal.returns-in_err-save_changes-clause-crash
returns-in_err-save_changes-clause-crash g c =
    let writes = g.F.Writer.Sink.tells in
    leaves_weaker c.args.path.now (AreWritten writes (text c.image.result.now)) (AreLeft (judge_by g.D.Domain.operations) writes c.args.work.now.events.now c.args.device.now.namespace)
    (shown_is_left (judge_by g.D.Domain.operations) c.args.work.now.stops c.serve_and_drain-done.result writes c.args.work.now.events.now c.args.device.now.namespace c.image.result.now c.args.device.now c.serve_and_drain-done.new.device
    _ c.requires.new c.image.ensures.value c.serve_and_drain-done.ensures.done c.serve_and_drain-done.ensures.stopped)
    _ _ c.save_changes.ensures.crash

pub returns-in_err-save_changes-clause-unsaved : goal.returns-in_err-save_changes-clause-unsaved
returns-in_err-save_changes-clause-unsaved g c =
    let p = err_from_is_err_and c.from_residual-in_err-save_changes.result c.from_residual-in_err-save_changes.ensures.1 in
    rw (p.1, p.2) (leaves_of_saving _ _ c.in_err-save_changes.field-0.0
    (done_unsaved (judge_by g.D.Domain.operations) c.args.work.now.stops c.serve_and_drain-done.result c.args.work.now.events.now c.args.device.now.namespace c.args.device.now c.serve_and_drain-done.new.device None None c.requires.new
    (prints_something (judge_by g.D.Domain.operations) c.args.work.now.stops c.args.work.now.events.now c.args.device.now c.serve_and_drain-done.new.device _
    c.serve_and_drain-done.result c.serve_and_drain-done.ensures.done)
    c.serve_and_drain-done.ensures.stopped))
