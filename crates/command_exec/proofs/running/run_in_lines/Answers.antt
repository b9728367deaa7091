use Rattle.std.proofs.Common.{ap, sym, ◌∙◌, rules}
use Rattle.std.proofs.lemmas.Result.{err_from_is_err_and}
use Rattle.device_meaning.specs.Judging.{judge_by}
use Rattle.event_text.specs.Lines.{Took, printed_by}
use Rattle.event_text.specs.declared.lines.Lines.{Lines}
use Rattle.image_text.specs.Text.{text}
use Rattle.command_files.specs.Crash.{AreWritten}
use Rattle.command_files.specs.Surroundings.{around}
use Rattle.command_files.proofs.Proved.{leaves_weaker}
use Rattle.command_exec.specs.Executed.{AreLeft}
use Rattle.command_exec.specs.steps.Tallied.{Watches, told_of_tally}
use Rattle.command_exec.proofs.Failing.{leaves_of_saving, saving_of_changes}
use Rattle.command_exec.proofs.Saving.{begins_new, done_unsaved, lines_printed, prints_lines, saves_all, saves_first, shown_is_left, tells}
use Rattle.command_exec.proofs.running.run_in_lines.Goals as goal

pub returns-in-Ok-clause-saved : goal.returns-in-Ok-clause-saved
returns-in-Ok-clause-saved g c =
    let contents = g.O.Write.contents in
    let writer = c.into_writer-out.ensures.same_writer ∙ ap (λ (lines : Lines _). lines.out.ghost_name) c.into_out-lines.ensures
    ∙ c.serve_and_drain-done.ensures.goes.1.0.0 ∙ ap (λ (lines : Lines _). lines.out.ghost_name) c.new-watched.ensures.out ∙ c.over.ensures.same_writer.0 in
    saves_all (judge_by g.D.Domain.operations) (around g.F.Files g.F.Reader.Source.tells g.F.Writer.Sink.tells c.args.files.now c.save_changes.new.files) c.args.work.now.events.now c.args.device.now.namespace c.image.result.now c.args.path.now
    c.serve_and_drain-done.new.device c.in_ok-save_changes.ensures.saved c.image.ensures.value c.args.work.now.stops _
    (begins_new (judge_by g.D.Domain.operations) c.args.work.now.stops c.args.work.now.events.now c.args.device.now.namespace c.args.device.now c.serve_and_drain-done.new.device (Watches (λ then now. Took (printed_by g.O.Write.contents then) (printed_by g.O.Write.contents now)) c.new-watched.result c.serve_and_drain-done.new.replies) _ c.requires.new
    (tells (λ then now. Took (printed_by contents then) (printed_by contents now)) c.args.work.now.numbers.now c.new-watched.result c.serve_and_drain-done.new.replies c.refused.result _ _
    c.refused.ensures.few c.new-watched.ensures.none (c.refused.ensures.told ∙ ap (told_of_tally c.args.work.now.numbers.now) c.tally-tally.ensures)
    (lines_printed contents c.new-watched.result c.serve_and_drain-done.new.replies _ _
    (ap (λ (lines : Lines _). contents lines.out.now) c.new-watched.ensures.out ∙ ap contents c.over.ensures.same_writer.1)
    (ap (λ (lines : Lines _). contents lines.out.now) (sym c.into_out-lines.ensures) ∙ ap contents (sym c.into_writer-out.ensures.value ∙ search rules)) c.in-Ok.ensures.count)) c.in-Ok.ensures.done)

pub returns-clause-stopped : goal.returns-clause-stopped
returns-clause-stopped g c = λ _.
    saves_first (judge_by g.D.Domain.operations) (around g.F.Files g.F.Reader.Source.tells g.F.Writer.Sink.tells c.args.files.now c.save_changes.new.files) c.args.work.now.events.now c.args.device.now.namespace c.image.result.now c.args.path.now
    c.serve_and_drain-done.new.device c.in_ok-save_changes.ensures.saved c.image.ensures.value
    c.args.device.now c.requires.new c.in-Err.ensures.stopped

pub returns-in_err-save_changes-clause-failed : goal.returns-in_err-save_changes-clause-failed
returns-in_err-save_changes-clause-failed g c =
    let p = err_from_is_err_and c.from_residual-in_err-save_changes.result c.from_residual-in_err-save_changes.ensures.1 in
    rw (p.1, p.2) (saving_of_changes c.args.path _ c.in_err-save_changes.ensures.failed)

pub returns-in-Ok-clause-others : goal.returns-in-Ok-clause-others
returns-in-Ok-clause-others g c = c.in_ok-save_changes.ensures.others

pub returns-clause-others_stopped : goal.returns-clause-others_stopped
returns-clause-others_stopped g c = λ _. c.in_ok-save_changes.ensures.others

pub returns-in-Ok-clause-crash : goal.returns-in-Ok-clause-crash
returns-in-Ok-clause-crash g c =
    let writes = g.F.Writer.Sink.tells in
    leaves_weaker c.args.path.now (AreWritten writes (text c.image.result.now)) (AreLeft (judge_by g.D.Domain.operations) writes c.args.work.now.events.now c.args.device.now.namespace)
    (shown_is_left (judge_by g.D.Domain.operations) c.args.work.now.stops c.serve_and_drain-done.result writes c.args.work.now.events.now c.args.device.now.namespace c.image.result.now c.args.device.now c.serve_and_drain-done.new.device
    _ c.requires.new c.image.ensures.value c.serve_and_drain-done.ensures.done c.serve_and_drain-done.ensures.stopped)
    _ _ c.save_changes.ensures.crash

pub returns-clause-crash : goal.returns-clause-crash
returns-clause-crash g c =
    let writes = g.F.Writer.Sink.tells in
    leaves_weaker c.args.path.now (AreWritten writes (text c.image.result.now)) (AreLeft (judge_by g.D.Domain.operations) writes c.args.work.now.events.now c.args.device.now.namespace)
    (shown_is_left (judge_by g.D.Domain.operations) c.args.work.now.stops c.serve_and_drain-done.result writes c.args.work.now.events.now c.args.device.now.namespace c.image.result.now c.args.device.now c.serve_and_drain-done.new.device
    _ c.requires.new c.image.ensures.value c.serve_and_drain-done.ensures.done c.serve_and_drain-done.ensures.stopped)
    _ _ c.save_changes.ensures.crash

pub returns-in_err-save_changes-clause-crash : goal.returns-in_err-save_changes-clause-crash
returns-in_err-save_changes-clause-crash g c =
    let writes = g.F.Writer.Sink.tells in
    leaves_weaker c.args.path.now (AreWritten writes (text c.image.result.now)) (AreLeft (judge_by g.D.Domain.operations) writes c.args.work.now.events.now c.args.device.now.namespace)
    (shown_is_left (judge_by g.D.Domain.operations) c.args.work.now.stops c.serve_and_drain-done.result writes c.args.work.now.events.now c.args.device.now.namespace c.image.result.now c.args.device.now c.serve_and_drain-done.new.device
    _ c.requires.new c.image.ensures.value c.serve_and_drain-done.ensures.done c.serve_and_drain-done.ensures.stopped)
    _ _ c.save_changes.ensures.crash

pub returns-in_err-save_changes-clause-unsaved : goal.returns-in_err-save_changes-clause-unsaved
returns-in_err-save_changes-clause-unsaved g c =
    let contents = g.O.Write.contents in
    let p = err_from_is_err_and c.from_residual-in_err-save_changes.result c.from_residual-in_err-save_changes.ensures.1 in
    let writer = c.into_writer-out.ensures.same_writer ∙ ap (λ (lines : Lines _). lines.out.ghost_name) c.into_out-lines.ensures
    ∙ c.serve_and_drain-done.ensures.goes.1.0.0 ∙ ap (λ (lines : Lines _). lines.out.ghost_name) c.new-watched.ensures.out ∙ c.over.ensures.same_writer.0 in
    rw (p.1, p.2) (leaves_of_saving _ _ c.in_err-save_changes.field-0.0
    (done_unsaved (judge_by g.D.Domain.operations) c.args.work.now.stops c.serve_and_drain-done.result c.args.work.now.events.now c.args.device.now.namespace c.args.device.now c.serve_and_drain-done.new.device _ _ c.requires.new
    (prints_lines contents c.new-watched.result c.serve_and_drain-done.new.replies _ _
    (ap (λ (lines : Lines _). contents lines.out.now) c.new-watched.ensures.out ∙ ap contents c.over.ensures.same_writer.1)
    (ap (λ (lines : Lines _). contents lines.out.now) (sym c.into_out-lines.ensures) ∙ ap contents (sym c.into_writer-out.ensures.value ∙ search rules)) (judge_by g.D.Domain.operations) c.args.work.now.stops c.args.work.now.events.now c.args.device.now c.serve_and_drain-done.new.device
    c.serve_and_drain-done.result c.serve_and_drain-done.ensures.count c.serve_and_drain-done.ensures.done)
    c.serve_and_drain-done.ensures.stopped))
