use Rattle.std.proofs.Common.{◌∙◌, rules, subst, sym}
use Rattle.std.proofs.lemmas.Result.{err_from_is_err_and, IfErr-weaker, on_ok_weaker}
use Rattle.command_files.proofs.Proved.{leaves_as_before, others_kept}
use Rattle.device_meaning.specs.Judging.{judge_by}
use Rattle.device_meaning.specs.State.{State}
use Rattle.command_images.specs.Devices.{TellNamespace}
use Rattle.command_images.specs.Images.{image_of}
use Rattle.command_exec.specs.Executed.{commands_of}
use Rattle.command_exec.proofs.Failing.{quiet, quiet_of_saving, exec_of_commands, exec_of_loading, exec_of_reading, exec_of_saving, exec_of_writing}
use Rattle.command_exec.proofs.Saving.{executed_leaves, executes, executes_first, executes_unsaved}
use Rattle.command_exec.proofs.exec.exec_by.Goals as goal

pub returns-in-Ok-clause-executed : goal.returns-in-Ok-clause-executed
returns-in-Ok-clause-executed g c =
    executes (judge_by g.D.Domain.operations) g.F.Reader.Source.tells g.F.Writer.Sink.tells (g.F.Files.contents c.args.files.now) (g.F.Files.contents c.load_to_replace.new.files)
    c.required-path.result.now c.required-commands.result.now c.args.matches.now
    c.in_ok-file.file.items c.as_slice.result.now c.deref_mut.result.now.namespace c.in-Ok.told.events.items
    (g.F.Files.made c.args.files.now) (g.F.Files.made c.check_place.new.files) (g.F.Files.made c.run.new.files)
    c.load_to_replace.ensures.contents c.required-path.ensures c.required-commands.ensures (search rules) c.in_ok-file.ensures.bytes c.as_slice.ensures.value c.in-Ok.ensures.events
    (g.F.Files.contents c.check_place.new.files) _ _ c.asks_stop.result c.asks_words.result _ _ c.run.result c.asks_stop.ensures c.asks_words.ensures (subst (λ (s : State). g.F.Reader.Source.tells → TellNamespace (g.F.Files.contents c.args.files.now c.required-path.result.now) s.namespace)
    (sym c.deref_mut.ensures.value) c.in_ok-device.ensures.namespace) (c.check_place.ensures.contents ∙ c.read.ensures.contents ∙ c.load_to_replace.ensures.contents)
    (search rules) c.run.ensures.saved (search rules)

pub returns-in-Ok-clause-stopped : goal.returns-in-Ok-clause-stopped
returns-in-Ok-clause-stopped g c = λ stops.
    executes_first (judge_by g.D.Domain.operations) g.F.Reader.Source.tells g.F.Writer.Sink.tells (g.F.Files.contents c.args.files.now) (g.F.Files.contents c.load_to_replace.new.files)
    c.required-path.result.now c.required-commands.result.now c.args.matches.now
    c.in_ok-file.file.items c.as_slice.result.now c.deref_mut.result.now.namespace c.in-Ok.told.events.items
    (g.F.Files.made c.args.files.now) (g.F.Files.made c.check_place.new.files) (g.F.Files.made c.run.new.files)
    c.load_to_replace.ensures.contents c.required-path.ensures c.required-commands.ensures (search rules) c.in_ok-file.ensures.bytes c.as_slice.ensures.value c.in-Ok.ensures.events
    (g.F.Files.contents c.check_place.new.files) _ (subst (λ (s : State). g.F.Reader.Source.tells → TellNamespace (g.F.Files.contents c.args.files.now c.required-path.result.now) s.namespace)
    (sym c.deref_mut.ensures.value) c.in_ok-device.ensures.namespace) (c.check_place.ensures.contents ∙ c.read.ensures.contents ∙ c.load_to_replace.ensures.contents) (c.run.ensures.stopped stops) (search rules)

pub returns-in_err-device-clause-failed : goal.returns-in_err-device-clause-failed
returns-in_err-device-clause-failed g c =
    let p = err_from_is_err_and c.from_residual.result c.from_residual.ensures.1 in
    rw (p.1, p.2) (exec_of_loading c.args.matches.now g.F.Reader.Source.tells (g.F.Files.contents c.args.files.now) (image_of c.args.matches.now) (commands_of c.args.matches.now)
    c.required-path.result.now c.required-path.ensures c.in_err-device.field-0.0 c.in_err-device.ensures.failed)

pub returns-in_err-file-clause-failed : goal.returns-in_err-file-clause-failed
returns-in_err-file-clause-failed g c =
    let p = err_from_is_err_and c.from_residual-in_err-file.result c.from_residual-in_err-file.ensures.1 in
    rw (p.1, p.2) (exec_of_reading c.args.matches.now g.F.Reader.Source.tells (g.F.Files.contents c.args.files.now) (image_of c.args.matches.now) (commands_of c.args.matches.now)
    c.required-commands.result c.required-commands.ensures c.in_err-file.field-0.0 c.in_err-file.ensures.unread)

pub returns-clause-failed : goal.returns-clause-failed
returns-clause-failed g c =
    rw c.of_commands.ensures.told (exec_of_commands c.args.matches.now g.F.Reader.Source.tells (g.F.Files.contents c.args.files.now) (image_of c.args.matches.now) (commands_of c.args.matches.now)
    c.required-commands.result c.required-commands.ensures (g.F.Files.contents c.load_to_replace.new.files) c.load_to_replace.ensures.contents
    c.in_ok-file.file.items c.as_slice.result.now c.as_slice.ensures.value c.in_ok-file.ensures.bytes c.in-Err.fault c.in-Err.ensures.events)

pub returns-in-Ok-clause-failed : goal.returns-in-Ok-clause-failed
returns-in-Ok-clause-failed g c =
    IfErr-weaker c.run.result _ _
    (exec_of_saving c.args.matches.now g.F.Reader.Source.tells (g.F.Files.contents c.args.files.now) (image_of c.args.matches.now) (commands_of c.args.matches.now)
    c.required-path.result c.required-path.ensures) c.run.ensures.failed

pub returns-in-Ok-clause-others : goal.returns-in-Ok-clause-others
returns-in-Ok-clause-others g c =
    on_ok_weaker c.run.result
    (others_kept c.required-path.result.now _ _ _ _ c.required-path.ensures (c.check_place.ensures.contents ∙ c.read.ensures.contents ∙ c.load_to_replace.ensures.contents)) c.run.ensures.others

pub returns-in-Ok-clause-others_stopped : goal.returns-in-Ok-clause-others_stopped
returns-in-Ok-clause-others_stopped g c = λ stops.
    others_kept c.required-path.result.now _ _ _ _ c.required-path.ensures (c.check_place.ensures.contents ∙ c.read.ensures.contents ∙ c.load_to_replace.ensures.contents)
    (c.run.ensures.others_stopped stops)

pub returns-in_err-device-clause-quiet : goal.returns-in_err-device-clause-quiet
returns-in_err-device-clause-quiet g c =
    let p = err_from_is_err_and c.from_residual.result c.from_residual.ensures.1 in
    rw p.1 (quiet (image_of c.args.matches.now) _ _ _ (search rules) p.0)

pub returns-in_err-file-clause-quiet : goal.returns-in_err-file-clause-quiet
returns-in_err-file-clause-quiet g c =
    let p = err_from_is_err_and c.from_residual-in_err-file.result c.from_residual-in_err-file.ensures.1 in
    rw p.1 (quiet (image_of c.args.matches.now) _ _ _ (search rules) p.0)

pub returns-clause-quiet : goal.returns-clause-quiet
returns-clause-quiet g c = quiet (image_of c.args.matches.now) _ _ _ (search rules) c.of_commands.result

pub returns-in-Ok-clause-quiet : goal.returns-in-Ok-clause-quiet
returns-in-Ok-clause-quiet g c =
    quiet_of_saving c.required-path.result (image_of c.args.matches.now) _ _ _ _ c.run.result c.required-path.ensures
    (executes_unsaved (judge_by g.D.Domain.operations) g.F.Reader.Source.tells g.F.Writer.Sink.tells (g.F.Files.contents c.args.files.now) (g.F.Files.contents c.load_to_replace.new.files)
    c.required-path.result.now c.required-commands.result.now c.args.matches.now
    c.in_ok-file.file.items c.as_slice.result.now c.deref_mut.result.now.namespace c.in-Ok.told.events.items
    (g.F.Files.made c.args.files.now) (g.F.Files.made c.check_place.new.files) (g.F.Files.made c.run.new.files)
    c.load_to_replace.ensures.contents c.required-path.ensures c.required-commands.ensures (search rules) c.in_ok-file.ensures.bytes c.as_slice.ensures.value c.in-Ok.ensures.events
    _ c.asks_stop.result c.asks_words.result (g.O.Write.contents c.args.out.now) (g.O.Write.contents c.run.new.out) c.asks_stop.ensures c.asks_words.ensures (subst (λ (s : State). g.F.Reader.Source.tells → TellNamespace (g.F.Files.contents c.args.files.now c.required-path.result.now) s.namespace)
    (sym c.deref_mut.ensures.value) c.in_ok-device.ensures.namespace) (search rules))
    c.run.ensures.failed c.run.ensures.unsaved

pub returns-in_err-device-clause-crash : goal.returns-in_err-device-clause-crash
returns-in_err-device-clause-crash g c = leaves_as_before (image_of c.args.matches.now) _ _ _ c.load_to_replace.ensures.tried

pub returns-in_err-file-clause-crash : goal.returns-in_err-file-clause-crash
returns-in_err-file-clause-crash g c = leaves_as_before (image_of c.args.matches.now) _ _ _ (c.read.ensures.tried ∙ c.load_to_replace.ensures.tried)

pub returns-clause-crash : goal.returns-clause-crash
returns-clause-crash g c = leaves_as_before (image_of c.args.matches.now) _ _ _ (c.read.ensures.tried ∙ c.load_to_replace.ensures.tried)

pub returns-in_err-check_place-in-Ok-clause-failed : goal.returns-in_err-check_place-in-Ok-clause-failed
returns-in_err-check_place-in-Ok-clause-failed g c =
    let p = err_from_is_err_and c.from_residual-in_err-check_place-in-Ok.result c.from_residual-in_err-check_place-in-Ok.ensures.1 in
    rw (p.1, p.2) (exec_of_writing c.args.matches.now g.F.Reader.Source.tells (g.F.Files.contents c.args.files.now) (image_of c.args.matches.now) (commands_of c.args.matches.now)
    c.required-path.result c.required-path.ensures c.in_err-check_place-in-Ok.field-0.0 c.in_err-check_place-in-Ok.ensures.unwritten)

pub returns-in_err-check_place-in-Ok-clause-quiet : goal.returns-in_err-check_place-in-Ok-clause-quiet
returns-in_err-check_place-in-Ok-clause-quiet g c =
    let p = err_from_is_err_and c.from_residual-in_err-check_place-in-Ok.result c.from_residual-in_err-check_place-in-Ok.ensures.1 in
    rw p.1 (quiet (image_of c.args.matches.now) _ _ _ (search rules) p.0)

pub returns-in_err-check_place-in-Ok-clause-crash : goal.returns-in_err-check_place-in-Ok-clause-crash
returns-in_err-check_place-in-Ok-clause-crash g c =
    leaves_as_before (image_of c.args.matches.now) _ _ _ (c.check_place.ensures.tried ∙ c.read.ensures.tried ∙ c.load_to_replace.ensures.tried)

pub returns-in-Ok-clause-crash : goal.returns-in-Ok-clause-crash
returns-in-Ok-clause-crash g c =
    executed_leaves (judge_by g.D.Domain.operations) g.F.Reader.Source.tells g.F.Writer.Sink.tells (g.F.Files.contents c.args.files.now) (g.F.Files.contents c.load_to_replace.new.files)
    c.required-path.result.now c.required-commands.result.now c.args.matches.now
    c.in_ok-file.file.items c.as_slice.result.now c.deref_mut.result.now.namespace c.in-Ok.told.events.items
    (g.F.Files.made c.args.files.now) (g.F.Files.made c.check_place.new.files) (g.F.Files.made c.run.new.files)
    c.load_to_replace.ensures.contents c.required-path.ensures c.required-commands.ensures (search rules) c.in_ok-file.ensures.bytes c.as_slice.ensures.value c.in-Ok.ensures.events
    _ _ _ _ (subst (λ (s : State). g.F.Reader.Source.tells → TellNamespace (g.F.Files.contents c.args.files.now c.required-path.result.now) s.namespace)
    (sym c.deref_mut.ensures.value) c.in_ok-device.ensures.namespace) (search rules) (c.check_place.ensures.tried ∙ c.read.ensures.tried ∙ c.load_to_replace.ensures.tried) c.run.ensures.crash
