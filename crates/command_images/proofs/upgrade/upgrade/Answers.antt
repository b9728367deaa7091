use Rattle.std.proofs.Common.{List, ℕ, ap, subst, ◌∙◌}
use Rattle.std.proofs.lemmas.Result.{err_from_is_err_and, IfErr-weaker, on_ok_weaker}
use Rattle.device_meaning.specs.State.{State}
use Rattle.command_files.proofs.Proved.{modes_kept, others_kept}
use Rattle.command_images.specs.UserTold.{ReplacingFails}
use Rattle.command_images.proofs.Making.{makes_anew, upgrade_of_writing}
use Rattle.command_images.proofs.upgrade.upgrade.Goals as goal

pub returns-clause-same : goal.returns-clause-same
returns-clause-same g c =
    makes_anew g.F.Reader.Source.tells g.F.Writer.Sink.tells c.save.result (g.F.Files.contents c.args.files.now) c.in_ok-device.device.value.namespace c.image.result.now
    c.required-path.result.now _
    (g.F.Files.made c.args.files.now) _ (g.F.Files.made c.save.new.files) c.required-path.ensures c.load_to_replace.ensures.made
    (c.image.ensures.value ∙ ap (λ (device : State). device.namespace) c.deref.ensures) c.in_ok-device.ensures.namespace c.save.ensures.saved

pub returns-in_err-device-clause-failed : goal.returns-in_err-device-clause-failed
returns-in_err-device-clause-failed g c =
    let p = err_from_is_err_and c.from_residual.result c.from_residual.ensures.1 in
    rw (p.1, p.2) (subst (λ (path : List ℕ). ReplacingFails g.F.Reader.Source.tells (g.F.Files.contents c.args.files.now path) path c.in_err-device.field-0.0) c.required-path.ensures
    c.in_err-device.ensures.failed)

pub returns-clause-failed : goal.returns-clause-failed
returns-clause-failed g c =
    IfErr-weaker c.save.result _ _ (upgrade_of_writing c.required-path.result _ c.required-path.ensures g.F.Reader.Source.tells _) c.save.ensures.unwritten

pub returns-clause-others : goal.returns-clause-others
returns-clause-others g c =
    on_ok_weaker c.save.result (others_kept c.required-path.result.now _ _ _ _ c.required-path.ensures c.load_to_replace.ensures.contents) c.save.ensures.others

pub returns-clause-modes : goal.returns-clause-modes
returns-clause-modes g c = on_ok_weaker c.save.result (modes_kept _ _ _ c.load_to_replace.ensures.modes) c.save.ensures.modes
