use Rattle.std.proofs.lemmas.Result.{err_from_is_err_and, IfErr-weaker, on_ok_weaker}
use Rattle.command_files.proofs.Proved.{modes_kept, others_kept}
use Rattle.command_images.proofs.Making.{format_of_holding, format_of_shape, format_of_writing, makes_empty, may_replace}
use Rattle.command_images.proofs.format.format.Goals as goal

pub returns-clause-empty : goal.returns-clause-empty
returns-clause-empty g c =
    makes_empty g.F.Writer.Sink.tells c.save.result c.in_ok-image.image c.in_ok-geometry.geometry c.args.matches.now c.required-path.result.now _ _ _ _ c.in_ok-geometry.ensures.asked
    c.in_ok-geometry.ensures.passes c.in_ok-image.ensures c.required-path.ensures c.hold_to_format.ensures.made
    c.save.ensures.saved

pub returns-clause-replaceable : goal.returns-clause-replaceable
returns-clause-replaceable g c =
    may_replace c.save.result _ c.args.matches.now (g.F.Files.contents c.args.files.now) c.required-path.result.now _ c.required-path.ensures c.is_forced.ensures.0
    c.in_ok-hold_to_format.ensures.replaceable

pub returns-in_err-geometry-clause-failed : goal.returns-in_err-geometry-clause-failed
returns-in_err-geometry-clause-failed g c =
    let p = err_from_is_err_and c.from_residual.result c.from_residual.ensures.1 in
    rw (p.1, p.2) (format_of_shape c.args.matches.now _ _ _ c.in_err-geometry.ensures.refused)

pub returns-in_err-hold_to_format-clause-failed : goal.returns-in_err-hold_to_format-clause-failed
returns-in_err-hold_to_format-clause-failed g c =
    let p = err_from_is_err_and c.from_residual-in_err-hold_to_format.result c.from_residual-in_err-hold_to_format.ensures.1 in
    rw (p.1, p.2) (format_of_holding c.required-path.result _ c.required-path.ensures c.args.matches.now (g.F.Files.contents c.args.files.now) _ c.is_forced.ensures.1 _
    c.in_err-hold_to_format.ensures.failed)

pub returns-clause-failed : goal.returns-clause-failed
returns-clause-failed g c =
    IfErr-weaker c.save.result _ _ (format_of_writing c.required-path.result _ c.required-path.ensures c.args.matches.now _) c.save.ensures.unwritten

pub returns-clause-others : goal.returns-clause-others
returns-clause-others g c =
    on_ok_weaker c.save.result (others_kept c.required-path.result.now _ (g.F.Files.contents c.args.files.now) _ _ c.required-path.ensures c.hold_to_format.ensures.contents) c.save.ensures.others

pub returns-clause-modes : goal.returns-clause-modes
returns-clause-modes g c = on_ok_weaker c.save.result (modes_kept _ _ _ c.hold_to_format.ensures.modes) c.save.ensures.modes
