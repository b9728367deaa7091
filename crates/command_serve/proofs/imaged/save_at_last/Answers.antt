use Rattle.command_files.proofs.Proved.{changes_none}
use Rattle.command_serve.proofs.Keeping.{changed_or_not}
use Rattle.command_serve.proofs.imaged.save_at_last.Goals as goal

pub returns-in-Some-clause-changes : goal.returns-in-Some-clause-changes
returns-in-Some-clause-changes g c = changes_none g.F.Files g.F.Writer.Sink.tells c.args.path.now c.args.files.now

pub returns-in-None-clause-changes : goal.returns-in-None-clause-changes
returns-in-None-clause-changes g c =
    let e = c.save_changes.ensures in
    changed_or_not g.F.Files g.F.Writer.Sink.tells c.args.path.now c.args.files.now c.save_changes.new.files c.args.image.now c.save_changes.result
    e.made e.kept c.save_changes.ensures.crash e.others e.contents e.modes e.modes_left
