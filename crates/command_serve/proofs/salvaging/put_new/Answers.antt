use Rattle.std.proofs.lemmas.Result.{IfErr-weaker, on_ok_weaker}
use Rattle.command_files.specs.UserTold.{IsUnwritten}
use Rattle.command_serve.specs.Salvaging.{IsNotMade}
use Rattle.command_serve.proofs.Replacing.{replaces_after}
use Rattle.command_serve.proofs.Saved.{unwritten_not_made}
use Rattle.command_serve.proofs.salvaging.put_new.Goals as goal

pub returns-in-Ok-clause-failed : goal.returns-in-Ok-clause-failed
returns-in-Ok-clause-failed g c =
    IfErr-weaker c.put.result (IsUnwritten c.args.to) (IsNotMade c.args.to) (unwritten_not_made c.args.to) c.put.ensures.unwritten

pub returns-in-Ok-clause-replaced : goal.returns-in-Ok-clause-replaced
returns-in-Ok-clause-replaced g c =
    on_ok_weaker c.put.result
    (replaces_after g.F.Files c.args.to.now c.args.files.now c.hold_new.new.files c.put.new.files c.hold_new.ensures.made
    c.hold_new.ensures.contents c.hold_new.ensures.modes) c.put.ensures.replaced
