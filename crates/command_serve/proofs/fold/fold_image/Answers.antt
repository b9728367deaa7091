use Rattle.std.proofs.lemmas.Result.{on_ok_weaker}
use Rattle.command_serve.proofs.Replacing.{may_replace_after}
use Rattle.command_serve.proofs.fold.fold_image.Goals as goal

pub returns-then-branch-clause-replaced : goal.returns-then-branch-clause-replaced
returns-then-branch-clause-replaced g c =
    let path = c.args.path.now in
    let held = c.hold.new.files in
    let read = c.is_journal.new.files in
    let last = c.fold_held.new.files in
    on_ok_weaker c.fold_held.result
    (λ replaced. may_replace_after g.F.Files path c.args.files.now held last c.hold.ensures.made c.hold.ensures.contents c.hold.ensures.modes
    (may_replace_after g.F.Files path held read last c.is_journal.ensures.made c.is_journal.ensures.contents c.is_journal.ensures.modes
    replaced)) c.fold_held.ensures.replaced
