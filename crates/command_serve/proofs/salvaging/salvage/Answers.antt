use Rattle.std.proofs.Common.{subst}
use Rattle.std.proofs.lemmas.Result.{IfErr-weaker, on_ok_weaker}
use Rattle.command_files.proofs.Proved.{leaves_weaker}
use Rattle.command_files.specs.Crash.{AreWritten, LeavesOldOrNew}
use Rattle.command_serve.specs.Salvaging.{AreSaved, IsNotMade, SalvagingFails}
use Rattle.command_serve.proofs.Replacing.{replaces_after}
use Rattle.command_serve.proofs.Saved.{are_saved, not_made_fails, salvages, unsaved_fails}
use Rattle.command_serve.proofs.salvaging.salvage.Goals as goal

pub returns-in-Ok-clause-salvaged : goal.returns-in-Ok-clause-salvaged
returns-in-Ok-clause-salvaged g c =
    let saved = c.in-Ok.saved in
    salvages c.put_new.result g.F.Writer.Sink.tells (g.F.Files.contents c.args.files.now c.args.path.now) c.args.to.now (g.F.Files.made c.args.files.now)
    (g.F.Files.made c.saved_of.new.files) (g.F.Files.made c.put_new.new.files) _ _ saved.end saved.whole saved.readable saved.file.items
    c.saved_of.ensures.made c.in-Ok.ensures.saved c.put_new.ensures.said c.put_new.ensures.saved

pub returns-in-Ok-clause-failed : goal.returns-in-Ok-clause-failed
returns-in-Ok-clause-failed g c =
    let contents = g.F.Files.contents c.args.files.now c.args.path.now in
    IfErr-weaker c.put_new.result (IsNotMade c.args.to) (SalvagingFails contents c.args.path.now c.args.to.now)
    (not_made_fails contents c.args.path.now c.args.to) c.put_new.ensures.failed

pub returns-in-Err-clause-failed : goal.returns-in-Err-clause-failed
returns-in-Err-clause-failed g c = unsaved_fails _ _ _ _ c.in-Err.ensures.failed

pub returns-in-Ok-clause-crash : goal.returns-in-Ok-clause-crash
returns-in-Ok-clause-crash g c =
    let saved = c.in-Ok.saved in
    let writes = g.F.Writer.Sink.tells in
    let contents = g.F.Files.contents c.args.files.now c.args.path.now in
    let mid = g.F.Files.tried c.saved_of.new.files in
    let last = g.F.Files.tried c.put_new.new.files in
    subst (λ tried. LeavesOldOrNew c.args.to.now (AreSaved writes contents) tried last) c.saved_of.ensures.tried
    (leaves_weaker c.args.to.now (AreWritten writes saved.file.items) (AreSaved writes contents)
    (are_saved writes contents saved.end saved.whole saved.readable saved.file.items c.in-Ok.ensures.saved) mid last c.put_new.ensures.crash)

pub returns-in-Ok-clause-replaced : goal.returns-in-Ok-clause-replaced
returns-in-Ok-clause-replaced g c =
    on_ok_weaker c.put_new.result
    (replaces_after g.F.Files c.args.to.now c.args.files.now c.saved_of.new.files c.put_new.new.files c.saved_of.ensures.made
    c.saved_of.ensures.contents c.saved_of.ensures.modes) c.put_new.ensures.replaced
