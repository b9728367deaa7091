use Rattle.std.proofs.lemmas.Result.{err_from_is_err_and}
use Rattle.std.proofs.Common.{inr}
use Rattle.command_serve.proofs.Openings.{not_folded}
use Rattle.command_serve.proofs.fold.fold_held.Goals as goal

pub returns-in_err-device-clause-failed : goal.returns-in_err-device-clause-failed
returns-in_err-device-clause-failed g c =
    let told = g.F.Stored.StoredFile.told in
    let contents = g.F.Files.contents c.args.files.now c.args.path.now in
    let p = err_from_is_err_and c.from_residual.result c.from_residual.ensures.1 in
    rw (p.1, p.2) (not_folded told contents g.F.Reader.Source.tells c.args.path.now _ c.in_err-device.ensures.failed)

pub returns-in_err-file-clause-failed : goal.returns-in_err-file-clause-failed
returns-in_err-file-clause-failed g c =
    let contents = g.F.Files.contents c.args.files.now c.args.path.now in
    let p = err_from_is_err_and c.from_residual-in_err-file.result c.from_residual-in_err-file.ensures.1 in
    rw (p.1, p.2) (inr (c.in_err-file.ensures.failed contents c.in_ok-device.ensures.opened))
