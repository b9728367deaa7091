use Rattle.std.proofs.Common.{◌≡◌, List, ℕ, Option, inr, subst}
use Rattle.command_files.specs.declared.failure.Failure.{Failure}
use Rattle.command_serve.specs.Opening.{FailsToOpen, IsFound, IsntOpened}
use Rattle.command_serve.proofs.Openings.{err_so}
use Rattle.command_serve.proofs.pieces.reopen.Goals as goal

pub returns-in_ok-file-in-Ok-None-clause-failed : goal.returns-in_ok-file-in-Ok-None-clause-failed
returns-in_ok-file-in-Ok-None-clause-failed g c =
    let told = g.F.Stored.StoredFile.told in
    let path = c.args.path.now in
    let contents = g.F.Files.contents c.args.files.now path in
    let file = c.in_ok-file-in-Ok-None.file in
    let same : g.F.Files.contents c.reopen_in_pieces.new.files ≡ g.F.Files.contents c.args.files.now = c.reopen_in_pieces.ensures.contents in
    let found : IsFound (told file) contents =
    subst (λ (all : List ℕ → Option (List ℕ)). IsFound (told file) (all path)) same c.in_ok-file-in-Ok-None.ensures.found in
    err_so c.reopen_whole.result (FailsToOpen told contents path) (IsntOpened told contents path) (λ (failure : Failure) fails. inr fails)
    (c.reopen_whole.ensures.failed contents found)
