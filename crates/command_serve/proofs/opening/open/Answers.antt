use Rattle.std.proofs.Common.{◌≡◌, ◌∙◌, List, ℕ, Option, inr, subst}
use Rattle.command_files.specs.declared.failure.Failure.{Failure}
use Rattle.command_serve.specs.Opening.{FailsToOpen, IsFound, IsntOpened}
use Rattle.command_serve.proofs.Openings.{err_so}
use Rattle.command_serve.proofs.opening.open.Goals as goal

pub returns-clause-failed : goal.returns-clause-failed
returns-clause-failed g c =
    let told = g.F.Stored.StoredFile.told in
    let path = c.args.path.now in
    let contents = g.F.Files.contents c.args.files.now path in
    let same : g.F.Files.contents c.is_journal.new.files ≡ g.F.Files.contents c.args.files.now = c.is_journal.ensures.contents ∙ c.hold.ensures.contents in
    let found : IsFound (told c.in_ok-file.file) contents =
    subst (λ (all : List ℕ → Option (List ℕ)). IsFound (told c.in_ok-file.file) (all path)) same c.in_ok-file.ensures.found in
    err_so c.make_durable.result (FailsToOpen told contents path) (IsntOpened told contents path) (λ (failure : Failure) fails. inr fails)
    (c.make_durable.ensures.failed contents found)
