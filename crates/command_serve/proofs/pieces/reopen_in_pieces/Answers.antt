use Rattle.std.proofs.Common.{List, ℕ, Option, subst, sym}
use Rattle.command_files.specs.Made.{AreAsTold}
use Rattle.command_serve.specs.Opening.{IsntOpened}
use Rattle.command_serve.specs.Reading.{AreKnown}
use Rattle.command_serve.proofs.Openings.{as_told}
use Rattle.command_serve.proofs.pieces.reopen_in_pieces.Goals as goal

pub open_found-requires-clause-known : goal.open_found-requires-clause-known
open_found-requires-clause-known g c =
    let R = g.F.Reading.FileReading in
    let path = c.args.path.now in
    let reading = c.find.new.reading in
    let told = g.F.Files.contents c.args.files.now path in
    let known : AreKnown told (R.known reading) = subst (λ (l : Option (List ℕ)). AreKnown told l) (sym c.find.ensures.known) c.in-Ok.ensures.bytes in
    let are : AreAsTold told (R.given reading) =
    as_told told (R.known reading) (R.given reading) (R.size reading) known (g.met.F.Reading.FileReading.is_front reading) c.in-Ok-find.ensures.whole in
    subst (λ (all : List ℕ → Option (List ℕ)). AreAsTold (all path) (R.given reading)) (sym c.in-Ok.ensures.contents) are

pub returns-in-Ok-find-clause-failed : goal.returns-in-Ok-find-clause-failed
returns-in-Ok-find-clause-failed g c =
    let told = g.F.Stored.StoredFile.told in
    let path = c.args.path.now in
    subst (λ (all : List ℕ → Option (List ℕ)). IsntOpened told (all path) path c.in-Err-open_found.failure) c.in-Ok.ensures.contents
    c.in-Err-open_found.ensures.failed
