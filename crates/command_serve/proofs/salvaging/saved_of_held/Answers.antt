use Rattle.std.proofs.Common.{ℕ, List, Option, subst}
use Rattle.std.proofs.lemmas.Result.{IfErr-weaker, IfOk-weaker}
use Rattle.command_files.specs.Made.{AreAsTold}
use Rattle.command_serve.proofs.Saved.{saved_told, unsaved_told}
use Rattle.command_serve.proofs.salvaging.saved_of_held.Goals as goal

pub returns-in-Ok-clause-saved : goal.returns-in-Ok-clause-saved
returns-in-Ok-clause-saved g c =
    let path = c.args.path.now in
    let read = c.in-Ok.bytes.items in
    let told = subst (λ (contents : List ℕ → Option (List ℕ)). AreAsTold (contents path) read) c.open_held.ensures.contents c.in-Ok.ensures.bytes in
    IfOk-weaker c.saved_in.result _ _
    (λ saved is. saved_told (g.F.Files.contents c.args.files.now path) read c.deref.result.now saved.file.items saved.end saved.whole saved.readable
    c.deref.ensures.value told is)
    c.saved_in.ensures.saved

pub returns-in-Ok-clause-failed : goal.returns-in-Ok-clause-failed
returns-in-Ok-clause-failed g c =
    let path = c.args.path.now in
    let read = c.in-Ok.bytes.items in
    let told = subst (λ (contents : List ℕ → Option (List ℕ)). AreAsTold (contents path) read) c.open_held.ensures.contents c.in-Ok.ensures.bytes in
    IfErr-weaker c.saved_in.result _ _
    (λ failure is. unsaved_told (g.F.Files.contents c.args.files.now path) read c.deref.result.now path failure c.deref.ensures.value told is)
    c.saved_in.ensures.failed
