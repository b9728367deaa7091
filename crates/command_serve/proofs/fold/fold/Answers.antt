use Rattle.std.proofs.Common.{rules, ◌≡◌, subst}
use Rattle.std.specs.Prelude.{OnOk}
use Rattle.command_files.specs.Surroundings.{MayReplace}
use Rattle.command_serve.specs.Salvaging.{made_by}
use Rattle.command_serve.proofs.fold.fold.Goals as goal

pub returns-in-None-clause-replaced : goal.returns-in-None-clause-replaced
returns-in-None-clause-replaced g c =
    let e : c.required-path.result.now ≡ made_by c.args.matches.now = search rules in
    subst (λ name. OnOk c.fold_image.result (MayReplace g.F.Files name c.args.files.now c.fold_image.new.files)) e
    c.fold_image.ensures.replaced
