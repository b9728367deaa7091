use Rattle.std.proofs.Common.{refl, subst}
use Rattle.command_files.specs.Made.{MakesOne}
use Rattle.command_serve.proofs.Replacing.{replaces_after}
use Rattle.command_serve.proofs.salvaging.put.Goals as goal

pub returns-in-Ok-finish-clause-replaced : goal.returns-in-Ok-finish-clause-replaced
returns-in-Ok-finish-clause-replaced g c =
    let finish = c.in-Ok-finish.ensures in
    replaces_after g.F.Files c.args.path.now c.args.files.now c.begin.new.self c.finish.new.self c.begin.ensures.made c.begin.ensures.contents
    c.begin.ensures.modes (record { bytes = _; made = finish.made }, finish.replaced.others, finish.modes)
