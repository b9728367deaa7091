use Rattle.std.proofs.lemmas.Result.{on_ok_weaker}
use Rattle.command_programs.specs.Printed.{SaysAccepted, SaysRefused}
use Rattle.command_programs.proofs.Verdicts.{judges}
use Rattle.command_programs.proofs.verify.verify.Goals as goal

pub returns-clause-accepted : goal.returns-clause-accepted
returns-clause-accepted g c =
    let before = g.O.Write.contents c.args.out.now in
    let after = g.O.Write.contents c.say.new.out in
    on_ok_weaker c.say.result
    (judges (λ operations program sizes form. SaysAccepted operations program sizes form before after) c.args.matches.now (g.F.Files.contents c.args.files.now)
    c.required-path.result.now c.in_ok-file.file.program _ _ c.in_ok-sizes.sizes c.in_ok-asked.asked.profile c.in_ok-asked.asked.form c.required-path.ensures
    c.in_ok-asked.ensures.block c.in_ok-asked.ensures.limit c.in_ok-sizes.ensures.sizes c.in_ok-asked.ensures.profile c.in_ok-asked.ensures.form
    c.in_ok-file.ensures.spelled)
    c.say.ensures.accepted

pub returns-clause-refused : goal.returns-clause-refused
returns-clause-refused g c = λ is.
    let before = g.O.Write.contents c.args.out.now in
    let after = g.O.Write.contents c.say.new.out in
    judges (λ operations program sizes form. SaysRefused operations program sizes form before after) c.args.matches.now (g.F.Files.contents c.args.files.now)
    c.required-path.result.now c.in_ok-file.file.program _ _ c.in_ok-sizes.sizes c.in_ok-asked.asked.profile c.in_ok-asked.asked.form c.required-path.ensures
    c.in_ok-asked.ensures.block c.in_ok-asked.ensures.limit c.in_ok-sizes.ensures.sizes c.in_ok-asked.ensures.profile c.in_ok-asked.ensures.form
    c.in_ok-file.ensures.spelled (c.say.ensures.refused is)
