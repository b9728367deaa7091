use Rattle.std.proofs.Common.{◌∙◌, rules, tests}
use Rattle.std.proofs.lemmas.Iterator.{YieldsList-from_slice}
use Rattle.std.proofs.lemmas.Iterator.Search.{find_from_yields_List}
use Rattle.command_explain.specs.steps.Ended.{is_guard_of}
use Rattle.command_explain.proofs.ended.guard_of.Goals as goal

pub returns : goal.returns
returns c =
    c.copied.ensures
    ∙ find_from_yields_List (is_guard_of c.args.ended) _ _ c.find.result c.find.ensures.ran
    (YieldsList-from_slice c.args.notes.now.guards.items cc) (λ x b q k. search (rules, tests))
