use Rattle.std.proofs.Common.{◌≡◌, None, Some, sym, ◌∙◌, rules, tests}
use Rattle.std.specs.Prelude.{is_none, position}
use Rattle.std.proofs.lemmas.Iterator.{YieldsList-from_slice}
use Rattle.std.proofs.lemmas.Iterator.Search.{position_from_yields_List}
use Rattle.runner.proofs.places.free_place.Goals as goal

pub returns-in_err-run-clause-lowest : goal.returns-in_err-run-clause-lowest
returns-in_err-run-clause-lowest c =
    let found : c.position.result ≡ position is_none c.args.runs.now =
    position_from_yields_List is_none _ _ c.position.result c.position.ensures.ran (YieldsList-from_slice c.args.runs.now cc) (λ x b q k. search (rules, tests)) in
    let was : c.position.result ≡ None = c.in_err-run.was in
    c.from_residual.ensures ∙ sym was ∙ found

pub returns-clause-lowest : goal.returns-clause-lowest
returns-clause-lowest c =
    let found : c.position.result ≡ position is_none c.args.runs.now =
    position_from_yields_List is_none _ _ c.position.result c.position.ensures.ran (YieldsList-from_slice c.args.runs.now cc) (λ x b q k. search (rules, tests)) in
    let was : c.position.result ≡ Some c.in_ok-run.run' = c.in_ok-run.was in
    sym was ∙ found
