use Rattle.std.proofs.Common.{◌≡◌, Option, None, get_or, subst, ◌∙◌, arith}
use Rattle.std.proofs.lemmas.List.{get_or_default}
use Rattle.kept_device.specs.declared.kept.KeptRun.{KeptRun}
use Rattle.runner.specs.steps.RunsAgain.{IsPlaceAgain, IsStuck}
use Rattle.runner.proofs.KeptRunLists.{one_is_stuck, one_more_goes}
use Rattle.runner.proofs.runs_again.runs_again.Goals as goal

pub returns-in-None : goal.returns-in-None
returns-in-None g c =
    let ns = c.args.namespace.now in
    let slots = c.args.slots.now in
    let kept = c.args.kept.now in
    let k = c.loop-k.k in
    let here : c.index-kept-k.result ≡ get_or kept k None = c.index-kept-k.is ∙ get_or_default kept k c.index-kept-k.result None (omega arith) in
    one_is_stuck ns slots kept c.loop-k.runs k c.loop-k.invariant (omega arith)
    (subst (λ (o : Option KeptRun). IsStuck ns slots c.loop-k.runs o) here c.in-None.ensures)

pub loop-k-preserved : goal.loop-k-preserved
loop-k-preserved g c =
    let ns = c.args.namespace.now in
    let slots = c.args.slots.now in
    let kept = c.args.kept.now in
    let k = c.loop-k.k in
    let here : c.index-kept-k.result ≡ get_or kept k None = c.index-kept-k.is ∙ get_or_default kept k c.index-kept-k.result None (omega arith) in
    one_more_goes ns slots kept c.loop-k.runs k c.loop-k.invariant (omega arith) c.in-Some.place
    (subst (λ (o : Option KeptRun). IsPlaceAgain ns slots c.loop-k.runs o c.in-Some.place) here c.in-Some.ensures)
