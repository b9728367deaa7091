use Rattle.std.proofs.Common.{◌≡◌, [], ap, sym, subst, ◌∙◌}
use Rattle.handed_file.specs.Handed.{waits}
use Rattle.tcp_device.specs.State.{ServedState}
use Rattle.tcp_loop.specs.Keeping.{Covers, Keeping}
use Rattle.tcp_device.specs.FileCalls.{keeping_of}
use Rattle.tcp_device.specs.LoopMeaning.{kept_in_file}
use Rattle.tcp_device.proofs.Covering.{begins}
use Rattle.tcp_device.proofs.durable.DurableTarget.new.Goals as goal

pub returns-clause-covers : goal.returns-clause-covers
returns-clause-covers c refused none =
    let file = c.args.device.store.events.journal.file in
    let same : c.of.result.file ≡ keeping_of file = c.of.ensures.file ∙ ap (λ j. keeping_of j.file) c.in_ok-served.ensures.journal in
    let nothing : waits file ≡ [] = sym (ap (λ (k : Keeping). k.waits) same) ∙ none in
    let device : c.of.result.state.device ≡ c.args.device.store.machine = ap (λ (s : ServedState). s.device) (c.of.ensures.state ∙ c.in_ok-served.ensures.served) in
    subst (λ (k : Keeping). Covers kept_in_file k.waits k.made c.of.result.state c.of.result.state) (sym same)
    (begins file c.args.device.store.machine c.args.device.store.events.journal.gate c.of.result.state device c.requires.kept
    (c.has_failed.ensures.order (c.has_failed.ensures.refused ∙ refused)) nothing)
