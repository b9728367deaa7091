use Rattle.std.proofs.Common.{◌≡◌, ap, ◌∙◌}
use Rattle.durable_machine.proofs.Waiting.{all_committed, as_before}
use Rattle.durable_machine.specs.Seals.{events_of}
use Rattle.durable_device.specs.Machine.{IsDeviceBase, next_state}
use Rattle.tcp_device.specs.State.{ServedState}
use Rattle.tcp_device.proofs.keeper.target_of.Goals as goal

pub returns-clause-kept : goal.returns-clause-kept
returns-clause-kept g c =
    let device : c.in_ok-served.served.device ≡ c.args.device.store.machine =
    ap (λ (s : ServedState). s.device) c.in_ok-served.ensures ∙ (c.into_inner.ensures ∙ c.into_device.ensures) in
    let gate = c.args.device.store.events.journal.gate in
    let file = g.F.StoredFile.told c.args.device.store.events.journal.file in
    as_before IsDeviceBase next_state _ c.args.device.store.machine _ gate file
    (all_committed IsDeviceBase next_state (events_of c.new-waiting.result) c.args.device.store.machine gate file c.new-waiting.ensures c.requires.kept) device
