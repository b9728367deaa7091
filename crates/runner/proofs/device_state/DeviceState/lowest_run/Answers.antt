use Rattle.std.proofs.Common.{◌*◌, ◌≤◌, ap, subst, sym, ◌∙◌, arith}
use Rattle.nvme_entry.specs.declared.command.TheConstants.{MOST_BLOCKS}
use Rattle.zone_resources.specs.declared.holds.TheConstants.{RUNS}
use Rattle.device_meaning.specs.Draining.{lowest_run, turns_left}
use Rattle.device_meaning.specs.State.{State}
use Rattle.runner.proofs.Drains.{few_left}
use Rattle.runner.proofs.Numbers.{lowest_is}
use Rattle.runner.proofs.device_state.DeviceState.lowest_run.Goals as goal

pub returns-clause-lowest : goal.returns-clause-lowest
returns-clause-lowest g c =
    let d = c.self.inside in
    c.lowest_run.ensures.lowest ∙ sym (lowest_is d.namespace d.slots d.runs) ∙ ap lowest_run c.self.view_is

pub returns-clause-few : goal.returns-clause-few
returns-clause-few g c =
    let d = c.self.inside in
    let few = few_left d.namespace d.slots d.runs (λ k a at. (c.self.invariant.running k a at).fits) in
    subst (λ (s : State). turns_left s.places ≤ MOST_BLOCKS * RUNS) c.self.view_is (omega (arith, few, c.lowest_run.ensures.size))
