use Rattle.std.proofs.Common.{◌*◌, inl, inr, refl, ap, sym, ◌∙◌, arith}
use Rattle.nvme_entry.specs.declared.command.TheConstants.{MOST_BLOCKS}
use Rattle.zone_resources.specs.declared.holds.TheConstants.{RUNS}
use Rattle.device_meaning.specs.Draining.{turns_left}
use Rattle.device_meaning.specs.Judging.{judge_by}
use Rattle.device_meaning.specs.State.{State}
use Rattle.runner.proofs.Drains.{drained_more, drained_none, drained_stops, few_at_first, turn_less}
use Rattle.runner.proofs.device.Device.drain.Goals as goal

pub loop-run-smaller : goal.loop-run-smaller
loop-run-smaller g c =
    let now = c.loop-run.self in
    let low = sym c.lowest_run.ensures.lowest ∙ c.in-Some.is in
    let less = turn_less (judge_by g.D.Domain.operations) c.domains_judge_soundly.ensures now c.in-Some.run' c.lowest_run.ensures.reached low in
    let left = ap (λ (s : State). turns_left s.places) c.in-Ok.ensures.served.happened.state in
    omega (arith, less, left)

pub loop-run-init : goal.loop-run-init
loop-run-init g c = record {
  draining = drained_none g.O.Out.took c.args.out.now c.args.self.now (g.met.O.Out.takes_none c.args.out.now);
  few = inl refl;
  refused = refl;
}

pub loop-run-preserved : goal.loop-run-preserved
loop-run-preserved g c =
    let out = g.O.Out in
    let inv = c.loop-run.invariant in
    let low = sym c.lowest_run.ensures.lowest ∙ c.in-Some.is in
    let one = c.in-Ok.ensures.served in
    record {
      draining = drained_more out.took g.met.O.Out.joins c.args.self.now c.loop-run.self c.serve_one.new.self c.args.out.now c.loop-run.out
          c.serve_one.new.out c.loop-run.done c.in-Some.run' one.reply inv.draining (judge_by g.D.Domain.operations) c.domains_judge_soundly.ensures c.lowest_run.ensures.reached low one.happened.state
          one.happened.replied one.taken;
      few = inr (few_at_first c.args.self.now c.loop-run.self (out.took c.args.out.now c.loop-run.out) c.loop-run.done (MOST_BLOCKS * RUNS) inv.draining inv.few
          c.lowest_run.ensures.few);
      refused = c.in-Ok.ensures.refused ∙ inv.refused;
    }

pub returns-in-Err-clause-stopped : goal.returns-in-Err-clause-stopped
returns-in-Err-clause-stopped g c =
    let low = sym c.lowest_run.ensures.lowest ∙ c.in-Some.is in
    let one = c.in-Err.ensures.served in
    drained_stops g.O.Out.took g.met.O.Out.joins c.args.self.now c.loop-run.self c.serve_one.new.self c.args.out.now c.loop-run.out c.serve_one.new.out
    c.loop-run.done c.in-Some.run' one.reply c.loop-run.invariant.draining (judge_by g.D.Domain.operations) c.domains_judge_soundly.ensures c.lowest_run.ensures.reached low one.happened.state one.refused
