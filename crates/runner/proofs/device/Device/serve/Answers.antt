use Rattle.std.proofs.Common.{refl, ◌∙◌}
use Rattle.device_meaning.specs.Judging.{judge_by}
use Rattle.runner.proofs.Served.{served_more, served_none, served_stopped}
use Rattle.runner.proofs.device.Device.serve.Goals as goal

pub loop-index-init : goal.loop-index-init
loop-index-init g c =
    let out = g.O.Out in
    record {
      served = served_none (judge_by g.D.Domain.operations) out.took c.args.out.now c.args.events.now c.args.self.now (g.met.O.Out.takes_none c.args.out.now);
      refused = refl;
    }

pub loop-index-preserved : goal.loop-index-preserved
loop-index-preserved g c =
    let event = c.index-events-index in
    let inv = c.loop-index.invariant in
    let one = c.in-Ok.ensures.served in
    record {
      served = served_more (judge_by g.D.Domain.operations) c.args.events.now c.loop-index.index event.result c.args.self.now c.loop-index.self c.serve_one.new.self one.reply
          g.O.Out.took g.met.O.Out.joins c.args.out.now c.loop-index.out c.serve_one.new.out c.loop-index-test.true event.is inv.served one.happened
          one.taken;
      refused = c.in-Ok.ensures.refused ∙ inv.refused;
    }

pub returns-in-Err-clause-stopped : goal.returns-in-Err-clause-stopped
returns-in-Err-clause-stopped g c =
    let event = c.index-events-index in
    let one = c.in-Err.ensures.served in
    served_stopped (judge_by g.D.Domain.operations) c.args.events.now c.loop-index.index event.result c.args.self.now c.loop-index.self c.serve_one.new.self one.reply g.O.Out.took
    g.met.O.Out.joins c.args.out.now c.loop-index.out c.serve_one.new.out c.loop-index-test.true event.is c.loop-index.invariant.served one.happened
    one.refused
