use Rattle.std.proofs.Common.{◌≡◌, ap, sym, subst, ◌∙◌}
use Rattle.program_meaning.specs.BlockRun.{BlockRun}
use Rattle.image_store.specs.Geometry.{Shape}
use Rattle.runner.specs.DeviceState.{active_of}
use Rattle.verified_run.specs.Ran.{HasRun}
use Rattle.runner.specs.steps.Turning.{with_scratch}
use Rattle.runner.proofs.NextBlockRun.{run_is, told_is}
use Rattle.runner.proofs.turn.run_next.Goals as goal

pub returns-clause-next : goal.returns-clause-next
returns-clause-next g c =
    let code = g.V.TrapFree.code c.args.prepared.now in
    let limit = g.V.TrapFree.limit c.args.prepared.now in
    let ns = c.args.namespace.now in
    let a = active_of c.args.active.now in
    let size : c.block.result ≡ ns.block = c.block.ensures.value ∙ ap (λ (s : Shape). s.block) c.geometry.ensures.value in
    let told = told_is ns code limit a c.encode.result c.from.result c.get.result c.block.result c.from.ensures c.get.ensures.value size c.encode.ensures in
    let same = run_is ns code limit a c.source_block-block.result.now c.encode.result c.source_block-block.ensures.value told in
    let run = subst (λ (r : BlockRun). HasRun r c.run_over.result c.run_over.new.group c.run_over.new.scratch) same c.run_over.ensures.run in
    record {
      run = run;
      same = ap (with_scratch c.args.active.now) (sym run.scratch);
      within = c.run_over.ensures.limit;
    }
