use Rattle.std.proofs.Common.{◌+◌, drop, subst, ◌∙◌, arith}
use Rattle.std.proofs.lemmas.Result.{err_from_is_err_and}
use Rattle.image_text.specs.SameText.{IsSameSoFar}
use Rattle.image_text.specs.Text.{zone_rows}
use Rattle.image_text.proofs.SameTexts.{goes_on, stops}
use Rattle.image_text.proofs.Texts.{rows_step}
use Rattle.image_text.proofs.same_text.compare_zone_rows.Goals as goal

pub returns-in_err-compare_bytes-clause-compares : goal.returns-in_err-compare_bytes-clause-compares
returns-in_err-compare_bytes-clause-compares g c =
    let p = err_from_is_err_and c.from_residual.result c.from_residual.ensures.1 in
    let l = c.loop-zone in
    let zones = c.args.zones.now in
    let left = zone_rows (drop (l.zone-index + 1) zones) in
    let step = rows_step zones l.zone-index c.zone-item.result c.encode.result c.loop-zone-test.true c.zone-item.is c.encode.ensures in
    let before = g.R.Source.rest c.args.source.now in
    let mid = g.R.Source.rest l.source in
    rw (p.1, p.2) (λ told. stops before mid (g.R.Source.rest c.compare_bytes.new.source) (zone_rows zones) c.encode.result left c.in_err-compare_bytes.field-0.0
    (subst (IsSameSoFar before mid (zone_rows zones)) step (l.invariant.same told)) (c.in_err-compare_bytes.ensures.compares told))

pub loop-zone-preserved : goal.loop-zone-preserved
loop-zone-preserved g c =
    let l = c.loop-zone in
    let zones = c.args.zones.now in
    let left = zone_rows (drop (l.zone-index + 1) zones) in
    let step = rows_step zones l.zone-index c.zone-item.result c.encode.result c.loop-zone-test.true c.zone-item.is c.encode.ensures in
    let before = g.R.Source.rest c.args.source.now in
    let mid = g.R.Source.rest l.source in
    record {
      same = λ told. goes_on before mid (g.R.Source.rest c.compare_bytes.new.source) (zone_rows zones) c.encode.result left
          (subst (IsSameSoFar before mid (zone_rows zones)) step (l.invariant.same told)) (c.in_ok-compare_bytes.ensures.compares told);
      room = omega (arith, c.compare_bytes.auto.piece, l.invariant.room);
      count = c.in_ok-compare_bytes.ensures.failures ∙ l.invariant.count;
    }
