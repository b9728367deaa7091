use Rattle.std.proofs.Common.{◌≡◌, ◌+◌, [], drop, ap, subst, ◌∙◌, arith}
use Rattle.std.proofs.lemmas.List.{drop_all}
use Rattle.std.proofs.lemmas.Result.{err_from_is_err_and}
use Rattle.image_store.specs.Geometry.{Shape}
use Rattle.image_text.specs.SameText.{IsSameSoFar}
use Rattle.image_text.specs.Text.{blocks_text}
use Rattle.image_text.proofs.SameTexts.{ends, goes_on, stops}
use Rattle.image_text.proofs.Texts.{blocks_step}
use Rattle.image_text.proofs.same_text.compare_blocks.Goals as goal

pub returns-in_err-compare_bytes-clause-compares : goal.returns-in_err-compare_bytes-clause-compares
returns-in_err-compare_bytes-clause-compares g c =
    let p = err_from_is_err_and c.from_residual.result c.from_residual.ensures.1 in
    let l = c.loop-zone in
    let zones = c.args.image.now.zones in
    let piece = c.blocks-in-loop-zone.result.now in
    let step = blocks_step c.args.image.now l.zone piece c.loop-zone-test.true c.zones-zone-end.ensures c.geometry.ensures.value c.zone.ensures
    c.written-written.ensures c.blocks-in-loop-zone.ensures.value in
    let before = g.R.Source.rest c.args.source.now in
    let mid = g.R.Source.rest l.source in
    rw (p.1, p.2) (λ told. stops before mid (g.R.Source.rest c.compare_bytes.new.source) (blocks_text zones) piece (blocks_text (drop (l.zone + 1) zones))
    c.in_err-compare_bytes.field-0.0 (subst (IsSameSoFar before mid (blocks_text zones)) step (l.invariant.same told)) (c.in_err-compare_bytes.ensures.compares told))

pub loop-zone-preserved : goal.loop-zone-preserved
loop-zone-preserved g c =
    let l = c.loop-zone in
    let zones = c.args.image.now.zones in
    let piece = c.blocks-in-loop-zone.result.now in
    let step = blocks_step c.args.image.now l.zone piece c.loop-zone-test.true c.zones-zone-end.ensures c.geometry.ensures.value c.zone.ensures
    c.written-written.ensures c.blocks-in-loop-zone.ensures.value in
    let before = g.R.Source.rest c.args.source.now in
    let mid = g.R.Source.rest l.source in
    record {
      same = λ told. goes_on before mid (g.R.Source.rest c.compare_bytes.new.source) (blocks_text zones) piece (blocks_text (drop (l.zone + 1) zones))
          (subst (IsSameSoFar before mid (blocks_text zones)) step (l.invariant.same told)) (c.in_ok-compare_bytes.ensures.compares told);
      room = omega (arith, c.compare_bytes.auto.piece, l.invariant.room);
      count = c.in_ok-compare_bytes.ensures.failures ∙ l.invariant.count;
    }

pub returns-clause-compares : goal.returns-clause-compares
returns-clause-compares g c =
    let l = c.loop-zone in
    let zones = c.args.image.now.zones in
    let all = c.zones-zone-end.ensures ∙ ap (λ (s : Shape). s.zones) c.geometry.ensures.value in
    let none : drop l.zone zones ≡ [] = drop_all l.zone zones (omega (arith, c.loop-zone-test.false, all)) in
    let before = g.R.Source.rest c.args.source.now in
    let after = g.R.Source.rest l.source in
    λ told. ends before after (blocks_text zones) (subst (λ left. IsSameSoFar before after (blocks_text zones) (blocks_text left)) none (l.invariant.same told))
