use Rattle.std.proofs.Common.{◌≡◌, ◌+◌, ◌∙◌, [], ap, arith, drop, subst}
use Rattle.std.proofs.lemmas.List.{drop_all}
use Rattle.std.proofs.lemmas.Result.{err_from_is_err_and}
use Rattle.image_store.specs.Geometry.{Shape}
use Rattle.image_text.specs.Streams.{IsBegun}
use Rattle.image_text.specs.Text.{blocks_text}
use Rattle.image_text.proofs.Sinks.{ends, goes_on, stops}
use Rattle.image_text.proofs.Texts.{blocks_step}
use Rattle.image_text.proofs.save.write_blocks.Goals as goal

pub returns-in_err-write_all-clause-text : goal.returns-in_err-write_all-clause-text
returns-in_err-write_all-clause-text g c =
    let p = err_from_is_err_and c.from_residual.result c.from_residual.ensures.1 in
    let l = c.loop-zone in
    let zones = c.args.image.now.zones in
    let piece = c.blocks-in-loop-zone.result.now in
    let step = blocks_step c.args.image.now l.zone piece c.loop-zone-test.true c.zones-zone-end.ensures c.geometry.ensures.value c.zone.ensures
    c.written-written.ensures c.blocks-in-loop-zone.ensures.value in
    let before = g.W.Sink.taken c.args.sink.now in
    let mid = g.W.Sink.taken l.sink in
    rw p.1 (λ told. stops before mid (g.W.Sink.taken c.write_all.new.sink) (blocks_text zones) piece (blocks_text (drop (l.zone + 1) zones))
    (subst (IsBegun before mid (blocks_text zones)) step (l.invariant.begun told)) (c.in_err-write_all.ensures.text told))

pub loop-zone-preserved : goal.loop-zone-preserved
loop-zone-preserved g c =
    let l = c.loop-zone in
    let zones = c.args.image.now.zones in
    let piece = c.blocks-in-loop-zone.result.now in
    let step = blocks_step c.args.image.now l.zone piece c.loop-zone-test.true c.zones-zone-end.ensures c.geometry.ensures.value c.zone.ensures
    c.written-written.ensures c.blocks-in-loop-zone.ensures.value in
    let before = g.W.Sink.taken c.args.sink.now in
    let mid = g.W.Sink.taken l.sink in
    record {
      begun = λ told. goes_on before mid (g.W.Sink.taken c.write_all.new.sink) (blocks_text zones) piece (blocks_text (drop (l.zone + 1) zones))
          (subst (IsBegun before mid (blocks_text zones)) step (l.invariant.begun told)) (c.in_ok-write_all.ensures.text told);
      count = c.in_ok-write_all.ensures.failures ∙ l.invariant.count;
    }

pub returns-clause-text : goal.returns-clause-text
returns-clause-text g c =
    let l = c.loop-zone in
    let zones = c.args.image.now.zones in
    let all = c.zones-zone-end.ensures ∙ ap (λ (s : Shape). s.zones) c.geometry.ensures.value in
    let none : drop l.zone zones ≡ [] = drop_all l.zone zones (omega (arith, c.loop-zone-test.false, all)) in
    let before = g.W.Sink.taken c.args.sink.now in
    let after = g.W.Sink.taken l.sink in
    λ told. ends before after (blocks_text zones) (subst (λ left. IsBegun before after (blocks_text zones) (blocks_text left)) none (l.invariant.begun told))
