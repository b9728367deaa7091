use Rattle.std.proofs.Common.{◌≡◌, ◌+◌, ◌∙◌, [], arith, drop, subst}
use Rattle.std.proofs.lemmas.List.{drop_all}
use Rattle.std.proofs.lemmas.Result.{err_from_is_err_and}
use Rattle.image_text.specs.Streams.{IsBegun}
use Rattle.image_text.specs.Text.{zone_rows}
use Rattle.image_text.proofs.Sinks.{ends, goes_on, stops}
use Rattle.image_text.proofs.Texts.{rows_step}
use Rattle.image_text.proofs.save.write_zone_rows.Goals as goal

pub returns-in_err-write_all-clause-text : goal.returns-in_err-write_all-clause-text
returns-in_err-write_all-clause-text g c =
    let p = err_from_is_err_and c.from_residual.result c.from_residual.ensures.1 in
    let l = c.loop-zone in
    let zones = c.args.zones.now in
    let left = zone_rows (drop (l.zone-index + 1) zones) in
    let step = rows_step zones l.zone-index c.zone-item.result c.encode.result c.loop-zone-test.true c.zone-item.is c.encode.ensures in
    let before = g.W.Sink.taken c.args.sink.now in
    let mid = g.W.Sink.taken l.sink in
    rw p.1 (λ told. stops before mid (g.W.Sink.taken c.write_all.new.sink) (zone_rows zones) c.encode.result left
    (subst (IsBegun before mid (zone_rows zones)) step (l.invariant.begun told)) (c.in_err-write_all.ensures.text told))

pub loop-zone-preserved : goal.loop-zone-preserved
loop-zone-preserved g c =
    let l = c.loop-zone in
    let zones = c.args.zones.now in
    let left = zone_rows (drop (l.zone-index + 1) zones) in
    let step = rows_step zones l.zone-index c.zone-item.result c.encode.result c.loop-zone-test.true c.zone-item.is c.encode.ensures in
    let before = g.W.Sink.taken c.args.sink.now in
    let mid = g.W.Sink.taken l.sink in
    record {
      begun = λ told. goes_on before mid (g.W.Sink.taken c.write_all.new.sink) (zone_rows zones) c.encode.result left
          (subst (IsBegun before mid (zone_rows zones)) step (l.invariant.begun told)) (c.in_ok-write_all.ensures.text told);
      count = c.in_ok-write_all.ensures.failures ∙ l.invariant.count;
    }

pub returns-clause-text : goal.returns-clause-text
returns-clause-text g c =
    let l = c.loop-zone in
    let zones = c.args.zones.now in
    let none : drop l.zone-index zones ≡ [] = drop_all l.zone-index zones c.loop-zone-test.false in
    let before = g.W.Sink.taken c.args.sink.now in
    let after = g.W.Sink.taken l.sink in
    λ told. ends before after (zone_rows zones) (subst (λ left. IsBegun before after (zone_rows zones) (zone_rows left)) none (l.invariant.begun told))
