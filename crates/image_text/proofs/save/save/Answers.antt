use Rattle.std.proofs.Common.{◌++◌}
use Rattle.std.proofs.lemmas.Result.{err_from_is_err_and}
use Rattle.image_text.specs.Text.{zone_rows, blocks_text, text}
use Rattle.image_text.proofs.Sinks.{goes_on, stops, takes_last}
use Rattle.image_text.proofs.Texts.{text_begun}
use Rattle.image_text.proofs.save.save.Goals as goal

pub returns-in_err-write_all-clause-text : goal.returns-in_err-write_all-clause-text
returns-in_err-write_all-clause-text g c =
    let p = err_from_is_err_and c.from_residual.result c.from_residual.ensures.1 in
    let ns = c.args.image.now in
    let zs = c.zones-zones.result.now in
    let before = g.W.Sink.taken c.args.sink.now in
    let begun = text_begun ns zs before c.encode.result c.zones-zones.ensures (rw (c.geometry-geometry.ensures.value, c.written_blocks-total.ensures) at c.encode.ensures) in
    rw p.1 (λ told. stops before before (g.W.Sink.taken c.write_all.new.sink) (text ns) c.encode.result (zone_rows zs ++ blocks_text ns.zones) begun (c.in_err-write_all.ensures.text told))

pub returns-in_err-write_zone_rows-clause-text : goal.returns-in_err-write_zone_rows-clause-text
returns-in_err-write_zone_rows-clause-text g c =
    let p = err_from_is_err_and c.from_residual-in_err-write_zone_rows.result c.from_residual-in_err-write_zone_rows.ensures.1 in
    let ns = c.args.image.now in
    let zs = c.zones-zones.result.now in
    let before = g.W.Sink.taken c.args.sink.now in
    let mid = g.W.Sink.taken c.write_all.new.sink in
    let blocks = blocks_text ns.zones in
    let begun = text_begun ns zs before c.encode.result c.zones-zones.ensures (rw (c.geometry-geometry.ensures.value, c.written_blocks-total.ensures) at c.encode.ensures) in
    rw p.1 (λ told.
    let next = goes_on before before mid (text ns) c.encode.result (zone_rows zs ++ blocks) begun (c.in_ok-write_all.ensures.text told) in
    stops before mid (g.W.Sink.taken c.write_zone_rows.new.sink) (text ns) (zone_rows zs) blocks next (c.in_err-write_zone_rows.ensures.text told))

pub returns-clause-text : goal.returns-clause-text
returns-clause-text g c =
    let ns = c.args.image.now in
    let zs = c.zones-zones.result.now in
    let before = g.W.Sink.taken c.args.sink.now in
    let mid = g.W.Sink.taken c.write_all.new.sink in
    let later = g.W.Sink.taken c.write_zone_rows.new.sink in
    let blocks = blocks_text ns.zones in
    let begun = text_begun ns zs before c.encode.result c.zones-zones.ensures (rw (c.geometry-geometry.ensures.value, c.written_blocks-total.ensures) at c.encode.ensures) in
    λ told.
    let next = goes_on before before mid (text ns) c.encode.result (zone_rows zs ++ blocks) begun (c.in_ok-write_all.ensures.text told) in
    let last = goes_on before mid later (text ns) (zone_rows zs) blocks next (c.in_ok-write_zone_rows.ensures.text told) in
    takes_last before later (g.W.Sink.taken c.write_blocks.new.sink) (text ns) blocks c.write_blocks.result last (c.write_blocks.ensures.text told)
