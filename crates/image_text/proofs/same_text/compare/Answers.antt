use Rattle.std.proofs.Common.{Err, [], ◌++◌, refl, sym}
use Rattle.std.proofs.lemmas.List.{append-nil}
use Rattle.std.proofs.lemmas.Result.{err_from_is_err_and}
use Rattle.image_text.specs.Text.{zone_rows, blocks_text, text}
use Rattle.image_text.proofs.SameTexts.{first_came, first_differs}
use Rattle.image_text.proofs.Texts.{text_parts}
use Rattle.image_text.proofs.same_text.compare.Goals as goal

pub returns-in_err-compare_bytes-clause-compares : goal.returns-in_err-compare_bytes-clause-compares
returns-in_err-compare_bytes-clause-compares g c =
    let p = err_from_is_err_and c.from_residual.result c.from_residual.ensures.1 in
    let ns = c.args.image.now in
    let zs = c.zones-zones.result.now in
    let before = g.R.Source.rest c.args.source.now in
    let header = rw (c.geometry-geometry.ensures.value, c.written_blocks-total.ensures) at c.encode.ensures in
    let parts = text_parts ns zs c.encode.result c.zones-zones.ensures header in
    let after = g.R.Source.rest c.compare_bytes.new.source in
    let left = zone_rows zs ++ blocks_text ns.zones in
    let difference = c.in_err-compare_bytes.field-0.0 in
    rw (p.1, p.2) (λ told.
    first_differs before after (text ns) c.encode.result left difference parts (c.in_err-compare_bytes.ensures.compares told))

pub returns-in_err-compare_zone_rows-clause-compares : goal.returns-in_err-compare_zone_rows-clause-compares
returns-in_err-compare_zone_rows-clause-compares g c =
    let p = err_from_is_err_and c.from_residual-in_err-compare_zone_rows.result c.from_residual-in_err-compare_zone_rows.ensures.1 in
    let ns = c.args.image.now in
    let zs = c.zones-zones.result.now in
    let before = g.R.Source.rest c.args.source.now in
    let mid = g.R.Source.rest c.compare_bytes.new.source in
    let after = g.R.Source.rest c.compare_zone_rows.new.source in
    let blocks = blocks_text ns.zones in
    let left = zone_rows zs ++ blocks in
    let difference = c.in_err-compare_zone_rows.field-0.0 in
    let header = rw (c.geometry-geometry.ensures.value, c.written_blocks-total.ensures) at c.encode.ensures in
    let parts = text_parts ns zs c.encode.result c.zones-zones.ensures header in
    rw (p.1, p.2) (λ told.
    let other = first_differs mid after left (zone_rows zs) blocks difference refl (c.in_err-compare_zone_rows.ensures.compares told) in
    first_came before mid (text ns) c.encode.result left (Err difference) parts (c.in_ok-compare_bytes.ensures.compares told) other)

pub returns-in_err-compare_blocks-clause-compares : goal.returns-in_err-compare_blocks-clause-compares
returns-in_err-compare_blocks-clause-compares g c =
    let p = err_from_is_err_and c.from_residual-in_err-compare_blocks.result c.from_residual-in_err-compare_blocks.ensures.1 in
    let ns = c.args.image.now in
    let zs = c.zones-zones.result.now in
    let before = g.R.Source.rest c.args.source.now in
    let mid = g.R.Source.rest c.compare_bytes.new.source in
    let later = g.R.Source.rest c.compare_zone_rows.new.source in
    let after = g.R.Source.rest c.compare_blocks.new.source in
    let blocks = blocks_text ns.zones in
    let left = zone_rows zs ++ blocks in
    let difference = c.in_err-compare_blocks.field-0.0 in
    let header = rw (c.geometry-geometry.ensures.value, c.written_blocks-total.ensures) at c.encode.ensures in
    let parts = text_parts ns zs c.encode.result c.zones-zones.ensures header in
    let whole = sym (append-nil blocks) in
    rw (p.1, p.2) (λ told.
    let other = first_differs later after blocks blocks [] difference whole (c.in_err-compare_blocks.ensures.compares told) in
    let rest = first_came mid later left (zone_rows zs) blocks (Err difference) refl (c.in_ok-compare_zone_rows.ensures.compares told) other in
    first_came before mid (text ns) c.encode.result left (Err difference) parts (c.in_ok-compare_bytes.ensures.compares told) rest)

pub returns-clause-compares : goal.returns-clause-compares
returns-clause-compares g c =
    let ns = c.args.image.now in
    let zs = c.zones-zones.result.now in
    let before = g.R.Source.rest c.args.source.now in
    let mid = g.R.Source.rest c.compare_bytes.new.source in
    let later = g.R.Source.rest c.compare_zone_rows.new.source in
    let blocks = blocks_text ns.zones in
    let left = zone_rows zs ++ blocks in
    let end = c.compare_end.result in
    let header = rw (c.geometry-geometry.ensures.value, c.written_blocks-total.ensures) at c.encode.ensures in
    let parts = text_parts ns zs c.encode.result c.zones-zones.ensures header in
    let after = g.R.Source.rest c.compare_blocks.new.source in
    let whole = sym (append-nil blocks) in
    λ told.
    let last = first_came later after blocks blocks [] end whole (c.in_ok-compare_blocks.ensures.compares told) (c.compare_end.ensures.compares told) in
    let rest = first_came mid later left (zone_rows zs) blocks end refl (c.in_ok-compare_zone_rows.ensures.compares told) last in
    first_came before mid (text ns) c.encode.result left end parts (c.in_ok-compare_bytes.ensures.compares told) rest
