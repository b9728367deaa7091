use Rattle.std.proofs.Common.{◌≡◌, take, Ok, Err, ap, sym, ◌∙◌, arith}
use Rattle.std.proofs.lemmas.Result.{err_from_is_err_and}
use Rattle.image_text.specs.Reading.{zone_in, zones_in}
use Rattle.image_text.proofs.Faults.{no_stream, zone_text_fault}
use Rattle.image_text.proofs.ZoneRowsRead.{goes_on, stops, fails_free}
use Rattle.image_text.proofs.zone_row.decode_all.Goals as goal

pub returns-in_err-decode-clause-zones : goal.returns-in_err-decode-clause-zones
returns-in_err-decode-clause-zones c =
    let l = c.loop-zone in
    let p = err_from_is_err_and c.from_residual-in_err-decode.result c.from_residual-in_err-decode.ensures.1 in
    let fault = c.in_err-decode.field-0.0 in
    let read : zone_in l.zone c.args.capacity (take 8 l.rest.now) ≡ Err fault = ap (zone_in l.zone c.args.capacity) (sym c.split_at.ensures.front) ∙ sym c.in_err-decode.ensures in
    let all = stops l.zones.items c.args.capacity c.args.count l.zone l.rest.now fault (zones_in 0 c.args.capacity c.args.count c.args.bytes.now) c.loop-zone-test.true read l.invariant.read in
    rw (p.1, p.2) (fails_free fault (zones_in 0 c.args.capacity c.args.count c.args.bytes.now) all)

pub loop-zone-preserved : goal.loop-zone-preserved
loop-zone-preserved c =
    let l = c.loop-zone in
    let z = c.in_ok-decode.field-0 in
    let read : zone_in l.zone c.args.capacity (take 8 l.rest.now) ≡ Ok z = ap (zone_in l.zone c.args.capacity) (sym c.split_at.ensures.front) ∙ sym c.in_ok-decode.ensures in
    let next = goes_on l.zones.items c.args.capacity c.args.count l.zone l.rest.now z (zones_in 0 c.args.capacity c.args.count c.args.bytes.now) c.loop-zone-test.true read l.invariant.read in
    let size = l.invariant.left in
    let more = c.loop-zone-test.true in
    record {
      read = rw (c.in_ok-push.ensures.items, c.split_at.ensures.back) next;
      left = omega (arith, c.split_at.ensures.back_len);
    }

pub returns-in_err-decode-clause-no_stream : goal.returns-in_err-decode-clause-no_stream
returns-in_err-decode-clause-no_stream c =
    let p = err_from_is_err_and c.from_residual-in_err-decode.result c.from_residual-in_err-decode.ensures.1 in
    let fault = c.in_err-decode.field-0.0 in
    let read : zone_in c.loop-zone.zone c.args.capacity c.split_at.result.0.now ≡ Err fault = sym c.in_err-decode.ensures in
    rw (p.1, p.2) (no_stream fault (zone_text_fault c.loop-zone.zone c.args.capacity c.split_at.result.0.now fault read))
