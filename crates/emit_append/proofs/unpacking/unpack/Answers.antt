use Rattle.std.proofs.Common.{◌≡◌, ◌+◌, ◌-◌, length, arith}
use Rattle.std.proofs.lemmas.Bool.Decides.{nat_tests}
use Rattle.std.proofs.lemmas.Result.{err_from_is_err_and}
use Rattle.emit_append.specs.Unpacking.{output_block_at, unpacked, record_bytes}
use Rattle.emit_append.proofs.ReadingCalls.{fails_on, goes_on_with, is_end, is_part}
use Rattle.emit_append.proofs.FramesRead.{read-on}
use Rattle.emit_append.proofs.unpacking.unpack.Goals as goal

pub returns-in_err-read_block : goal.returns-in_err-read_block
returns-in_err-read_block c =
    let p = err_from_is_err_and c.from_residual.result c.from_residual.ensures.1 in
    let l = c.loop-rest in
    let at = length c.args.bytes.now - length l.rest.now in
    let all = goes_on_with c.bytes-size.result at (record_bytes l.records.items) _ l.rest.now (omega arith) l.invariant.read _ _ (omega arith) c.split_at.ensures.front c.split_at.ensures.back in
    rw (p.1, p.2, all) (fails_on c.in_err-read_block.field-0.0 (record_bytes l.records.items) (output_block_at at c.split_at.result.0.now) _ c.in_err-read_block.ensures)

pub loop-rest-preserved : goal.loop-rest-preserved
loop-rest-preserved c =
    let l = c.loop-rest in
    let at = length c.args.bytes.now - length l.rest.now in
    let all = goes_on_with c.bytes-size.result at (record_bytes l.records.items) _ l.rest.now (omega arith) l.invariant.read _ _ (omega arith) c.split_at.ensures.front c.split_at.ensures.back in
    let next : length c.args.bytes.now - length c.split_at.result.1.now ≡ at + c.bytes-size.result = omega (arith, c.split_at.ensures.back_len) in
    record {
      read = rw (next, all) (read-on (record_bytes l.records.items) _ (output_block_at at c.split_at.result.0.now) _ c.in_ok-read_block.ensures);
      within = omega (arith, c.split_at.ensures.back_len);
    }

pub returns-then-not-is_empty : goal.returns-then-not-is_empty
returns-then-not-is_empty c =
    let l = c.loop-rest in
    is_part c.bytes-size.result _ (record_bytes l.records.items) (unpacked c.args.block c.args.bytes.now) l.rest.now (omega arith) l.invariant.read (omega arith) (grind (arith, nat_tests))

pub returns : goal.returns
returns c =
    let l = c.loop-rest in
    is_end c.bytes-size.result _ (record_bytes l.records.items) (unpacked c.args.block c.args.bytes.now) l.rest.now (omega arith) l.invariant.read (grind (arith, nat_tests))
