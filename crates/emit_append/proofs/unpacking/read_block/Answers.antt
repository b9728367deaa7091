use Rattle.std.proofs.Common.{◌≡◌, ◌++◌, ◌∷◌, [], take, drop, ◌∙◌, ap, arith}
use Rattle.std.proofs.lemmas.List.{map_push}
use Rattle.emit_append.specs.Unpacking.{record_bytes}
use Rattle.emit_append.proofs.ReadingCalls.{gives_records}
use Rattle.emit_append.proofs.FramesRead.{frame_is, goes_on, is_short, is_zeros}
use Rattle.emit_append.proofs.unpacking.read_block.Goals as goal

pub returns-then-rest-length : goal.returns-then-rest-length
returns-then-rest-length c =
    let l = c.loop-length in
    is_short (record_bytes l.records.items) _ l.byte l.length l.rest.now l.invariant.front l.invariant.read (omega arith) (omega arith)

pub loop-length-preserved : goal.loop-length-preserved
loop-length-preserved c =
    let l = c.loop-length in
    let next = goes_on (record_bytes l.records.items) _ l.byte l.length l.rest.now l.invariant.front l.invariant.read (omega arith) (omega arith) in
    let bytes = frame_is l.length l.rest.now c.split_at.result.0.now c.in_ok-from_slice.field-0.items (omega arith) c.split_at.ensures.front c.in_ok-from_slice.ensures.items in
    let pushed : record_bytes c.push.new.self.items ≡ record_bytes l.records.items ++ take l.length (drop 2 l.rest.now) ∷ [] =
    rw c.in_ok-push.ensures.items (map_push _ l.records.items c.in_ok-from_slice.field-0 ∙ ap (λ b. record_bytes l.records.items ++ b ∷ []) bytes) in
    record {
      read = rw (pushed, c.split_at.ensures.back) next;
      front = c.frame_length-length-in-loop-length.ensures.value;
      small = c.frame_length-length-in-loop-length.ensures.small;
      bytes = omega (arith, c.split_at.ensures.back_len);
    }

pub returns : goal.returns
returns c =
    let l = c.loop-length in
    let all = is_zeros (record_bytes l.records.items) _ l.byte l.length l.rest.now l.invariant.front l.invariant.read (omega arith) in
    rw all (gives_records c.check_zeros.result (record_bytes l.records.items) _ c.check_zeros.ensures)
