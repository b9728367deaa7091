use Rattle.std.proofs.Common.{◌++◌, ◌∙◌, sym}
use Rattle.std.proofs.lemmas.Bool.{eqb-true}
use Rattle.std.proofs.lemmas.List.{take-append-drop}
use Rattle.hex.specs.Hex.{encode_lower}
use Rattle.event_text.proofs.DigitLemmas.{chunk_pushed, chunks_pushed}
use Rattle.event_text.proofs.lines.push_hex.Goals as goal

pub loop-rest-preserved : goal.loop-rest-preserved
loop-rest-preserved c =
    let rest = c.loop-rest.rest.now in
    chunk_pushed c.loop-rest.line.items c.push_digits.new.line.items c.split_at.result.0.now c.split_at.result.1.now rest (c.args.line.now.items ++ encode_lower c.args.bytes.now)
    c.loop-rest.invariant (rw (c.split_at.ensures.front, c.split_at.ensures.back) (sym (take-append-drop _ rest))) c.in_ok-push_digits.ensures

pub returns : goal.returns
returns c =
    chunks_pushed c.loop-rest.line.items c.loop-rest.rest.now _ c.loop-rest.invariant
    (eqb-true _ _ (sym c.is_empty.ensures ∙ c.loop-rest-test.false))
