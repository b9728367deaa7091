use Rattle.std.proofs.Common.{arith, ◌≡◌, ◌∙◌, ◌/◌, ◌<◌, w64}
use Rattle.std.proofs.lemmas.Int.{ints, to_z-of_z}
use Rattle.ebpf_link.proofs.scratch_words.words_in_scratch.Goals as goal

pub returns : goal.returns
returns c = λ close distance nth byte from to counted there inside.
    let small : byte / 8 < 128 = omega arith in
    let same = to_z-of_z w64 c.args.low c.ranges.low in
    let same' = to_z-of_z w64 c.args.high c.ranges.high in
    let low : c.near-least.result ≡ c.args.low =
    c.near-least.ensures.same (rw same close.low) (rw same (omega (arith, ints, from, to, close.high))) ∙ same in
    let high : c.near-most.result ≡ c.args.high =
    c.near-most.ensures.same (rw same' (omega (arith, ints, from, to, close.low))) (rw same' close.high) ∙ same' in
    c.words_between.ensures.reached (byte / 8) small
    (omega (arith, ints, low, from, there, c.from-offset.ensures))
    (omega (arith, ints, high, to, there, counted, c.from-offset.ensures, c.from-bytes.ensures))
