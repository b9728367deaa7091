use Rattle.std.proofs.Common.{ℕ, ◌∙◌, ap}
use Rattle.std.specs.Int.Bits.{bit_xor}
use Rattle.crc32c.specs.Crc.{ones}
use Rattle.crc32c.proofs.Shifting.{goes_on, on}
use Rattle.crc32c.proofs.sums.Sums.extended.Goals as goal

pub loop-sixteen-preserved : goal.loop-sixteen-preserved
loop-sixteen-preserved c =
    on c.loop-sixteen.remainder c.after_sixteen-remainder.result c.in-Some.sixteen.now c.in-Some.others.now c.loop-sixteen.rest.now c.in-Some.ensures.cases.0 c.in-Some.ensures.cases.1 c.after_sixteen-remainder.ensures
    ∙ c.loop-sixteen.invariant

pub returns : goal.returns
returns c before is =
    ap (λ (x : ℕ). bit_xor x ones) (c.after_bytes.ensures ∙ c.loop-sixteen.invariant) ∙ goes_on before c.args.bytes.now c.args.sum is
