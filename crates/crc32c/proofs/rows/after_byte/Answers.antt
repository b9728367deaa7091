use Rattle.std.proofs.Common.{rules, ◌≡◌, ◌<◌, ◌+◌, ◌-◌, ℕ, ◌∙◌, ap, arith}
use Rattle.crc32c.specs.Crc.{after_zeros}
use Rattle.crc32c.proofs.Shifting.{one_less, none_more}
use Rattle.crc32c.proofs.rows.after_byte.Goals as goal

pub loop-init : goal.loop-init
loop-init c =
    let all : 8 - 0 ≡ 8 = omega arith in
    ap (λ (n : ℕ). after_zeros n c.args.remainder) all

pub loop-preserved : goal.loop-preserved
loop-preserved c =
    let within : c.loop.counter < 8 = search rules in
    ap (λ (r : ℕ). after_zeros (8 - (c.loop.counter + 1)) r) c.after_zero-remainder.ensures
    ∙ one_less 8 c.loop.counter c.loop.remainder within
    ∙ c.loop.invariant

pub returns : goal.returns
returns c =
    let done : c.loop.counter ≡ 8 = search rules in
    none_more 8 c.loop.counter c.loop.remainder done ∙ c.loop.invariant
