-- Where data begins.
use Rattle.std.proofs.Common.{ℕ, ◌+◌, ◌*◌, ◌/◌, ◌≤◌, ◌<◌, refl, arith, inl, inr}
use Rattle.std.proofs.lemmas.Bool.{cases_lt}
use Rattle.std.proofs.Math.Nat.{mul-le-mul_right}
use Rattle.tcp_pdus.specs.Laws.{DataBeginsAligned, IsLeastMultiple}

aligned : (unit : ℕ) → 0 < unit → IsLeastMultiple unit 24 ((unit + 23) / unit * unit)
aligned unit some = record {
  is = ((unit + 23) / unit, refl);
  enough = omega (arith, some);
  none_below = λ times enough.
      elim (cases_lt times ((unit + 23) / unit)) [
        | inl less ↦ (let more : times + 1 ≤ (unit + 23) / unit = omega (arith, less) in absurd (omega (arith, mul-le-mul_right unit more, enough, some)))
        | inr most ↦ mul-le-mul_right unit most
      ];
}

pub data_begins_aligned : DataBeginsAligned
data_begins_aligned alignment = aligned (4 * (alignment + 1)) (omega arith)
