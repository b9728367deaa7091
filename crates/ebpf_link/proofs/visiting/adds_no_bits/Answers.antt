use Rattle.std.proofs.lemmas.Nat.{or_lt, xor_lt}
use Rattle.ebpf_link.proofs.visiting.adds_no_bits.Goals as goal

pub returns-in-Or : goal.returns-in-Or
returns-in-Or c = λ _ width place x y hx hy. rw c.in-Or.is (or_lt place x y hx hy)

pub returns-in-Xor : goal.returns-in-Xor
returns-in-Xor c = λ _ width place x y hx hy. rw c.in-Xor.is (xor_lt place x y hx hy)
