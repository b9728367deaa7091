-- The least and the greatest of 32-bit numbers are such numbers, and in order.
use Rattle.std.proofs.Common.{arith}
use Rattle.std.proofs.lemmas.Int.{clamps, ints, to_z-of_z}
use Rattle.interval_domain.proofs.fact.join_pointers.Goals as goal

pub returns-clause-value : goal.returns-clause-value
returns-clause-value c = grind (arith, to_z-of_z)

pub returns-clause-fact : goal.returns-clause-fact
returns-clause-fact c = (omega (arith, ints, clamps), omega (arith, ints, clamps), omega (arith, ints, clamps))
