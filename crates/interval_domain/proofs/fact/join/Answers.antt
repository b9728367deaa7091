-- Two areas with one address are one area.
use Rattle.std.proofs.Common.{arith}
use Rattle.std.proofs.lemmas.Bool.Decides.{nat_tests}
use Rattle.std.proofs.lemmas.Int.{to_z-of_z}
use Rattle.interval_domain.proofs.fact.join.Goals as goal

pub returns-in-Pointer-Pointer-clause-value : goal.returns-in-Pointer-Pointer-clause-value
returns-in-Pointer-Pointer-clause-value c = grind (arith, nat_tests, to_z-of_z)
