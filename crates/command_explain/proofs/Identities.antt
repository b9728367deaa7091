-- Identities that are the same, and those that aren't.
use Rattle.std.proofs.Common.{◌≡◌, true, arith}
use Rattle.std.proofs.lemmas.Grind.{common_steps}
use Rattle.command_explain.specs.declared.submissions.Identity.{Identity}
use Rattle.command_explain.specs.steps.Submissions.{same_identity}

-- identities that are the same are equal
pub are_equal : (a b : Identity) → same_identity a b ≡ true → a ≡ b
are_equal a b same = grind (arith, common_steps)

-- an identity is the same as itself
pub itself : (a : Identity) → same_identity a a ≡ true
itself a = grind (arith, common_steps)

-- it doesn't matter which comes first
pub swapped : (a b : Identity) → same_identity a b ≡ same_identity b a
swapped a b = grind (arith, common_steps)
