-- What a fault of `verify` tells.
use Rattle.std.specs.Prelude.{◌≡◌, Option, Some}
use Rattle.accepted_programs.specs.declared.reason.Refusal.{Refusal}
use Rattle.verifier.specs.declared.fault.VerifyFault.{VerifyFault}
use Rattle.verifier.specs.declared.fault.VerifyFault.TheVariants.{Memory, Refused}

-- the fault tells of this refusal, or that there was no memory, which tells nothing of the program
abbrev pub IsFaultOf : Option Refusal → VerifyFault → Type 0
IsFaultOf found Memory = Unit {0}
IsFaultOf found (Refused refusal) = found ≡ Some refusal
