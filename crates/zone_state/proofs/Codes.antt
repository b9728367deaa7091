-- Codes and states tell each other.
use Rattle.std.proofs.Common.{◌≡◌, ℕ, Option, Some, None, refl}
use Rattle.std.proofs.lemmas.Bool.{eqb-true}
use Rattle.std.specs.Prelude.{◌==◌, IfSome}
use Rattle.common_definitions.proofs.Proved.{found_passes}
use Rattle.zone_state.specs.State.{CodesAreDistinct, code_of, state_of}
use Rattle.zone_state.specs.declared.state.TheConstants.ZoneState.{ALL}
use Rattle.zone_state.specs.declared.state.ZoneState.{ZoneState}
use Rattle.zone_state.specs.declared.state.ZoneState.TheVariants.{Empty, ImplicitlyOpened, ExplicitlyOpened, Closed, ReadOnly, Full, Offline}

there : (s : ZoneState) → state_of (code_of s) ≡ Some s
there Empty = refl
there ImplicitlyOpened = refl
there ExplicitlyOpened = refl
there Closed = refl
there ReadOnly = refl
there Full = refl
there Offline = refl

-- the state that is found for a code has it
has_code : (code : ℕ) (found : Option ZoneState) → state_of code ≡ found → IfSome found (λ s. code_of s ≡ code)
has_code code None is = tt
has_code code (Some s) is = eqb-true (code_of s) code (found_passes (λ x. code_of x == code) ALL s is)

-- no two states share a code, and no other number is one
pub codes_are_distinct : CodesAreDistinct
codes_are_distinct = record { there = there; back = λ code. has_code code (state_of code) refl }
