-- Laws of this crate, proved, and lemmas: all that other crates cite of it.
use Rattle.std.specs.Prelude.{ℕ}
use Rattle.word_domain.specs.Domain.{IsSound, Operations}
use Rattle.accepted_programs.specs.Laws.{AcceptedNeverTraps, RefusalIsInside}
use Rattle.accepted_programs.proofs.Statements.{AccessesLieIsProp, ArePlacesIsProp, NeverTrapsIsProp, NoReasonHolds, RefusalIsAtItsSlot}
pub use Rattle.accepted_programs.proofs.CellLaws.{none_known, set_known, set_some}
use Rattle.accepted_programs.proofs.FirstRefusals as first_refusals
use Rattle.accepted_programs.proofs.OneProof as one_proof
use Rattle.accepted_programs.proofs.Refusals as refusals
use Rattle.accepted_programs.proofs.Soundness as soundness

pub never_traps_is_prop : NeverTrapsIsProp
never_traps_is_prop = one_proof.never_traps_is_prop

pub accesses_lie_is_prop : AccessesLieIsProp
accesses_lie_is_prop = one_proof.accesses_lie_is_prop

module _ {D : Type 0} (operations : Operations D) where
  pub are_places_is_prop : ArePlacesIsProp operations
  are_places_is_prop = one_proof.are_places_is_prop operations

  pub refusal_is_inside : RefusalIsInside operations
  refusal_is_inside = first_refusals.refusal_inside operations

  pub refusal_is_at_its_slot : RefusalIsAtItsSlot operations
  refusal_is_at_its_slot = refusals.at_its_slot operations

  pub no_reason_holds : NoReasonHolds operations
  no_reason_holds = refusals.none_holds operations

module _ {D : Type 0} {IsFact : D → Type 0} {contains : D → ℕ → Type 0} {operations : Operations D}
    (sound : IsSound IsFact contains operations) where
  pub accepted_never_traps : AcceptedNeverTraps operations
  accepted_never_traps = soundness.accepted_never_traps sound
