-- Why and where a program is refused.
use Rattle.std.proofs.Common.{◌≡◌, ℕ, zero, suc, ◌-◌, Option, Some, None, refl}
use Rattle.std.specs.List.{slice_get}
use Rattle.std.specs.Option.{option_map}
use Rattle.word_domain.specs.Domain.{Operations}
use Rattle.accepted_programs.specs.Accepted.{all_reasons, fails, reason_number, reason_of, refused_at}
use Rattle.accepted_programs.specs.declared.reason.Reason.{Reason}
use Rattle.accepted_programs.specs.declared.reason.Reason.TheVariants as reason
use Rattle.accepted_programs.specs.declared.reason.Refusal.{Refusal}
use Rattle.common_definitions.proofs.Proved.{AreNumbered, all_fail}
use Rattle.accepted_programs.proofs.Statements.{NoReasonHolds, RefusalIsAtItsSlot}

listed : (r : Reason) → slice_get all_reasons (reason_number r - 1) ≡ Some r
listed reason.JumpBack = refl
listed reason.JumpOutside = refl
listed reason.FallsOff = refl
listed reason.WriteToFramePointer = refl
listed reason.LoadOutside = refl
listed reason.StoreOutside = refl
listed reason.UnknownHelper = refl
listed reason.EmitAddress = refl
listed reason.EmitLength = refl
listed reason.EmitLimit = refl

numbered : (k : ℕ) (r : Reason) → slice_get all_reasons k ≡ Some r → reason_number r ≡ suc k
numbered zero r e = cc
numbered (suc zero) r e = cc
numbered (suc (suc zero)) r e = cc
numbered (suc (suc (suc zero))) r e = cc
numbered (suc (suc (suc (suc zero)))) r e = cc
numbered (suc (suc (suc (suc (suc zero))))) r e = cc
numbered (suc (suc (suc (suc (suc (suc zero)))))) r e = cc
numbered (suc (suc (suc (suc (suc (suc (suc zero))))))) r e = cc
numbered (suc (suc (suc (suc (suc (suc (suc (suc zero)))))))) r e = cc
numbered (suc (suc (suc (suc (suc (suc (suc (suc (suc zero))))))))) r e = cc
numbered (suc (suc (suc (suc (suc (suc (suc (suc (suc (suc k)))))))))) r e = cc

pub are_numbered : AreNumbered reason_number all_reasons
are_numbered = record { listed = listed; numbered = numbered }

told_here : (slot : ℕ) (reason : Option Reason) (r : Refusal) → option_map (refused_at slot) reason ≡ Some r → r.slot ≡ slot
told_here slot None r e = cc
told_here slot (Some reason) r e = cc

module _ {D : Type 0} (operations : Operations D) where
  pub none_holds : NoReasonHolds operations
  none_holds program sizes slot facts i none reason =
      all_fail are_numbered (fails operations program sizes slot facts i) reason none

  pub at_its_slot : RefusalIsAtItsSlot operations
  at_its_slot program sizes slot (Some i) (Some facts) r e =
      told_here slot (reason_of operations program sizes slot facts i) r e
  at_its_slot program sizes slot (Some i) None r e = cc
  at_its_slot program sizes slot None facts r e = cc
