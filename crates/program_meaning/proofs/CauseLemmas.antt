-- The least cause that holds.
use Rattle.std.proofs.Common.{ℕ, suc, zero, ◌-◌, ◌≡◌, Bool, true, false, List, Option, Some, None, slice_get, refl, ap}
use Rattle.std.specs.Prelude.{if◌then◌else◌}
use Rattle.instruction_set.specs.declared.instruction.Instruction.{Instruction}
use Rattle.common_definitions.proofs.Proved.{AreNumbered, all_fail, found_passes, least_found, less_fails}
use Rattle.program_meaning.specs.Cause.{causes, hinders, is_exit, least_cause, cause_number}
use Rattle.program_meaning.specs.Effect.{register}
use Rattle.program_meaning.specs.Laws.{StuckByLeast}
use Rattle.program_meaning.specs.State.{State}
use Rattle.program_meaning.specs.Step.{Ends, Goes, Stuck, after, decided, step_of}
use Rattle.program_meaning.specs.declared.cause.Cause.{Cause}
use Rattle.program_meaning.specs.declared.cause.Cause.TheVariants.{NextOutside, NextInsideWide, WriteToFramePointer, LoadOutside, StoreOutside, UnknownHelper, EmitOutside, EmitLength}

-- the place of a cause in the list
numbered : (k : ℕ) (cause : Cause) → slice_get causes k ≡ Some cause → cause_number cause ≡ suc k
numbered zero cause e = cc
numbered (suc zero) cause e = cc
numbered (suc (suc zero)) cause e = cc
numbered (suc (suc (suc zero))) cause e = cc
numbered (suc (suc (suc (suc zero)))) cause e = cc
numbered (suc (suc (suc (suc (suc zero))))) cause e = cc
numbered (suc (suc (suc (suc (suc (suc zero)))))) cause e = cc
numbered (suc (suc (suc (suc (suc (suc (suc zero))))))) cause e = cc
numbered (suc (suc (suc (suc (suc (suc (suc (suc k)))))))) cause e = cc

listed : (cause : Cause) → slice_get causes (cause_number cause - 1) ≡ Some cause
listed NextOutside = refl
listed NextInsideWide = refl
listed WriteToFramePointer = refl
listed LoadOutside = refl
listed StoreOutside = refl
listed UnknownHelper = refl
listed EmitOutside = refl
listed EmitLength = refl

are_numbered : AreNumbered cause_number causes
are_numbered = record { listed = listed; numbered = numbered }

-- what is decided tells the cause
not_stuck : (b : Bool) (r0 slot : ℕ) (s s' t : State) (cause : Cause) → (if b then Ends r0 s else Goes s') ≡ Stuck slot cause t → ⊥
not_stuck true r0 slot s s' t cause e = cc
not_stuck false r0 slot s s' t cause e = cc

cause_of_stuck : (s : State) (i : Instruction) (least : Option Cause) (cause : Cause)
    → decided s i least ≡ Stuck s.slot cause s → least ≡ Some cause
cause_of_stuck s i None cause e = absurd (not_stuck (is_exit i) _ _ _ _ _ _ e)
cause_of_stuck s i (Some least) cause e = cc

pub stuck_by_least : StuckByLeast
stuck_by_least program limit s i cause =
    let test = hinders program limit s i in (
      (λ e. let found = cause_of_stuck s i (least_cause program limit s i) cause e in
          (found_passes test causes cause found, λ other less. less_fails are_numbered test cause other found less)),
      (λ (is, less). ap (decided s i) (least_found are_numbered test cause is less)),
    )

-- a step that goes on: no cause holds, and the state is the one after the instruction
pub record IsDone (program : List (Option Instruction)) (limit : ℕ) (s s' : State) (i : Instruction) : Type 0 where
  pub runs_on : is_exit i ≡ false
  pub free : (cause : Cause) → hinders program limit s i cause ≡ false
  pub next : after s i ≡ s'

went : (b : Bool) (r0 : ℕ) (s next s' : State) → (if b then Ends r0 s else Goes next) ≡ Goes s' → (b ≡ false) × (next ≡ s')
went true r0 s next s' e = cc
went false r0 s next s' e = (refl, cc)

done_by : (s s' : State) (i : Instruction) (least : Option Cause) → decided s i least ≡ Goes s'
    → (least ≡ None) × (is_exit i ≡ false) × (after s i ≡ s')
done_by s s' i (Some cause) e = cc
done_by s s' i None e =
    let facts = went (is_exit i) (register s 0) s (after s i) s' e in (refl, facts.0, facts.1)

-- where no cause is the least one, none holds
pub none_hinders : (program : List (Option Instruction)) (limit : ℕ) (s : State) (i : Instruction) → least_cause program limit s i ≡ None
    → (cause : Cause) → hinders program limit s i cause ≡ false
none_hinders program limit s i none cause = all_fail are_numbered (hinders program limit s i) cause none

pub done : (program : List (Option Instruction)) (limit : ℕ) (s s' : State) (i : Instruction)
    → step_of program limit s i ≡ Goes s' → IsDone program limit s s' i
done program limit s s' i e =
    let facts = done_by s s' i (least_cause program limit s i) e in
    record {
      runs_on = facts.1;
      free = none_hinders program limit s i facts.0;
      next = facts.2;
    }
