-- What Load comes to: nothing changes, or an accepted program takes its slot.
use Rattle.std.proofs.Common.{◌≡◌, ◌≢◌, ℕ, Bool, true, false, List, [], Option, Some, None, Result, Ok, Err, refl, subst, inl, inr}
use Rattle.std.specs.Prelude.{◌⊎◌}
use Rattle.zone_state.specs.declared.status.Status.{Status}
use Rattle.zone_state.specs.declared.status.TheConstants.Status.{SUCCESS, PROGRAM_REFUSED, PROGRAM_TRAPPED, WANT_OF_MEMORY}
use Rattle.common_definitions.specs.Checks.{first_failed}
use Rattle.nvme_entry.specs.Entry.{identifier_of}
use Rattle.nvme_entry.specs.declared.command.LoadCommand.{LoadCommand}
use Rattle.instruction_set.specs.declared.instruction.Instruction.{Instruction}
use Rattle.device_meaning.specs.Judging.{Judge, ProgramRefused}
use Rattle.device_meaning.specs.EventReplies.{Happening, Submission, completed, completion}
use Rattle.device_meaning.specs.Laws.{IsAnswered}
use Rattle.device_meaning.specs.Happenings.{judged, just_loaded, load_checks, load_unless, loading, sizes_for}
use Rattle.device_meaning.specs.State.{State, with_slot}
use Rattle.device_events.specs.declared.reply.Reply.{Reply}
use Rattle.device_events.specs.declared.reply.Reply.TheVariants as reply
use Rattle.device_meaning.proofs.Statuses.{FailsOther, failed_other, load_other, other, some_is}

-- does the reply tell that a run was admitted, or has turns left?
abbrev pub is_pending : Reply → Bool
is_pending (reply.Pending run) = true
is_pending (reply.Complete queue entry length) = false
is_pending reply.Idle = false
is_pending reply.FaultTaken = false
is_pending reply.FaultRefused = false

module _ (judge : Judge) (sub : Submission) (s : State) (load : LoadCommand) where
  -- no check fails, and the program that the judge makes of the bytes takes the slot
  pub record TakesSlot (t : State) : Type 0 where
    pub program : List (Option Instruction)
    pub passed : first_failed (load_checks s load sub.input) ≡ None
    pub accepted : judge sub.input (sizes_for s load) ≡ Ok program
    pub taken : t ≡ with_slot s load.slot (Some (just_loaded program load.limit))

  -- a Load is answered, no program trapped, and nothing changes or, with success, an accepted program takes its slot
  pub record IsLoad (h : Happening) : Type 0 where
    pub replied : is_pending h.reply.reply ≡ false
    pub answered : IsAnswered s sub h
    pub untrapped : answered.status ≢ PROGRAM_TRAPPED
    pub state : (h.state ≡ s) ⊎ TakesSlot h.state
    pub succeeds : (h.state ≡ s) ⊎ (h.reply ≡ completion sub.queue (identifier_of sub.entry) SUCCESS 0 0 [])

  refused_is : (status : Status) (dw0 dw1 : ℕ) → FailsOther (Some status) → IsLoad (completed sub status dw0 dw1 [] s)
  refused_is status dw0 dw1 fails = record {
    replied = refl;
    answered = record { status = status; code = (failed_other status fails).code; dw0 = dw0; dw1 = dw1; output = []; is = refl; so = λ failed. refl };
    untrapped = (failed_other status fails).differs;
    state = inl refl;
    succeeds = inl refl;
  }

  judged_is : (made : Result (List (Option Instruction)) ProgramRefused) → first_failed (load_checks s load sub.input) ≡ None
      → judge sub.input (sizes_for s load) ≡ made → IsLoad (judged sub s load made)
  judged_is (Err why) passed e = refused_is PROGRAM_REFUSED why.slot why.reason (some_is PROGRAM_REFUSED refl)
  judged_is (Ok program) passed e = record {
    replied = refl;
    answered = record { status = SUCCESS; code = (other SUCCESS refl).code; dw0 = 0; dw1 = 0; output = []; is = refl; so = λ failed. absurd (failed refl) };
    untrapped = (other SUCCESS refl).differs;
    state = inr (record { program = program; passed = passed; accepted = e; taken = refl });
    succeeds = inr refl;
  }

  unless_is : (why : Option Status) (starved : Bool) → first_failed (load_checks s load sub.input) ≡ why
      → IsLoad (load_unless judge why starved sub s load)
  unless_is (Some status) starved e = refused_is status 0 0 (subst FailsOther e (load_other s load sub.input))
  unless_is None true e = refused_is WANT_OF_MEMORY 0 0 (some_is WANT_OF_MEMORY refl)
  unless_is None false e = judged_is (judge sub.input (sizes_for s load)) e refl

  pub loading_is : (starved : Bool) → IsLoad (loading judge starved sub s load)
  loading_is starved = unless_is (first_failed (load_checks s load sub.input)) starved refl
