-- An entry that is submitted.
use Rattle.std.proofs.Common.{◌≡◌, ℕ, ◌≤◌, List, length, take, Option, None, Some, refl, ap, subst, ◌∙◌, arith}
use Rattle.std.specs.Option.{option_map}
use Rattle.std.proofs.lemmas.List.{length-take}
use Rattle.device_events.specs.Replies.{data_length}
use Rattle.device_events.specs.declared.reply.Reply.{Reply}
use Rattle.device_meaning.specs.State.{State}
use Rattle.runner.specs.Taken.{HasTaken}
use Rattle.tcp_pdus.specs.declared.sent.TheConstants.{MOST_DATA}
use Rattle.tcp_connection.specs.Executing.{Execution}
use Rattle.tcp_target.specs.QueueCommands.{connect_data_at, given_to_device}
use Rattle.tcp_target.specs.QueueLaws.{GivenAreLive}
use Rattle.tcp_target.specs.Events.{handed_over}
use Rattle.tcp_target.specs.Target.{TargetState}
use Rattle.tcp_device.specs.Deeds.{DoesWith, Served, reply_in, submission_replies}
use Rattle.tcp_device.specs.Served.{ServesGiven, Submits, completed_by, kept_by}
use Rattle.tcp_device.specs.State.{CommandOfRun, ServedState}
use Rattle.tcp_device.specs.steps.Handing.{Hands}
use Rattle.tcp_device.proofs.Given.{data_given}

abbrev behind : State → TargetState → List (Option CommandOfRun) → ServedState → ServedState
behind device target pending s = record { device = device; target = target; pending = pending; next = s.next }

-- what the device gave for an entry, and what the target became by it
pub handed : (entry input asked bytes : List ℕ) (number : ℕ) (device device' : State) (reply : Reply) (target between after : TargetState)
    → HasTaken number entry asked device device' (record { reply = reply; bytes = bytes }) → length bytes ≤ MOST_DATA
    → asked ≡ input → between ≡ handed_over number target → after ≡ completed_by reply bytes number entry between
    → Hands entry input number device device' target after reply
handed entry input asked bytes number device device' reply target between after taken few asked_is between_is after_is = record {
  bytes = bytes;
  taken = subst (λ (x : List ℕ). HasTaken number entry x device device' (record { reply = reply; bytes = bytes })) asked_is taken;
  few = few;
  completed = after_is ∙ ap (completed_by reply bytes number entry) between_is;
}

-- the same, where the bytes are the first ones of what the device was lent for them
pub handed_front : (entry input asked output : List ℕ) (count number : ℕ) (device device' : State) (reply : Reply) (target between after : TargetState)
    → HasTaken number entry asked device device' (record { reply = reply; bytes = take (data_length reply) output }) → length output ≤ MOST_DATA
    → asked ≡ input → between ≡ handed_over number target → count ≡ data_length reply → after ≡ completed_by reply (take count output) number entry between
    → Hands entry input number device device' target after reply
handed_front entry input asked output count number device device' reply target between after taken few asked_is between_is count_is after_is =
    handed entry input asked (take (data_length reply) output) number device device' reply target between after taken
    (omega (arith, few, length-take (data_length reply) output)) asked_is between_is
    (after_is ∙ ap (λ (n : ℕ). completed_by reply (take n output) number entry between) count_is)

-- and the commands of runs
abbrev submits : (entry input : List ℕ) (number : ℕ) (old : ServedState) (device : State) (reply : Reply) (after : TargetState)
    (pending : List (Option CommandOfRun)) → Hands entry input number old.device device old.target after reply
    → pending ≡ kept_by reply number entry old.pending → Submits entry input number old (behind device after pending old)
submits entry input number old device reply after pending hands pending_is = record {
  reply = record { reply = reply; bytes = hands.bytes };
  taken = hands.taken;
  few = hands.few;
  rest =
      ap (λ (t : TargetState). behind device t pending old) hands.completed
      ∙ ap (λ (p : List (Option CommandOfRun)). behind device (completed_by reply hands.bytes number entry (handed_over number old.target)) p old) pending_is;
}

module _ (number : ℕ) (old : ServedState) (device : State) (reply : Reply) (after : TargetState) (pending : List (Option CommandOfRun)) where
  abbrev new : ServedState
  new = behind device after pending old

  abbrev Entry : Option Execution → List ℕ → Type 0
  Entry given entry = option_map (λ (e : Execution). e.entry) given ≡ Some entry

  abbrev Serves : Option Execution → Type 0
  Serves given = (done : ServesGiven given number old new) × (reply_in (submission_replies given number old new done) ≡ reply)

  serves : (entry input : List ℕ) (given : Option Execution) → Entry given entry
      → ((execution : Execution) → given ≡ Some execution → input ≡ execution.data)
      → Hands entry input number old.device device old.target after reply → pending ≡ kept_by reply number entry old.pending → Serves given
  serves entry input None is data_is hands pending_is = absurd (cc)
  serves entry input (Some execution) is data_is hands pending_is =
      let entry_is : entry ≡ execution.entry = cc in (
        submits execution.entry execution.data number old device reply after pending
            (subst (λ (x : List ℕ). Hands execution.entry x number old.device device old.target after reply) (data_is execution refl)
            (subst (λ (x : List ℕ). Hands x input number old.device device old.target after reply) entry_is hands))
            (subst (λ (x : List ℕ). pending ≡ kept_by reply number x old.pending) entry_is pending_is),
        refl,
      )

  -- what goes to the device was submitted to it, with its data
  pub submitted : GivenAreLive → (entry : List ℕ) → Entry (given_to_device number old.target.queues) entry
      → Hands entry (connect_data_at number old.target.queues) number old.device device old.target after reply
      → pending ≡ kept_by reply number entry old.pending → DoesWith (Served number) old new reply
  submitted live entry is hands pending_is =
      let done : Serves (given_to_device number old.target.queues) =
      serves entry (connect_data_at number old.target.queues) (given_to_device number old.target.queues) is (data_given live number old.target.queues)
      hands pending_is in
      record { does = done.0; replied = done.1 }
