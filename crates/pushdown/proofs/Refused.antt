-- An event that is refused leaves the state as it was.
use Rattle.std.proofs.Common.{◌≡◌, ◌≢◌, ℕ, Bool, true, false, List, [], Option, Some, None, Result, Ok, Err, refl, ap, subst, inl, inr}
use Rattle.zone_state.specs.declared.state.FaultState.{FaultState}
use Rattle.zone_state.specs.declared.status.TheConstants.Status.{SUCCESS}
use Rattle.zone_state.specs.declared.zone.FaultRefused.{FaultRefused}
use Rattle.device_meaning.specs.Judging.{IsSoundJudge, Judge}
use Rattle.zns_commands.specs.Fault.{faulted_by, zone_fault_refusal}
use Rattle.device_meaning.specs.EventReplies.{CompletesOnlyWith, Happening, is_completion}
use Rattle.device_meaning.specs.Happenings.{fault_reply, happens, turn_reply, turn_state}
use Rattle.device_meaning.specs.Outcome.{Ending, EndsWithLast}
use Rattle.device_meaning.specs.State.{Place, State, holds_at, place_at, with_namespace}
use Rattle.device_events.specs.Replies.{ReplyWithData, without_data}
use Rattle.device_events.specs.ToldEvents.{ToldEvent}
use Rattle.device_events.specs.ToldEvents as told
use Rattle.device_events.specs.declared.reply.Reply.{Reply}
use Rattle.device_events.specs.declared.reply.Reply.TheVariants as reply
use Rattle.device_meaning.proofs.Proved.{ends_with_success, is_pending, of_turn, states_are_sound, success_other}
use Rattle.pushdown.specs.Laws.{LeavesIfRefused, RefusedEventsLeaveState}
use Rattle.pushdown.proofs.Answered.{refused_leaves_state}

-- replies of which one passes a test and the other doesn't
apart : (test : Reply → Bool) (a b : ReplyWithData) → test a.reply ≡ true → test b.reply ≡ false → a ≡ b → ⊥
apart test a b passes fails is = let same = ap (λ (x : ReplyWithData). test x.reply) is in cc

abbrev is_taken : Reply → Bool
is_taken (reply.Complete queue entry length) = false
is_taken (reply.Pending run) = false
is_taken reply.Idle = false
is_taken reply.FaultTaken = true
is_taken reply.FaultRefused = false

-- a reply that passes such a test refuses nothing, unless it is a completion
module _ (s : State) (e : ToldEvent) (h : Happening) where
  leaves_by : (test : Reply → Bool) → test h.reply.reply ≡ true → test reply.Idle ≡ false → test reply.FaultRefused ≡ false
      → CompletesOnlyWith (λ status. status ≢ SUCCESS → h.state ≡ s) s e h.reply → LeavesIfRefused s e h
  leaves_by test passes idle fault completed = record {
    idle = λ other. absurd (apart test h.reply (without_data reply.Idle) passes idle other);
    fault = λ other. absurd (apart test h.reply (without_data reply.FaultRefused) passes fault other);
    completed = completed;
  }

-- ---- turns and faults

turn_leaves : (s after : State) (run : ℕ) (place : Place) (ending : Option Ending) → place_at s run ≡ Some place
    → ((e : Ending) → ending ≡ Some e → e.status ≡ SUCCESS)
    → LeavesIfRefused s (told.Turned run) (record { reply = turn_reply run place ending; state = after })
turn_leaves s after run place None here succeeds =
    leaves_by s (told.Turned run) (record { reply = turn_reply run place None; state = after }) is_pending refl refl refl (inl refl)
turn_leaves s after run place (Some e) here succeeds =
    leaves_by s (told.Turned run) (record { reply = turn_reply run place (Some e); state = after }) is_completion refl refl refl
    (inr (
      place,
      here,
      record {
        status = e.status;
        code = (success_other e.status (succeeds e refl)).code;
        dw0 = e.dw0;
        dw1 = e.dw1;
        output = [];
        is = refl;
        so = λ fails. absurd (fails (succeeds e refl));
      },
    ))

fault_leaves : (s : State) (zone : ℕ) (state : FaultState) (r : Result (Unit {0}) FaultRefused)
    → LeavesIfRefused s (told.Faulted zone state) (record { reply = without_data (fault_reply r); state = with_namespace s (faulted_by r s.namespace zone state) })
fault_leaves s zone state (Ok done) =
    let h : Happening = record { reply = without_data reply.FaultTaken; state = with_namespace s (faulted_by (Ok done) s.namespace zone state) } in
    leaves_by s (told.Faulted zone state) h is_taken refl refl refl refl
fault_leaves s zone state (Err refused) = record { idle = λ is. refl; fault = λ is. refl; completed = refl }

-- ---- events

module _ (judge : Judge) where
  entry_leaves : (s : State) (starved : Bool) (queue : ℕ) (entry input : List ℕ)
      → let e = told.Submitted queue entry input in LeavesIfRefused s e (happens judge s starved e)
  entry_leaves s starved queue entry input =
      let e = told.Submitted queue entry input in
      let h = happens judge s starved e in
      elim (refused_leaves_state judge s starved queue entry input) [
        | inl pending ↦
            leaves_by s e h is_pending (ap (λ (x : ReplyWithData). is_pending x.reply) pending.1) refl refl
            (inl (ap (λ (x : ReplyWithData). is_completion x.reply) pending.1))
        | inr answered ↦ leaves_by s e h is_completion (ap (λ (x : ReplyWithData). is_completion x.reply) answered.is) refl refl (inr answered)
      ]

  event_leaves : (s : State) (starved : Bool) (e : ToldEvent) → ((run : ℕ) (place : Place) → place_at s run ≡ Some place → EndsWithLast place.turns)
      → LeavesIfRefused s e (happens judge s starved e)
  event_leaves s starved (told.Submitted queue entry input) ends = entry_leaves s starved queue entry input
  event_leaves s starved (told.Turned run) ends =
      of_turn (LeavesIfRefused s (told.Turned run)) s run (record { idle = λ is. refl; fault = λ is. refl; completed = inl refl })
      (λ place turn later here first.
      turn_leaves s (turn_state s run place turn later) run place turn.ending here
      (λ e is. ends_with_success turn later e (subst EndsWithLast first (ends run place here)) is))
  event_leaves s starved (told.Faulted zone state) ends = fault_leaves s zone state (zone_fault_refusal s.namespace (holds_at s) zone state)

  pub refused_events_leave_state : IsSoundJudge judge → RefusedEventsLeaveState judge
  refused_events_leave_state sound s o reached = event_leaves s o.starved o.event (states_are_sound judge sound s reached).ends
