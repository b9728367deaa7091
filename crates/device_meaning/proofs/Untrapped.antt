-- No reply in a state that events leave tells that a program couldn't go on.
use Rattle.std.proofs.Common.{◌≡◌, ◌≢◌, ℕ, Bool, false, List, [], ◌∷◌, Option, Some, None, Result, Ok, Err, refl, subst, inl, inr, ◌⊎◌}
use Rattle.zone_state.specs.declared.status.Status.{Status}
use Rattle.zone_state.specs.declared.status.TheConstants.Status.{SUCCESS, PROGRAM_TRAPPED}
use Rattle.zone_state.specs.declared.zone.FaultRefused.{FaultRefused}
use Rattle.nvme_entry.specs.Entry.{identifier_of}
use Rattle.device_meaning.specs.Judging.{IsSoundJudge, Judge}
use Rattle.zns_commands.specs.Fault.{zone_fault_refusal}
use Rattle.zns_commands.specs.Meaning.{meaning}
use Rattle.zns_commands.proofs.Proved.{statuses_are_standard}
use Rattle.device_meaning.specs.EventReplies.{CompletesOnlyWith, Happening, IsCompletionOf, Submission, is_completion, submission_of}
use Rattle.device_meaning.specs.Happenings.{fault_reply, happens, turn_reply}
use Rattle.device_meaning.specs.Laws.{NoReplyIsTrapped}
use Rattle.device_meaning.specs.Outcome.{Ending, EndsWithLast, Succeeds, Turn}
use Rattle.device_meaning.specs.State.{Place, State, holds_at, place_at}
use Rattle.device_events.specs.ToldEvents.{ToldEvent}
use Rattle.device_events.specs.ToldEvents as told
use Rattle.device_meaning.proofs.Changes.{HoldsOfEach, of_entry, of_turn}
use Rattle.device_meaning.proofs.Statuses.{standard_other, success_other}
use Rattle.device_meaning.proofs.SoundStates.{states_are_sound}

abbrev IsOtherStatus : Status → Type 0
IsOtherStatus status = status ≢ PROGRAM_TRAPPED

-- ---- entries

module _ (judge : Judge) (sub : Submission) (s : State) where
  abbrev IsUntrapped : Happening → Type 0
  IsUntrapped h = (is_completion h.reply.reply ≡ false) ⊎ IsCompletionOf sub.queue (identifier_of sub.entry) IsOtherStatus h.reply

  entries_untrapped : HoldsOfEach judge IsUntrapped sub s
  entries_untrapped = record {
    unchanged = λ status output other.
        inr (record { status = status; code = other.code; dw0 = 0; dw1 = 0; output = output; is = refl; so = other.differs });
    standard = λ c asked.
        let done = meaning s.namespace (holds_at s) c sub.input in
        let other = standard_other done.status (statuses_are_standard s.namespace (holds_at s) c sub.input) in
        inr (record {
          status = done.status;
          code = other.code;
          dw0 = done.dw0;
          dw1 = done.dw1;
          output = done.output;
          is = refl;
          so = other.differs;
        });
    load = λ load h asked is.
        let a = is.answered in
        inr (record { status = a.status; code = a.code; dw0 = a.dw0; dw1 = a.dw1; output = a.output; is = a.is; so = is.untrapped });
    start = λ command run asked passed at. inl refl;
  }

-- ---- turns

-- the turn that ends a run ends it with success
pub ends_with_success : (turn : Turn) (later : List Turn) (ending : Ending) → EndsWithLast (turn ∷ later) → turn.ending ≡ Some ending
    → ending.status ≡ SUCCESS
ends_with_success turn [] ending ends is = subst Succeeds is ends
ends_with_success turn (next ∷ later) ending ends is = absurd (let none = ends.0 in cc)

turn_untrapped : (s : State) (run : ℕ) (place : Place) (turn : Turn) (later : List Turn) (ending : Option Ending) → place_at s run ≡ Some place
    → EndsWithLast (turn ∷ later) → turn.ending ≡ ending → CompletesOnlyWith IsOtherStatus s (told.Turned run) (turn_reply run place ending)
turn_untrapped s run place turn later None here ends is = inl refl
turn_untrapped s run place turn later (Some ending) here ends is =
    let other = success_other ending.status (ends_with_success turn later ending ends is) in
    inr (
      place,
      here,
      record {
        status = ending.status;
        code = other.code;
        dw0 = ending.dw0;
        dw1 = ending.dw1;
        output = [];
        is = refl;
        so = other.differs;
      },
    )

-- ---- faults

fault_untrapped : (r : Result (Unit {0}) FaultRefused) → is_completion (fault_reply r) ≡ false
fault_untrapped (Ok done) = refl
fault_untrapped (Err refused) = refl

-- ---- events

module _ (judge : Judge) where
  event_untrapped : (s : State) (starved : Bool) (e : ToldEvent) → ((run : ℕ) (place : Place) → place_at s run ≡ Some place → EndsWithLast place.turns)
      → CompletesOnlyWith IsOtherStatus s e (happens judge s starved e).reply
  event_untrapped s starved (told.Submitted queue entry input) ends =
      let sub = submission_of queue entry input in
      of_entry judge (IsUntrapped judge sub s) sub s (entries_untrapped judge sub s) starved
  event_untrapped s starved (told.Turned run) ends =
      of_turn (λ (h : Happening). CompletesOnlyWith IsOtherStatus s (told.Turned run) h.reply) s run (inl refl)
      (λ place turn later here first. turn_untrapped s run place turn later turn.ending here (subst EndsWithLast first (ends run place here)) refl)
  event_untrapped s starved (told.Faulted zone state) ends = fault_untrapped (zone_fault_refusal s.namespace (holds_at s) zone state)

  pub no_reply_is_trapped : IsSoundJudge judge → NoReplyIsTrapped judge
  no_reply_is_trapped sound s o reached = event_untrapped s o.starved o.event (states_are_sound judge sound s reached).ends
