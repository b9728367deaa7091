-- What the frames of events lead to that are noted.
use Rattle.std.proofs.Common.{◌≡◌, ◌<◌, ◌≤◌, ◌^◌, ◌&&◌, ◌⊎◌, inl, inr, ℕ, Bool, true, false, not, List, length, refl, ap, subst, ◌∙◌}
use Rattle.nvme_entry.specs.Entry.{decoded, identifier_of}
use Rattle.event_frames.specs.Frames.{request_frame}
use Rattle.event_frames.specs.Requests as request
use Rattle.device_events.specs.declared.reply.Reply.{Reply}
use Rattle.device_events.specs.declared.reply.Reply.TheVariants.{Idle}
use Rattle.device_events.specs.ToldEvents as told
use Rattle.device_events.specs.declared.event.Event.TheVariants as event
use Rattle.device_meaning.specs.State.{State}
use Rattle.durable_device.specs.Again.{ChangesComeAgain, IsDoneAgain}
use Rattle.durable_device.specs.Changing.{asks_change, is_idle, is_refusal, may_change}
use Rattle.durable_device.specs.FrameEvents.{IsFrameOf}
use Rattle.durable_device.specs.Machine.{next_state}
use Rattle.tcp_device.proofs.Deeds.{WasSubmitted, WasTurned}

both_hold : (a b : Bool) → a ≡ true → b ≡ false → (a && not b) ≡ true
both_hold true false first second = refl
both_hold true true first second = absurd (cc)
both_hold false b first second = absurd (cc)

first_lacks : (a b : Bool) → a ≡ false → (a && not b) ≡ false
first_lacks false b is = refl
first_lacks true b is = absurd (cc)

second_lacks : (a b : Bool) → b ≡ true → (a && not b) ≡ false
second_lacks true true is = refl
second_lacks false b is = refl
second_lacks true false is = absurd (cc)

module _ (again : ChangesComeAgain) (old new : State) (reply : Reply) where
  module _ (queue : ℕ) (entry input : List ℕ) (identified : identifier_of entry < 2 ^ 16) (was : WasSubmitted queue entry input old new reply) where
    submitted_again : IsDoneAgain (may_change (told.Submitted queue entry input) reply) (told.Submitted queue entry input) old new
    submitted_again =
        subst (λ (r : Reply). IsDoneAgain (may_change (told.Submitted queue entry input) r) (told.Submitted queue entry input) old new) was.replied
        (subst (λ (l : List ℕ). IsDoneAgain (may_change (told.Submitted queue entry l) was.given.reply) (told.Submitted queue entry l) old new)
        was.taken.bytes (again (event.Submit queue entry was.taken.carried) old new was.given identified was.taken.happened))

    -- what only reads changes nothing,
    pub reads : asks_change (decoded entry) ≡ false → new ≡ old
    reads is = submitted_again.idle (first_lacks (asks_change (decoded entry)) (is_refusal reply) is)

    -- and what is refused,
    pub refused : is_refusal reply ≡ true → new ≡ old
    refused is = submitted_again.idle (second_lacks (asks_change (decoded entry)) (is_refusal reply) is)

    -- and what else was submitted its frame leads to
    pub changed : asks_change (decoded entry) ≡ true → is_refusal reply ≡ false → queue < 2 ^ 16 → length entry ≡ 64 → length input ≤ 131072
        → new ≡ next_state old false (request_frame (request.Submitted queue entry input))
    changed asks taken_is numbered entry_size input_size =
        let frame = request_frame (request.Submitted queue entry input) in
        let is : IsFrameOf (told.Submitted queue entry input) frame = record { fits = (numbered, entry_size, input_size); spelled = refl } in
        submitted_again.again (both_hold (asks_change (decoded entry)) (is_refusal reply) asks taken_is) frame is

  module _ (run : ℕ) (numbered : run < 2 ^ 8) (was : WasTurned run old new reply) where
    turned_again : IsDoneAgain (may_change (told.Turned run) reply) (told.Turned run) old new
    turned_again =
        subst (λ (r : Reply). IsDoneAgain (may_change (told.Turned run) r) (told.Turned run) old new) was.replied
        (again (event.Turn run) old new was.given tt was.happened)

    -- where there is no run a turn changes nothing,
    pub idled : is_idle reply ≡ true → new ≡ old
    idled is = turned_again.idle (ap not is)

    -- and else its frame leads to what it did
    pub turned : is_idle reply ≡ false → new ≡ next_state old false (request_frame (request.Turned run))
    turned is = turned_again.again (ap not is) (request_frame (request.Turned run)) (record { fits = numbered; spelled = refl })

  -- a run was to go on of whose command no connection waits
  module _ (run : ℕ) (numbered : run < 2 ^ 8) where
    -- where there is none nothing has changed,
    pub resumed_idle : ((new ≡ old) × (Idle ≡ reply)) ⊎ WasTurned run old new reply → is_idle reply ≡ true → new ≡ old
    resumed_idle (inl (same, idle)) is = same
    resumed_idle (inr was) is = idled run numbered was is

    -- and else it had a turn
    pub resumed : ((new ≡ old) × (Idle ≡ reply)) ⊎ WasTurned run old new reply → is_idle reply ≡ false
        → new ≡ next_state old false (request_frame (request.Turned run))
    resumed (inl (same, idle)) is = let other : true ≡ false = ap is_idle idle ∙ is in absurd (cc)
    resumed (inr was) is = turned run numbered was is
