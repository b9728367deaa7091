-- One event that happened: the state behind it is one that events leave, and a submitted entry is such an event.
use Rattle.std.proofs.Common.{◌≡◌, ◌<◌, ◌^◌, ℕ, List, [], ◌∷◌, length, refl, ap, sym, subst, ◌∙◌, arith}
use denote.RawPtr.{block_ptr}
use Rattle.std.specs.Prelude.{Vec}
use Rattle.std.specs.declared.alloc.Global.{Global}
use Rattle.common_definitions.specs.Bytes.{AreBytes}
use Rattle.nvme_entry.specs.Entry.{decoded}
use Rattle.device_meaning.specs.Judging.{Judge}
use Rattle.device_meaning.specs.EventReplies.{Happening, Submission, submission_of}
use Rattle.device_events.specs.Replies.{ReplyWithData}
use Rattle.device_meaning.specs.Events.{CarriesBytes, HasHappened, Occurrence}
use Rattle.device_meaning.specs.Happenings.{happens, submitted}
use Rattle.device_meaning.specs.State.{State}
use Rattle.device_events.specs.declared.event.Event.{Event}
use Rattle.device_events.specs.declared.event.Event.TheVariants as event
use Rattle.device_events.specs.ToldEvents.{told_of}
use Rattle.device_events.specs.ToldEvents as told
use Rattle.device_meaning.proofs.Proved.{events_keep_reached}
use Rattle.runner.specs.Taken.{HasTakenBy}
use Rattle.runner.specs.steps.Answered.{HasSubmitted, as_submission}
use Rattle.runner.specs.declared.submission.Submission.{Submission as GivenSubmission}
use Rattle.device_meaning.specs.Reached.{IsReached}

-- the entry of an event, as it was submitted
as_submitted : (sub : Submission) (queue : ℕ) (entry input : List ℕ) → sub.queue ≡ queue → sub.entry ≡ entry → sub.input ≡ input
    → sub ≡ submission_of queue entry input
as_submitted sub queue entry input same_queue same_entry same_input =
    ap (λ (q : ℕ). submission_of q sub.entry sub.input) same_queue
    ∙ ap (λ (e : List ℕ). submission_of queue e sub.input) same_entry
    ∙ ap (submission_of queue entry) same_input

-- data as an event has it; where it lies is of no matter
abbrev pub in_memory : (bytes : List ℕ) → length bytes < 2 ^ 63 → Vec ℕ Global
in_memory bytes small = record {
  ptr = block_ptr 0 0;
  len = length bytes;
  cap = length bytes;
  alloc = record { memory = record { seal = tt } };
  items = bytes;
  ok = (refl, omega arith);
  small = small;
}

module _ (judge : Judge) where
  -- one more event leaves a state that events leave
  pub reached_more : (s t : State) (o : Occurrence) → IsReached judge s → CarriesBytes o.event → t ≡ (happens judge s o.starved o.event).state → IsReached judge t
  reached_more s t o reached has step = subst (IsReached judge) (sym step) (events_keep_reached judge s (o ∷ []) reached (has, tt))

  -- ---- one event

  reached_by : (e : Event) (old new : State) (reply : ReplyWithData) → IsReached judge old → CarriesBytes (told_of e) → HasHappened judge e old new reply → IsReached judge new
  reached_by e old new reply reached has happened =
      let o : Occurrence = record { event = told_of e; starved = happened.starved } in reached_more old new o reached has happened.state

  pub submission_happened : (queue : ℕ) (entry : List ℕ) (input : Vec ℕ Global) (given : GivenSubmission) (old new : State) (reply : ReplyWithData)
      → given.queue ≡ queue → given.entry.now ≡ entry → given.input.now ≡ input.items
      → HasSubmitted judge given (decoded given.entry.now) old new reply → HasHappened judge (event.Submit queue entry input) old new reply
  submission_happened queue entry input given old new reply same_queue same_entry same_input h =
      let same = as_submitted (as_submission given) queue entry input.items same_queue same_entry same_input in
      let happening : happens judge old h.starved (told.Submitted queue entry input.items) ≡ record { reply = reply; state = new } =
      ap (λ (x : Submission). submitted judge h.starved x old (decoded x.entry)) (sym same) ∙ h.happening in
      record {
        starved = h.starved;
        state = sym (ap (λ (x : Happening). x.state) happening);
        replied = sym (ap (λ (x : Happening). x.reply) happening);
      }

  pub submission_reached : (queue : ℕ) (entry : List ℕ) (input : Vec ℕ Global) (given : GivenSubmission) (old new : State) (reply : ReplyWithData)
      → IsReached judge old → AreBytes input.items → given.queue ≡ queue → given.entry.now ≡ entry → given.input.now ≡ input.items
      → HasSubmitted judge given (decoded given.entry.now) old new reply → IsReached judge new
  submission_reached queue entry input given old new reply reached bytes same_queue same_entry same_input h =
      reached_by (event.Submit queue entry input) old new reply reached bytes
      (submission_happened queue entry input given old new reply same_queue same_entry same_input h)

  -- ---- an entry with its data where that lies

  pub submission_taken : (queue : ℕ) (entry input : List ℕ) (given : GivenSubmission) (old new : State) (reply : ReplyWithData)
      → length input < 2 ^ 63 → given.queue ≡ queue → given.entry.now ≡ entry → given.input.now ≡ input
      → HasSubmitted judge given (decoded given.entry.now) old new reply → HasTakenBy judge queue entry input old new reply
  submission_taken queue entry input given old new reply small same_queue same_entry same_input h = record {
    carried = in_memory input small;
    bytes = refl;
    happened = submission_happened queue entry (in_memory input small) given old new reply same_queue same_entry same_input h;
  }

  pub taken_reached : (queue : ℕ) (entry input : List ℕ) (given : GivenSubmission) (old new : State) (reply : ReplyWithData)
      → length input < 2 ^ 63 → IsReached judge old → AreBytes input
      → given.queue ≡ queue → given.entry.now ≡ entry → given.input.now ≡ input
      → HasSubmitted judge given (decoded given.entry.now) old new reply → IsReached judge new
  taken_reached queue entry input given old new reply small = submission_reached queue entry (in_memory input small) given old new reply
