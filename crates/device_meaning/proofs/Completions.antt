-- Each submission has one completion.
use Rattle.std.proofs.Common.{◌≡◌, ℕ, zero, suc, ◌+◌, ◌/◌, ◌%◌, ◌^◌, ◌<◌, ◌≤◌, Bool, true, false, cond, List, [], ◌∷◌, ◌++◌, length, set, get_or, drop, Option, Some, None, Result, Ok, Err, refl, ap, sym, ◌∙◌, arith, inl, inr}
use Rattle.std.specs.Prelude.{◌==◌, ◌&&◌, count_by, is_none, is_some, position}
use Rattle.std.specs.List.{position_or_len, sum_by}
use Rattle.std.proofs.lemmas.Grind.{common_steps}
use Rattle.std.proofs.lemmas.List.Quantifiers.{position-Some}
use Rattle.std.proofs.lemmas.List.Sums.{fails_before_first, sum_by-append, sum_by-cons, sum_by-set}
use Rattle.byteorder.specs.Numbers.{little_from-bytes}
use Rattle.zone_state.specs.declared.status.Status.{Status}
use Rattle.zone_state.specs.declared.zone.FaultRefused.{FaultRefused}
use Rattle.zone_resources.proofs.Proved.{there}
use Rattle.nvme_entry.specs.Completion.{completion_bytes, status_dword}
use Rattle.nvme_entry.specs.Dwords.{dword}
use Rattle.nvme_entry.specs.Entry.{identifier_of}
use Rattle.nvme_entry.specs.declared.completion.Completion.{Completion}
use Rattle.device_meaning.specs.Judging.{Judge}
use Rattle.zns_commands.specs.Fault.{zone_fault_refusal}
use Rattle.zns_commands.specs.Meaning.{meaning}
use Rattle.device_meaning.specs.Completions.{EachIsCompletedOnce, NoCompletionIsLost, active_runs, completes, completions, is_this_command, is_its_run, submissions, submits}
use Rattle.device_meaning.specs.Draining.{lowest_run}
use Rattle.device_meaning.specs.EventReplies.{Happening, Submission, completed, completion, submission_of}
use Rattle.device_meaning.specs.Events.{Occurrence, replies_to, state_after}
use Rattle.device_meaning.specs.Happenings.{admitted_place, commanded, fault_reply, happens, place_left, turn_reply}
use Rattle.device_meaning.specs.JoinedEvents.{turn_events}
use Rattle.device_meaning.specs.Outcome.{Ending, Turn}
use Rattle.device_meaning.specs.State.{Place, State, holds_at}
use Rattle.device_events.specs.Replies.{ReplyWithData}
use Rattle.device_events.specs.ToldEvents.{ToldEvent}
use Rattle.device_events.specs.ToldEvents as told
use Rattle.device_meaning.proofs.Changes.{HoldsOfEach, of_entry, of_turn}
use Rattle.device_meaning.proofs.JoinedEvents.{drained_by_turns, events_in_parts}

-- ---- the identifier that a completion's bytes tell

identifier_told : (c : Completion) → dword (completion_bytes c) 3 % 2 ^ 16 ≡ c.cid % 2 ^ 16
identifier_told c =
    let n = status_dword c.cid c.status in
    let third : dword (completion_bytes c) 3 ≡ n / 256 ^ 0 % 256 ^ 4 = little_from-bytes 4 0 n (drop 16 (completion_bytes c)) in
    ap (λ (m : ℕ). m % 2 ^ 16) third ∙ omega arith

-- ---- lists of which nothing counts

none_counts : {X : Type 0} (f : X → ℕ) (xs : List X) (d : X) → ((k : ℕ) → k < length xs → f (get_or xs k d) ≡ 0) → sum_by f xs ≡ 0
none_counts f [] d none = refl
none_counts f (x ∷ xs) d none =
    let first : f x ≡ 0 = none zero (omega arith) in
    let later = none_counts f xs d (λ k within. none (suc k) (omega (arith, within))) in
    omega (arith, sum_by-cons f x xs, first, later)

module _ (queue cid : ℕ) where
  abbrev counted : Option Place → ℕ
  counted place = cond (is_its_run queue cid place) 1 0

  free_counts : (place : Option Place) → is_none place ≡ true → counted place ≡ 0
  free_counts None free = refl
  free_counts (Some place) free = cc

  idle_counts : (place : Option Place) → is_some place ≡ false → counted place ≡ 0
  idle_counts None free = refl
  idle_counts (Some place) free = cc

  none_active : (places : List (Option Place)) → position is_some places ≡ None → count_by (is_its_run queue cid) places ≡ 0
  none_active places none =
      let past : length places ≤ position_or_len is_some places = grind (arith, common_steps) in
      none_counts counted places None
      (λ k within. idle_counts (get_or places k None) (fails_before_first is_some places k None (omega (arith, past, within))))

  -- ---- what each event comes to

  completion_completes : (from id : ℕ) (status : Status) (dw0 dw1 : ℕ) (output : List ℕ)
      → completes queue cid (completion from id status dw0 dw1 output).reply ≡ is_this_command queue cid from id
  completion_completes from id status dw0 dw1 output =
      ap (λ (m : ℕ). (from == queue) && (m == cid)) (identifier_told (record { dw0 = dw0; dw1 = dw1; queue = from; cid = id; status = status }))

  -- completions and active runs are as many more as were submitted
  abbrev KeepsCount : State → Bool → Happening → Type 0
  KeepsCount s asked h = cond (completes queue cid h.reply.reply) 1 0 + active_runs queue cid h.state ≡ cond asked 1 0 + active_runs queue cid s

  abbrev asks : Submission → Bool
  asks sub = is_this_command queue cid sub.queue (identifier_of sub.entry)

  -- an entry that is answered at once
  answered_keeps : (s : State) (sub : Submission) (h : Happening) → completes queue cid h.reply.reply ≡ asks sub → h.state.places ≡ s.places
      → KeepsCount s (asks sub) h
  answered_keeps s sub h reply places =
      ap (λ (b : Bool). cond b 1 0 + active_runs queue cid h.state) reply
      ∙ ap (λ (ps : List (Option Place)). cond (asks sub) 1 0 + count_by (is_its_run queue cid) ps) places

  -- a run that takes a free place
  started_counts : (places : List (Option Place)) (run : ℕ) (new : Place) → position is_none places ≡ Some run
      → count_by (is_its_run queue cid) (set places run (Some new)) ≡ counted (Some new) + count_by (is_its_run queue cid) places
  started_counts places run new free =
      let found = position-Some is_none places run None free in
      let moved = sum_by-set counted places run (Some new) None found.0 in
      omega (arith, moved, free_counts (get_or places run None) found.1)

  -- a turn of a run
  turned_counts : (places : List (Option Place)) (run : ℕ) (place : Place) (later : List Turn) (ending : Option Ending) → get_or places run None ≡ Some place
      → cond (completes queue cid (turn_reply run place ending).reply) 1 0 + count_by (is_its_run queue cid) (set places run (place_left place later ending))
      ≡ cond false 1 0 + count_by (is_its_run queue cid) places
  turned_counts places run place later None here =
      let moved = sum_by-set counted places run (place_left place later None) None (there places run place here) in
      omega (arith, moved, ap counted here)
  turned_counts places run place later (Some ending) here =
      let moved = sum_by-set counted places run None None (there places run place here) in
      let one : Bool → ℕ = λ b. cond b 1 0 in
      let completed = ap one (completion_completes place.queue place.cid ending.status ending.dw0 ending.dw1 []) in
      omega (arith, moved, ap counted here, completed)

  fault_completes : (r : Result (Unit {0}) FaultRefused) → completes queue cid (fault_reply r) ≡ false
  fault_completes (Ok done) = refl
  fault_completes (Err refused) = refl

  module _ (judge : Judge) where
    entries_keep : (sub : Submission) (s : State) → HoldsOfEach judge (KeepsCount s (asks sub)) sub s
    entries_keep sub s =
        let id = identifier_of sub.entry in
        record {
          unchanged = λ status output untrapped.
              answered_keeps s sub (completed sub status 0 0 output s) (completion_completes sub.queue id status 0 0 output) refl;
          standard = λ c asked.
              let done = meaning s.namespace (holds_at s) c sub.input in
              answered_keeps s sub (commanded sub s done) (completion_completes sub.queue id done.status done.dw0 done.dw1 done.output) refl;
          load = λ load h asked is.
              let a = is.answered in
              let replied = ap (λ (x : ReplyWithData). completes queue cid x.reply) a.is ∙ completion_completes sub.queue id a.status a.dw0 a.dw1 a.output in
              answered_keeps s sub h replied (elim is.state [
                | inl same ↦ ap (λ (t : State). t.places) same
                | inr takes ↦ ap (λ (t : State). t.places) takes.taken
              ]);
          start = λ command run asked passed free. omega (arith, started_counts s.places run (admitted_place sub s command) free);
        }

    event_keeps : (s : State) (starved : Bool) (e : ToldEvent) → KeepsCount s (submits queue cid e) (happens judge s starved e)
    event_keeps s starved (told.Submitted from entry input) =
        let sub = submission_of from entry input in
        of_entry judge (KeepsCount s (asks sub)) sub s (entries_keep sub s) starved
    event_keeps s starved (told.Turned run) =
        of_turn (KeepsCount s false) s run refl (λ place turn later here first. turned_counts s.places run place later turn.ending here)
    event_keeps s starved (told.Faulted zone state) =
        ap (λ (b : Bool). cond b 1 0 + active_runs queue cid s) (fault_completes (zone_fault_refusal s.namespace (holds_at s) zone state))

    -- ---- lists of events

    events_keep : (s : State) (events : List Occurrence)
        → completions queue cid (replies_to judge events s) + active_runs queue cid (state_after judge events s)
        ≡ submissions queue cid events + active_runs queue cid s
    events_keep s [] = refl
    events_keep s (o ∷ os) =
        let h = happens judge s o.starved o.event in
        let replies = sum_by-cons (λ (r : ReplyWithData). cond (completes queue cid r.reply) 1 0) h.reply (replies_to judge os h.state) in
        let asked = sum_by-cons (λ (x : Occurrence). cond (submits queue cid x.event) 1 0) o os in
        omega (arith, event_keeps s o.starved o.event, events_keep h.state os, replies, asked)

  turns_submit_none : (runs : List ℕ) → submissions queue cid (turn_events runs) ≡ 0
  turns_submit_none [] = refl
  turns_submit_none (run ∷ runs) =
      let turn : Occurrence = record { event = told.Turned run; starved = false } in
      omega (arith, sum_by-cons (λ (x : Occurrence). cond (submits queue cid x.event) 1 0) turn (turn_events runs), turns_submit_none runs)

module _ (judge : Judge) where
  pub no_completion_is_lost : NoCompletionIsLost judge
  no_completion_is_lost queue cid s events = events_keep queue cid judge s events

  pub each_is_completed_once : EachIsCompletedOnce judge
  each_is_completed_once queue cid s events runs drains =
      let turns = turn_events runs in
      let end = state_after judge (events ++ turns) s in
      let state = (events_in_parts judge events turns s).state ∙ sym ((drained_by_turns judge runs (state_after judge events s)).state) in
      let none = none_active queue cid end.places (ap lowest_run state ∙ drains.none_left) in
      let asked = sum_by-append (λ (x : Occurrence). cond (submits queue cid x.event) 1 0) events turns in
      omega (arith, no_completion_is_lost queue cid s (events ++ turns), none, asked, turns_submit_none queue cid runs)
