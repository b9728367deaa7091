-- Each command that is pending is that of the device's run of its number.
use Rattle.std.proofs.Common.{◌≡◌, ◌≢◌, ◌<◌, ℕ, Bool, List, ◌∷◌, length, set, get_or, replicate, Option, None, Some, refl, ap, sym, subst, ◌∙◌, inl, inr}
use Rattle.std.proofs.lemmas.Bool.{cases_eq, cases_lt}
use Rattle.std.proofs.lemmas.List.{get_or-set_other, get_or-replicate, get_or-set_same, get_or_past, set-get_or, set_past}
use Rattle.std.proofs.lemmas.List.Quantifiers.{position-Some}
use Rattle.std.specs.Prelude.{is_none, option_map}
use Rattle.device_events.specs.Replies.{ReplyWithData}
use Rattle.device_events.specs.ToldEvents as told
use Rattle.device_events.specs.declared.reply.Reply.{Reply}
use Rattle.device_meaning.specs.EventReplies.{Happening, Submission, submission_of}
use Rattle.device_meaning.specs.Happenings.{admitted_place, happens, take_turn, turned}
use Rattle.device_meaning.specs.Judging.{interval_judge}
use Rattle.device_meaning.specs.Outcome.{Ending, Turn}
use Rattle.device_meaning.specs.State.{Place, State, place_at}
use Rattle.device_meaning.proofs.Proved.{HoldsOfEach, of_entry, of_turn}
use Rattle.tcp_connection.specs.Executing.{Execution}
use Rattle.tcp_target.specs.QueueCommands.{given_to_device}
use Rattle.tcp_device.specs.Deeds.{Closed, Deed, Does, Opened, Received, Resumed, Sent, Served, Ticked, Turned}
use Rattle.tcp_device.specs.Laws.{HaveTheirRuns, command_of}
use Rattle.tcp_device.specs.Served.{ResumesGiven, ServesGiven, TurnsGiven, freed_by, kept_by, next_run}
use Rattle.tcp_device.specs.State.{CommandOfRun, ServedState}

-- as lists
abbrev AreTheirs : List (Option CommandOfRun) → List (Option Place) → Type 0
AreTheirs pending places =
    (k : ℕ) (c : CommandOfRun) → get_or pending k None ≡ Some c → option_map command_of (get_or places k None) ≡ Some c

-- ---- one number

-- what one becomes that is freed
none_set : {X : Type 0} (xs : List (Option X)) (k : ℕ) → get_or (set xs k None) k None ≡ None
none_set xs k = elim (cases_lt k (length xs)) [
  | inl within ↦ get_or-set_same xs k None None within
  | inr past ↦ ap (λ (l : List (Option _)). get_or l k None) (set_past xs k None past) ∙ get_or_past xs k None past
]

some_set : {X : Type 0} (xs : List (Option X)) (k : ℕ) (x y : X) → get_or (set xs k (Some x)) k None ≡ Some y → Some x ≡ Some y
some_set xs k x y is = elim (cases_lt k (length xs)) [
  | inl within ↦ sym (get_or-set_same xs k (Some x) None within) ∙ is
  | inr past ↦ absurd (
      let none : get_or (set xs k (Some x)) k None ≡ None =
      ap (λ (l : List (Option _)). get_or l k None) (set_past xs k (Some x) past) ∙ get_or_past xs k None past in
      cc)
]

module _ (pending : List (Option CommandOfRun)) (places : List (Option Place)) (run : ℕ) (so : AreTheirs pending places) where
  elsewhere : (command : Option CommandOfRun) (place : Option Place) (k : ℕ) (c : CommandOfRun) → k ≢ run
      → get_or (set pending run command) k None ≡ Some c → option_map command_of (get_or (set places run place) k None) ≡ Some c
  elsewhere command place k c other is =
      ap (option_map command_of) (get_or-set_other places run k place None other) ∙ so k c (sym (get_or-set_other pending run k command None other) ∙ is)

  -- where nothing is pending the run is any
  freed : (place : Option Place) → AreTheirs (set pending run None) (set places run place)
  freed place k c is = elim (cases_eq k run) [
    | inl same ↦ absurd (
        let none : get_or (set pending run None) k None ≡ None =
        subst (λ (n : ℕ). get_or (set pending run None) n None ≡ None) (sym same) (none_set pending run) in
        cc)
    | inr other ↦ elsewhere None place k c other is
  ]

  -- a run begins that a command asked for
  started : (place : Place) → run < length places → AreTheirs (set pending run (Some (command_of place))) (set places run (Some place))
  started place within k c is = elim (cases_eq k run) [
    | inl same ↦
        subst (λ (n : ℕ). option_map command_of (get_or (set places run (Some place)) n None) ≡ Some c) (sym same)
        (ap (option_map command_of) (get_or-set_same places run (Some place) None within)
        ∙ some_set pending run (command_of place) c
        (subst (λ (n : ℕ). get_or (set pending run (Some (command_of place))) n None ≡ Some c) same is))
    | inr other ↦ elsewhere (Some (command_of place)) (Some place) k c other is
  ]

  -- and goes on, of the same command
  at_run : (place after : Place) → get_or places run None ≡ Some place → command_of after ≡ command_of place
      → option_map command_of (get_or (set places run (Some after)) run None) ≡ option_map command_of (get_or places run None)
  at_run place after at same = elim (cases_lt run (length places)) [
    | inl within ↦
        ap (option_map command_of) (get_or-set_same places run (Some after) None within) ∙ ap (λ (c : CommandOfRun). Some c) same
        ∙ ap (option_map command_of) (sym at)
    | inr past ↦ ap (λ (l : List (Option Place)). option_map command_of (get_or l run None)) (set_past places run (Some after) past)
  ]

  went_on : (place after : Place) → get_or places run None ≡ Some place → command_of after ≡ command_of place → AreTheirs pending (set places run (Some after))
  went_on place after at same k c is = elim (cases_eq k run) [
    | inl here ↦
        subst (λ (n : ℕ). option_map command_of (get_or (set places run (Some after)) n None) ≡ Some c) (sym here)
        (at_run place after at same ∙ so run c (subst (λ (n : ℕ). get_or pending n None ≡ Some c) here is))
    | inr other ↦ ap (option_map command_of) (get_or-set_other places run k (Some after) None other) ∙ so k c is
  ]

  -- a run of which nothing is pending
  unasked : (place : Option Place) → get_or pending run None ≡ None → AreTheirs pending (set places run place)
  unasked place none =
      subst (λ (all : List (Option CommandOfRun)). AreTheirs all (set places run place))
      (subst (λ (x : Option CommandOfRun). set pending run x ≡ pending) none (set-get_or pending run None)) (freed place)

-- ---- an entry

-- what an entry comes to leaves it so
abbrev Keeps : Submission → State → Happening → Type 0
Keeps sub s h =
    (pending : List (Option CommandOfRun)) → AreTheirs pending s.places → AreTheirs (kept_by h.reply.reply sub.queue sub.entry pending) h.state.places

module _ (sub : Submission) (s : State) where
  -- a Load is completed at once, and starts no run
  load_keeps : (h : Happening) → (h.state.places ≡ s.places) → (r : Reply) → h.reply.reply ≡ r
      → ((pending : List (Option CommandOfRun)) → kept_by r sub.queue sub.entry pending ≡ pending) → Keeps sub s h
  load_keeps h places r is stays pending so =
      subst (λ (all : List (Option Place)). AreTheirs (kept_by h.reply.reply sub.queue sub.entry pending) all) (sym places)
      (subst (λ (all : List (Option CommandOfRun)). AreTheirs all s.places)
      (sym (ap (λ (x : Reply). kept_by x sub.queue sub.entry pending) is ∙ stays pending)) so)

  each : HoldsOfEach interval_judge (Keeps sub s) sub s
  each = record {
    unchanged = λ status output other pending so. so;
    standard = λ c asked pending so. so;
    load = λ load h asked is.
        load_keeps h (elim is.state [ inl same ↦ ap (λ (t : State). t.places) same | inr takes ↦ ap (λ (t : State). t.places) takes.taken ]) _
        (ap (λ (x : ReplyWithData). x.reply) is.answered.is) (λ pending. refl);
    start = λ command run asked passes at pending so.
        started pending s.places run so (admitted_place sub s command) (position-Some is_none s.places run None at).0;
  }

entry_keeps : (starved : Bool) (queue : ℕ) (entry input : List ℕ) (s : State)
    → Keeps (submission_of queue entry input) s (happens interval_judge s starved (told.Submitted queue entry input))
entry_keeps starved queue entry input s =
    let sub = submission_of queue entry input in of_entry interval_judge (Keeps sub s) sub s (each sub s) starved

-- ---- a turn

-- and what a turn comes to
abbrev Frees : ℕ → State → Happening → Type 0
Frees run s h =
    (pending : List (Option CommandOfRun)) → AreTheirs pending s.places → AreTheirs (freed_by h.reply.reply run pending) h.state.places

-- also one of which nothing is pending
abbrev Passes : ℕ → State → Happening → Type 0
Passes run s h =
    (pending : List (Option CommandOfRun)) → get_or pending run None ≡ None → AreTheirs pending s.places → AreTheirs pending h.state.places

module _ (s : State) (run : ℕ) where
  first : (place : Place) (turn : Turn) (later : List Turn) (ending : Option Ending) → place_at s run ≡ Some place
      → Frees run s (take_turn s run place (record turn { ending = ending } ∷ later))
  first place turn later None at pending so = went_on pending s.places run so place (record place { turns = later }) at refl
  first place turn later (Some ending) at pending so = freed pending s.places run so None

  turn_frees : Frees run s (turned s run)
  turn_frees = of_turn (Frees run s) s run (λ pending so. so) (λ place turn later at is. first place turn later turn.ending at)

  turn_passes : Passes run s (turned s run)
  turn_passes = of_turn (Passes run s) s run (λ pending none so. so)
      (λ place turn later at is pending none so. unasked pending s.places run so _ none)

-- ---- all that is done

module _ (old new : ServedState) where
  serves : (given : Option Execution) (number : ℕ) → ServesGiven given number old new → HaveTheirRuns old → HaveTheirRuns new
  serves None number done so = subst HaveTheirRuns (sym done) so
  serves (Some execution) number done so =
      let happened = done.taken.happened in
      let h = happens interval_judge old.device happened.starved (told.Submitted number execution.entry done.taken.carried.items) in
      let kept : AreTheirs (kept_by h.reply.reply number execution.entry old.pending) h.state.places =
      entry_keeps happened.starved number execution.entry done.taken.carried.items old.device old.pending so in
      subst (λ (all : List (Option CommandOfRun)). AreTheirs all new.device.places)
      (sym (ap (λ (s : ServedState). s.pending) done.rest ∙ ap (λ (r : ReplyWithData). kept_by r.reply number execution.entry old.pending) happened.replied))
      (subst (λ (s : State). AreTheirs (kept_by h.reply.reply number execution.entry old.pending) s.places) (sym happened.state) kept)

  turns : (run : Option ℕ) → TurnsGiven run old new → HaveTheirRuns old → HaveTheirRuns new
  turns None done so = subst HaveTheirRuns (sym done) so
  turns (Some run) done so =
      let h = turned old.device run in
      subst (λ (all : List (Option CommandOfRun)). AreTheirs all new.device.places)
      (sym (ap (λ (s : ServedState). s.pending) done.rest ∙ ap (λ (r : ReplyWithData). freed_by r.reply run old.pending) done.happened.replied))
      (subst (λ (s : State). AreTheirs (freed_by h.reply.reply run old.pending) s.places) (sym done.happened.state)
      (turn_frees old.device run old.pending so))

  resumes : (command : Option CommandOfRun) (run : ℕ) → get_or old.pending run None ≡ command → ResumesGiven command run old new
      → HaveTheirRuns old → HaveTheirRuns new
  resumes None run none done so =
      subst (λ (all : List (Option CommandOfRun)). AreTheirs all new.device.places) (sym (ap (λ (s : ServedState). s.pending) done.rest))
      (subst (λ (s : State). AreTheirs old.pending s.places) (sym done.happened.state) (turn_passes old.device run old.pending none so))
  resumes (Some command) run some done so = subst HaveTheirRuns (sym done) so

pub stay_theirs : (deed : Deed) (old new : ServedState) → Does deed old new → HaveTheirRuns old → HaveTheirRuns new
stay_theirs Opened old new done so = subst HaveTheirRuns (sym done) so
stay_theirs (Received number piece) old new done so = subst HaveTheirRuns (sym done) so
stay_theirs (Sent number count) old new done so = subst HaveTheirRuns (sym done) so
stay_theirs (Closed number) old new done so = subst HaveTheirRuns (sym done) so
stay_theirs (Ticked milliseconds) old new done so = subst HaveTheirRuns (sym done) so
stay_theirs (Served number) old new done so = serves old new (given_to_device number old.target.queues) number done so
stay_theirs Turned old new done so = turns old new (next_run old) done so
stay_theirs (Resumed run) old new done so = resumes old new (get_or old.pending run None) run refl done so

-- nothing is pending at the beginning
pub none_pending : (run : ℕ) (command : CommandOfRun) → get_or (replicate 8 None) run None ≡ Some command → ⊥
none_pending run command is =
    let all : List (Option CommandOfRun) = replicate 8 None in
    elim (cases_lt run 8) [
      | inl within ↦ (let none : get_or all run None ≡ None = get_or-replicate 8 run None None within in cc)
      | inr past ↦ (let none : get_or all run None ≡ None = get_or_past all run None past in cc)
    ]
