-- The commands that are pending are those of the device's active runs.
use Rattle.std.proofs.Common.{◌≡◌, ℕ, Bool, List, ◌∷◌, map, set, get_or, Option, None, Some, refl, ap, sym, subst, ◌∙◌, inl, inr}
use Rattle.std.proofs.Math.Seq.{map-set_same}
use Rattle.std.proofs.lemmas.List.{map-set, set-get_or}
use Rattle.std.specs.Option.{option_map}
use Rattle.device_events.specs.Replies.{ReplyWithData}
use Rattle.device_events.specs.ToldEvents as told
use Rattle.device_events.specs.declared.reply.Reply.{Reply}
use Rattle.device_events.specs.declared.reply.Reply.TheVariants as reply
use Rattle.device_meaning.specs.EventReplies.{Happening, Submission, submission_of}
use Rattle.device_meaning.specs.Happenings.{admitted_place, happens, take_turn, turned}
use Rattle.device_meaning.specs.Judging.{interval_judge}
use Rattle.device_meaning.specs.Outcome.{Ending, Turn}
use Rattle.device_meaning.specs.State.{Place, State, place_at}
use Rattle.device_meaning.proofs.Proved.{HoldsOfEach, of_entry, of_turn}
use Rattle.tcp_connection.specs.Executing.{Execution}
use Rattle.tcp_target.specs.QueueCommands.{given_to_device}
use Rattle.tcp_target.specs.Target.{TargetState}
use Rattle.tcp_device.specs.Deeds.{Closed, Deed, Does, Opened, Received, Resumed, Sent, Served, Ticked, Turned}
use Rattle.tcp_device.specs.Laws.{Agrees, RunsHaveTheirCommands, command_of}
use Rattle.tcp_device.specs.Served.{ResumesGiven, ServesGiven, TurnsGiven, freed_by, kept_by, next_run}
use Rattle.tcp_device.specs.State.{CommandOfRun, ServedState, with_target}
use Rattle.tcp_device.proofs.TheirRuns.{none_pending, stay_theirs}

-- the commands of runs
abbrev commands : List (Option Place) → List (Option CommandOfRun)
commands places = map (option_map command_of) places

-- ---- an entry

-- what an entry comes to keeps them
abbrev Keeps : Submission → State → Happening → Type 0
Keeps sub s h =
    (pending : List (Option CommandOfRun)) → pending ≡ commands s.places → kept_by h.reply.reply sub.queue sub.entry pending ≡ commands h.state.places

module _ (sub : Submission) (s : State) where
  -- a Load is completed at once, and starts no run
  load_places : (h : Happening) → (h.state.places ≡ s.places) → (r : Reply) → h.reply.reply ≡ r
      → ((pending : List (Option CommandOfRun)) → kept_by r sub.queue sub.entry pending ≡ pending) → Keeps sub s h
  load_places h places r is stays pending agree =
      ap (λ (x : Reply). kept_by x sub.queue sub.entry pending) is ∙ stays pending ∙ agree ∙ ap commands (sym places)

  each : HoldsOfEach interval_judge (Keeps sub s) sub s
  each = record {
    unchanged = λ status output other pending agree. agree;
    standard = λ c asked pending agree. agree;
    load = λ load h asked is.
        load_places h (elim is.state [ inl same ↦ ap (λ (t : State). t.places) same | inr takes ↦ ap (λ (t : State). t.places) takes.taken ]) _
        (ap (λ (x : ReplyWithData). x.reply) is.answered.is) (λ pending. refl);
    start = λ command run asked passes at pending agree.
        ap (λ (all : List (Option CommandOfRun)). set all run (Some (command_of (admitted_place sub s command)))) agree
        ∙ sym (map-set (option_map command_of) s.places run (Some (admitted_place sub s command)));
  }

entry_keeps : (starved : Bool) (queue : ℕ) (entry input : List ℕ) (s : State) → Keeps (submission_of queue entry input) s (happens interval_judge s starved (told.Submitted queue entry input))
entry_keeps starved queue entry input s =
    let sub = submission_of queue entry input in of_entry interval_judge (Keeps sub s) sub s (each sub s) starved

-- ---- a turn

-- what a turn comes to keeps those of the runs that go on
abbrev Frees : ℕ → State → Happening → Type 0
Frees run s h =
    (pending : List (Option CommandOfRun)) → pending ≡ commands s.places → freed_by h.reply.reply run pending ≡ commands h.state.places

module _ (s : State) (run : ℕ) where
  first : (place : Place) (turn : Turn) (later : List Turn) (ending : Option Ending) → place_at s run ≡ Some place
      → Frees run s (take_turn s run place (record turn { ending = ending } ∷ later))
  first place turn later None at pending agree =
      agree ∙ sym (map-set_same (option_map command_of) s.places run (Some (record place { turns = later })) None (ap (option_map command_of) (sym at)))
  first place turn later (Some ending) at pending agree =
      ap (λ (all : List (Option CommandOfRun)). set all run None) agree ∙ sym (map-set (option_map command_of) s.places run None)

  turn_frees : Frees run s (turned s run)
  turn_frees = of_turn (Frees run s) s run (λ pending agree. agree)
      (λ place turn later at is. first place turn later turn.ending at)

-- ---- all that is done

module _ (old new : ServedState) where
  stays : (t : TargetState) → new ≡ with_target t old → Agrees old → Agrees new
  stays t done agree = subst Agrees (sym done) agree

  serves : (given : Option Execution) (number : ℕ) → ServesGiven given number old new → Agrees old → Agrees new
  serves None number done agree = subst Agrees (sym done) agree
  serves (Some execution) number done agree =
      let happened = done.taken.happened in
      let h = happens interval_judge old.device happened.starved (told.Submitted number execution.entry done.taken.carried.items) in
      let kept : kept_by h.reply.reply number execution.entry old.pending ≡ commands h.state.places =
      entry_keeps happened.starved number execution.entry done.taken.carried.items old.device old.pending agree in
      ap (λ (s : ServedState). s.pending) done.rest
      ∙ ap (λ (r : ReplyWithData). kept_by r.reply number execution.entry old.pending) happened.replied
      ∙ kept ∙ ap (λ (s : State). commands s.places) (sym happened.state)

  turns : (run : Option ℕ) → TurnsGiven run old new → Agrees old → Agrees new
  turns None done agree = subst Agrees (sym done) agree
  turns (Some run) done agree =
      ap (λ (s : ServedState). s.pending) done.rest
      ∙ ap (λ (r : ReplyWithData). freed_by r.reply run old.pending) done.happened.replied
      ∙ turn_frees old.device run old.pending agree ∙ ap (λ (s : State). commands s.places) (sym done.happened.state)

  -- a run whose command came over no connection has none that is freed
  free_of_none : (r : Reply) (run : ℕ) → get_or old.pending run None ≡ None → freed_by r run old.pending ≡ old.pending
  free_of_none (reply.Complete queue completion length) run none = subst (λ (x : Option CommandOfRun). set old.pending run x ≡ old.pending) none (set-get_or old.pending run None)
  free_of_none (reply.Pending number) run none = refl
  free_of_none reply.Idle run none = refl
  free_of_none reply.FaultTaken run none = refl
  free_of_none reply.FaultRefused run none = refl

  resumes : (command : Option CommandOfRun) (run : ℕ) → get_or old.pending run None ≡ command → ResumesGiven command run old new → Agrees old → Agrees new
  resumes None run none done agree =
      ap (λ (s : ServedState). s.pending) done.rest
      ∙ sym (free_of_none (turned old.device run).reply.reply run none)
      ∙ turn_frees old.device run old.pending agree ∙ ap (λ (s : State). commands s.places) (sym done.happened.state)
  resumes (Some command) run some done agree = subst Agrees (sym done) agree

stay : (deed : Deed) (old new : ServedState) → Does deed old new → Agrees old → Agrees new
stay Opened old new done agree = subst Agrees (sym done) agree
stay (Received number piece) old new done agree = subst Agrees (sym done) agree
stay (Sent number count) old new done agree = subst Agrees (sym done) agree
stay (Closed number) old new done agree = subst Agrees (sym done) agree
stay (Ticked milliseconds) old new done agree = subst Agrees (sym done) agree
stay (Served number) old new done agree = serves old new (given_to_device number old.target.queues) number done agree
stay Turned old new done agree = turns old new (next_run old) done agree
stay (Resumed run) old new done agree = resumes old new (get_or old.pending run None) run refl done agree

pub runs_have_their_commands : RunsHaveTheirCommands
runs_have_their_commands = record {
  begin = λ device subsystem format run command is. absurd (none_pending run command is);
  stay = stay_theirs;
  begin_all = λ namespace subsystem format. refl;
  stay_all = stay;
}
