-- The machine that reads at its turn does what the definitions say.
use Rattle.std.proofs.Common.{◌≡◌, ℕ, Bool, List, [], ◌∷◌, get_or, Option, Some, None, Result, Ok, Err, refl, ap, sym, subst, ◌∙◌}
use Rattle.common_definitions.specs.Checks.{first_failed}
use Rattle.zone_state.specs.declared.status.Status.{Status}
use Rattle.zone_resources.specs.declared.holds.TheConstants.{RUNS}
use Rattle.nvme_entry.specs.Entry.{decoded}
use Rattle.nvme_entry.specs.declared.command.Command.{Command}
use Rattle.nvme_entry.specs.declared.command.Command.TheVariants as commands
use Rattle.accepted_programs.proofs.Proved.{none_known}
use Rattle.image_store.specs.Namespace.{ZonedNamespace}
use Rattle.zns_commands.specs.steps.Checks.{transfer_checks}
use Rattle.device_meaning.specs.EventReplies.{Happening, Submission, idle, submission_of}
use Rattle.device_meaning.specs.Events.{Occurrence, replies_to, state_after}
use Rattle.device_meaning.specs.Happenings.{faulting, happens, submitted, turned, turned_at}
use Rattle.device_meaning.specs.Judging.{Judge}
use Rattle.device_meaning.specs.State.{Place, State, new_state}
use Rattle.device_meaning.specs.View.{Active}
use Rattle.device_meaning.proofs.Proved.{decoded_has, events_keep_for_runs}
use Rattle.device_events.specs.Replies.{ReplyWithData}
use Rattle.device_events.specs.ToldEvents.{ToldEvent}
use Rattle.device_events.specs.ToldEvents as told
use Rattle.turn_machine.specs.Laws.{Corresponds, FixedAtAdmission, GoOnTheSame}
use Rattle.turn_machine.specs.Machine.{Machine, happens_now, machine_after, new_machine, replies_now, run_at, submitted_now, turned_now_at, without_turns}
use Rattle.turn_machine.proofs.OtherEvents.{leaving_follows, starting_follows}
use Rattle.turn_machine.proofs.TurnsTaken.{Follows, KeepsAll, needs_kept, none_at, turn_follows}
use Rattle.turn_machine.proofs.UnderWay.{AreUnderWay}
use Rattle.turn_machine.proofs.WithoutTurns.{command_same, fault_same, load_same, refused_same, result_same, viewed}

-- a machine corresponds to the state that is equal to what is seen of it
corresponding : (m : Machine) (s : State) → s ≡ viewed m → Corresponds m s
corresponding m s is = record {
  namespace = ap (λ (x : State). x.namespace) is;
  slots = ap (λ (x : State). x.slots) is;
  places = ap (λ (x : State). x.places) is;
}

module _ (judge : Judge) where
  -- ---- one event

  module _ (m : Machine) (under : AreUnderWay m) where
    -- every event keeps what runs need
    pub kept : (starved : Bool) (e : ToldEvent) → let t = (happens judge (viewed m) starved e).state in KeepsAll m t.namespace t.slots
    kept starved e =
        let s = viewed m in
        needs_kept m (happens judge s starved e).state
        (λ run place at. events_keep_for_runs judge s (record { event = e; starved = starved }) run place at)

    -- what an entry comes to that names this command; all but a Run leave the runs
    module _ (starved : Bool) (sub : Submission) where
      abbrev from : Result Command Status → Happening
      from = submitted judge starved sub (viewed m)

      abbrev without : Result Command Status → Happening
      without = submitted judge starved sub (without_turns m)

      entry_follows : (asked : Result Command Status) → decoded sub.entry ≡ asked → KeepsAll m (from asked).state.namespace (from asked).state.slots
          → Follows (from asked) (submitted_now judge starved sub m asked)
      entry_follows (Err status) is keeps = leaving_follows m under (from (Err status)) (without (Err status)) (refused_same m sub status) keeps
      entry_follows (Ok (commands.Standard c)) is keeps =
          let asked = Ok (commands.Standard c) in leaving_follows m under (from asked) (without asked) (command_same m sub c) keeps
      entry_follows (Ok (commands.Load load)) is keeps =
          let asked = Ok (commands.Load load) in leaving_follows m under (from asked) (without asked) (load_same m judge sub load starved) keeps
      entry_follows (Ok (commands.Run command)) is keeps =
          starting_follows m under sub command (decoded_has sub.entry (commands.Run command) is)
      entry_follows (Ok (commands.Result slot)) is keeps =
          let asked = Ok (commands.Result slot) in
          let why = first_failed (transfer_checks 0 0 sub.input) in
          leaving_follows m under (from asked) (without asked) (result_same m sub (get_or m.slots slot None) why) keeps

    turn_comes : (run : ℕ) (at : Option Active) → run_at m run ≡ at → Follows (turned (viewed m) run) (turned_now_at m run at)
    turn_comes run (Some a) at = turn_follows judge m under run a at
    turn_comes run None at =
        let same : Follows (idle (viewed m)) (turned_now_at m run None) = record { reply = refl; state = refl; under_way = under } in
        subst (λ (p : Option Place). Follows (turned_at (viewed m) run p) (turned_now_at m run None)) (sym (none_at m run at)) same

    pub event_follows : (starved : Bool) (e : ToldEvent) → Follows (happens judge (viewed m) starved e) (happens_now judge m starved e)
    event_follows starved (told.Submitted queue entry input) =
        let sub = submission_of queue entry input in
        entry_follows starved sub (decoded entry) refl (kept starved (told.Submitted queue entry input))
    event_follows starved (told.Turned run) = turn_comes run (run_at m run) refl
    event_follows starved (told.Faulted zone state) =
        leaving_follows m under (faulting (viewed m) zone state) (faulting (without_turns m) zone state) (fault_same m zone state)
        (kept starved (told.Faulted zone state))

  -- ---- lists of events

  replies_follow : (events : List Occurrence) (m : Machine) → AreUnderWay m
      → replies_now judge events m ≡ replies_to judge events (viewed m)
  replies_follow [] m under = refl
  replies_follow (o ∷ os) m under =
      let h = happens judge (viewed m) o.starved o.event in
      let g = happens_now judge m o.starved o.event in
      let first = event_follows m under o.starved o.event in
      ap (λ (replies : List ReplyWithData). g.reply ∷ replies) (replies_follow os g.machine first.under_way)
      ∙ ap (λ (s : State). g.reply ∷ replies_to judge os s) (sym first.state)
      ∙ ap (λ (r : ReplyWithData). r ∷ replies_to judge os h.state) (sym first.reply)

  states_follow : (events : List Occurrence) (m : Machine) → AreUnderWay m
      → state_after judge events (viewed m) ≡ viewed (machine_after judge events m)
  states_follow [] m under = refl
  states_follow (o ∷ os) m under =
      let first = event_follows m under o.starved o.event in
      ap (state_after judge os) first.state ∙ states_follow os (happens_now judge m o.starved o.event).machine first.under_way

  -- runs are under way from the start, and stay so
  pub after_under_way : (events : List Occurrence) (m : Machine) → AreUnderWay m → AreUnderWay (machine_after judge events m)
  after_under_way [] m under = under
  after_under_way (o ∷ os) m under =
      after_under_way os (happens_now judge m o.starved o.event).machine (event_follows m under o.starved o.event).under_way

  pub new_under_way : (ns : ZonedNamespace) → AreUnderWay (new_machine ns)
  new_under_way ns run a at = absurd (none_known RUNS run a at)

  new_is_viewed : (ns : ZonedNamespace) → viewed (new_machine ns) ≡ new_state ns
  new_is_viewed ns = refl

  -- a machine whose runs are under way goes on as the state that corresponds
  pub go_on_the_same : (m : Machine) → AreUnderWay m → (events : List Occurrence) → GoOnTheSame judge m (viewed m) events
  go_on_the_same m under events = record {
    replies = replies_follow events m under;
    after = corresponding (machine_after judge events m) (state_after judge events (viewed m)) (states_follow events m under);
  }

pub fixed_at_admission : FixedAtAdmission
fixed_at_admission judge ns events =
    let same = subst (λ (s : State). GoOnTheSame judge (new_machine ns) s events) (new_is_viewed judge ns)
    (go_on_the_same judge (new_machine ns) (new_under_way judge ns) events) in
    record { replies = same.replies; after = same.after }
