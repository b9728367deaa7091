-- What a turn, an entry and any event come to, by cases.
use Rattle.std.proofs.Common.{◌≡◌, ℕ, ◌≤◌, Bool, List, [], ◌∷◌, Option, Some, None, Result, Ok, Err, refl, sym, subst, ap, ◌∙◌, inl, inr}
use Rattle.std.specs.Prelude.{is_some}
use Rattle.std.specs.Result.{result_err}
use Rattle.zone_state.specs.declared.status.Status.{Status}
use Rattle.zone_state.specs.declared.status.TheConstants.Status.{SUCCESS, NO_RUN_FREE, NO_SUCH_PROGRAM}
use Rattle.common_definitions.specs.Checks.{first_failed}
use Rattle.common_definitions.proofs.Proved.{demanded, passed}
use Rattle.nvme_entry.specs.Entry.{decoded}
use Rattle.nvme_entry.specs.declared.command.Command.{Command}
use Rattle.nvme_entry.specs.declared.command.Command.TheVariants as commands
use Rattle.nvme_entry.specs.declared.command.LoadCommand.{LoadCommand}
use Rattle.nvme_entry.specs.declared.command.RunCommand.{RunCommand}
use Rattle.nvme_entry.specs.declared.command.StandardCommand.{StandardCommand}
use Rattle.device_meaning.specs.Judging.{Judge}
use Rattle.common_definitions.specs.Bytes.{AreBytes}
use Rattle.zns_commands.specs.Left as kept
use Rattle.zns_commands.specs.Laws.{Commanded, Faulted, IsSpelled, NamespaceEvent, after}
use Rattle.zns_commands.specs.Meaning.{meaning}
use Rattle.zns_commands.specs.steps.Checks.{transfer_checks}
use Rattle.device_meaning.specs.Admission.{Loaded, admission_checks}
use Rattle.device_meaning.specs.EventReplies.{Happening, Submission, completed, idle, submission_of}
use Rattle.device_meaning.specs.Happenings.{admitted_place, commanded, happens, just_loaded, loading, result_by, start_by, submitted, take_turn, turn_state, turned, turned_at, why_not_run}
use Rattle.device_meaning.specs.Outcome.{Turn}
use Rattle.device_meaning.specs.Events.{CarriesBytes}
use Rattle.device_meaning.specs.State.{Place, State, free_place, holds_at, loaded_at, place_at, with_namespace, with_place, with_slot}
use Rattle.device_events.specs.ToldEvents.{ToldEvent}
use Rattle.device_events.specs.ToldEvents as told
use Rattle.device_meaning.proofs.Loads.{IsLoad, TakesSlot, loading_is}
use Rattle.device_meaning.proofs.Spelled.{decoded_has, spelled}
use Rattle.device_meaning.proofs.Statuses.{FailsOther, IsOther, entry_other, failed_other, other, run_other, transfer_other}

-- the turn of a run whose turns these are
pub turned_is : (s : State) (run : ℕ) (place : Place) (turn : Turn) (later : List Turn)
    → place_at s run ≡ Some place → place.turns ≡ turn ∷ later → turned s run ≡ take_turn s run place (turn ∷ later)
turned_is s run place turn later at first =
    ap (λ (p : Option Place). turned_at s run p) at ∙ ap (λ (turns : List Turn). take_turn s run place turns) first

-- what holds where no run has the number, and of the first of a run's turns, holds of what a turn comes to
module _ (P : Happening → Type 0) (s : State) (run : ℕ) where
  abbrev OfFirst : Type 0
  OfFirst =
      (place : Place) (turn : Turn) (later : List Turn) → place_at s run ≡ Some place → place.turns ≡ turn ∷ later
      → P (take_turn s run place (turn ∷ later))

  of_taken : P (idle s) → OfFirst → (place : Place) (turns : List Turn) → place_at s run ≡ Some place → place.turns ≡ turns
      → P (take_turn s run place turns)
  of_taken none first place [] at is = none
  of_taken none first place (turn ∷ later) at is = first place turn later at is

  of_turned : P (idle s) → OfFirst → (at : Option Place) → place_at s run ≡ at → P (turned_at s run at)
  of_turned none first None is = none
  of_turned none first (Some place) is = of_taken none first place place.turns is refl

  -- it holds of what the turn of the run comes to
  pub of_turn : P (idle s) → OfFirst → P (turned s run)
  of_turn none first = of_turned none first (place_at s run) refl

-- what holds of a state holds after a turn of a run, if it holds after the first of the run's turns
pub after_turn : (P : State → Type 0) (s : State) (run : ℕ) → P s
    → ((place : Place) (turn : Turn) (later : List Turn) → place_at s run ≡ Some place → place.turns ≡ turn ∷ later
    → P (turn_state s run place turn later))
    → P (turned s run).state
after_turn P s run here first = of_turn (λ (h : Happening). P h.state) s run here first

module _ (judge : Judge) (P : Happening → Type 0) (sub : Submission) (s : State) where
  -- it holds of each thing that the entry can come to
  pub record HoldsOfEach : Type 0 where
    -- it is refused, or a Result: it is answered, no program trapped, and nothing changes
    pub unchanged : (status : Status) (output : List ℕ) → IsOther status → P (completed sub status 0 0 output s)
    pub standard : (c : StandardCommand) → decoded sub.entry ≡ Ok (commands.Standard c)
        → P (commanded sub s (meaning s.namespace (holds_at s) c sub.input))
    -- a Load, whatever it comes to
    pub load : (load : LoadCommand) (h : Happening) → decoded sub.entry ≡ Ok (commands.Load load) → IsLoad judge sub s load h → P h
    -- a Run that is admitted
    pub start : (command : RunCommand) (run : ℕ) → decoded sub.entry ≡ Ok (commands.Run command) → why_not_run sub s command ≡ None
        → free_place s ≡ Some run → P (start_by None (Some run) sub s command)

  module _ (holds : HoldsOfEach) where
    -- what a Run comes to; that a place is free is among its checks
    of_run : (why : Option Status) (free : Option ℕ) (command : RunCommand) → decoded sub.entry ≡ Ok (commands.Run command)
        → why_not_run sub s command ≡ why → free_place s ≡ free → P (start_by why free sub s command)
    of_run (Some status) free command asked is at = holds.unchanged status [] (failed_other status (subst FailsOther is (run_other sub s command)))
    of_run None None command asked is at =
        let checks = admission_checks s.namespace (holds_at s) (is_some (free_place s)) (loaded_at s command.slot) command sub.input in
        let there = demanded (is_some (free_place s)) NO_RUN_FREE (passed checks 6 is) in
        let nowhere = ap is_some at in
        absurd cc
    of_run None (Some run) command asked is at = holds.start command run asked is at

    -- what a Result comes to
    of_result : (slot : Option Loaded) (why : Option Status) → FailsOther why → P (result_by slot why sub s)
    of_result slot (Some status) h = holds.unchanged status [] (failed_other status h)
    of_result None None h = holds.unchanged NO_SUCH_PROGRAM [] (other NO_SUCH_PROGRAM refl)
    of_result (Some loaded) None h = holds.unchanged SUCCESS loaded.result (other SUCCESS refl)

    -- what an entry comes to that names this command
    of_asked : (starved : Bool) (asked : Result Command Status) → decoded sub.entry ≡ asked → P (submitted judge starved sub s asked)
    of_asked starved (Err status) is =
        holds.unchanged status [] (failed_other status (subst (λ (r : Result Command Status). FailsOther (result_err r)) is (entry_other sub.entry)))
    of_asked starved (Ok (commands.Standard c)) is = holds.standard c is
    of_asked starved (Ok (commands.Load load)) is =
        holds.load load (loading judge starved sub s load) is (loading_is judge sub s load starved)
    of_asked starved (Ok (commands.Run command)) is = of_run (why_not_run sub s command) (free_place s) command is refl refl
    of_asked starved (Ok (commands.Result slot)) is = of_result (loaded_at s slot) (first_failed (transfer_checks 0 0 sub.input)) (transfer_other 0 0 sub.input)

  -- what holds of each thing that an entry can come to holds of what it comes to
  pub of_entry : HoldsOfEach → (starved : Bool) → P (submitted judge starved sub s (decoded sub.entry))
  of_entry holds starved = of_asked holds starved (decoded sub.entry) refl

module _ (judge : Judge) (P : State → Type 0) (s : State) where
  -- it holds of the state that the event finds, and after each change that the event can be
  pub record HoldsAfter (e : ToldEvent) : Type 0 where
    pub same : P s
    pub step : (step : NamespaceEvent) → kept.holds_of step ≡ holds_at s → (CarriesBytes e → IsSpelled step) → P (with_namespace s (after step s.namespace))
    pub load : (sub : Submission) (load : LoadCommand) (t : State) → (CarriesBytes e → AreBytes sub.input)
        → (takes : TakesSlot judge sub s load t) → P (with_slot s load.slot (Some (just_loaded takes.program load.limit)))
    pub start : (sub : Submission) (command : RunCommand) (run : ℕ) → why_not_run sub s command ≡ None → free_place s ≡ Some run → 1 ≤ command.blocks
        → P (with_place s run (Some (admitted_place sub s command)))
    pub turn : (run : ℕ) (place : Place) (turn : Turn) (later : List Turn) → e ≡ told.Turned run → place_at s run ≡ Some place
        → place.turns ≡ turn ∷ later → P (turn_state s run place turn later)

  module _ (e : ToldEvent) (holds : HoldsAfter e) where
    -- it holds of the state that a Load leaves
    after_load : (sub : Submission) (load : LoadCommand) (h : Happening) → (CarriesBytes e → AreBytes sub.input) → IsLoad judge sub s load h
        → P h.state
    after_load sub load h are is = elim is.state [
      | inl same ↦ subst P (sym same) holds.same
      | inr takes ↦ subst P (sym takes.taken) (holds.load sub load h.state are takes)
    ]

    -- it holds of the state that each thing leaves that an entry can come to
    after_entry : (sub : Submission) → (CarriesBytes e → AreBytes sub.input) → HoldsOfEach judge (λ h. P h.state) sub s
    after_entry sub are = record {
      unchanged = λ status output untrapped. holds.same;
      standard = λ c asked. holds.step (Commanded (holds_at s) c sub.input) refl
          (λ has. spelled (holds_at s) c sub.input (decoded_has sub.entry (commands.Standard c) asked) (are has));
      load = λ load h asked is. after_load sub load h are is;
      start = λ command run asked is at. holds.start sub command run is at (decoded_has sub.entry (commands.Run command) asked);
    }

  -- what holds so of a state holds of the state that the event leaves
  pub after_event : (starved : Bool) (e : ToldEvent) → HoldsAfter e → P (happens judge s starved e).state
  after_event starved (told.Submitted queue entry input) holds =
      let sub = submission_of queue entry input in
      of_entry judge (λ h. P h.state) sub s (after_entry (told.Submitted queue entry input) holds sub (λ has. has)) starved
  after_event starved (told.Turned run) holds = after_turn P s run holds.same (λ place turn later. holds.turn run place turn later refl)
  after_event starved (told.Faulted zone state) holds = holds.step (Faulted (holds_at s) zone state) refl (λ has. tt)
