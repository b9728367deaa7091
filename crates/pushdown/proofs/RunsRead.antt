-- What a run appends is read back, whatever events happen after its turns.
use Rattle.std.proofs.Common.{◌≡◌, ℕ, ◌+◌, ◌*◌, ◌<◌, ◌≤◌, Bool, false, List, [], ◌∷◌, ◌++◌, length, get_or, take, drop, ap, sym, subst, ◌∙◌, arith, append_assoc}
use Rattle.std.specs.Prelude.{is_some, nat_eq}
use Rattle.std.specs.List.{concat}
use Rattle.std.proofs.lemmas.Bool.{eqb-true}
use Rattle.std.proofs.lemmas.List.{take_all, nil_from_length}
use Rattle.zone_state.specs.declared.status.TheConstants.Status.{INVALID_FIELD_IN_COMMAND}
use Rattle.common_definitions.proofs.Proved.{demanded, passed}
use Rattle.nvme_entry.specs.declared.command.RunCommand.{RunCommand}
use Rattle.nvme_entry.specs.declared.command.TheConstants.{MOST_TRANSFER}
use Rattle.device_meaning.specs.Judging.{IsSoundJudge, Judge}
use Rattle.common_definitions.specs.Bytes.{AreBytes}
use Rattle.image_store.specs.Geometry.{Shape}
use Rattle.image_store.specs.Namespace.{shape, IsNamespace}
use Rattle.image_store.proofs.Proved.{block_most}
use Rattle.zns_commands.proofs.Proved.{no_bytes}
use Rattle.device_meaning.specs.Admission.{admission_checks}
use Rattle.device_meaning.specs.EventReplies.{Submission, submission_of}
use Rattle.device_meaning.specs.Events.{AreEvents, Occurrence, state_after}
use Rattle.device_meaning.specs.Outcome.{Turn, appended_by}
use Rattle.pushdown.specs.Pushdown.{IsAdmitted, blocks_at, no_turn, own_turns}
use Rattle.pushdown.specs.ReadBack.{AppendedAreRead, AppendedByRunsReadsBack, EmittedAreRead, NoEventClears, ReadsGive, after_turn, destination, pointer, turns}
use Rattle.device_meaning.specs.Reached.{IsReached}
use Rattle.device_meaning.specs.State.{State, free_place, holds_at, loaded_at}
use Rattle.device_events.specs.ToldEvents as told
use Rattle.pushdown.proofs.Emitted.{outcome_unpacks}
use Rattle.pushdown.proofs.Pushdown.{from_any_beginning}
use Rattle.pushdown.proofs.TurnsDone.{take_next}
use Rattle.pushdown.proofs.Lasting.{events_keep, events_keep_shapes}
use Rattle.pushdown.proofs.ReadBack.{each_is_read, part_is_read}
use Rattle.device_meaning.proofs.Proved.{IsFine, events_fine, reached_fine, turn_fine}

-- no data stands beside a Run
admitted_bytes : (s : State) (sub : Submission) (command : RunCommand) (run : ℕ) → IsAdmitted s sub command run → AreBytes sub.input
admitted_bytes s sub command run admitted =
    let checks = admission_checks s.namespace (holds_at s) (is_some (free_place s)) (loaded_at s command.slot) command sub.input in
    let test = nat_eq (length sub.input) 0 in
    subst AreBytes (sym (nil_from_length sub.input (eqb-true (length sub.input) 0 (demanded test INVALID_FIELD_IN_COMMAND (passed checks 1 admitted.passed))))) no_bytes

module _ (judge : Judge) (sound : IsSoundJudge judge) (s : State) (reached : IsReached judge s)
    (queue : ℕ) (entry input : List ℕ) (starved : Bool) (command : RunCommand) (run : ℕ) (events later : List Occurrence) where
  abbrev block : ℕ
  block = reached.first.namespace.block

  abbrev sub : Submission
  sub = submission_of queue entry input

  abbrev all_turns : List Turn
  all_turns = turns judge s queue entry input starved command run events later

  abbrev to : ℕ
  to = destination judge s queue entry input starved command run events later

  abbrev start : ℕ
  start = pointer judge s queue entry input starved command run events later

  abbrev so_far : ℕ
  so_far = own_turns run events

  abbrev asked : Occurrence
  asked = record { event = told.Submitted queue entry input; starved = starved }

  abbrev now : State
  now = state_after judge (asked ∷ events) s

  abbrev then : State
  then = after_turn judge s queue entry input starved command run events later

  abbrev last : State
  last = state_after judge later then

  fine : IsFine judge sound block s
  fine = reached_fine judge sound s reached

  last_shape : shape last.namespace ≡ shape s.namespace
  last_shape =
      let turn : Occurrence = record { event = told.Turned run; starved = false } in
      events_keep_shapes judge then later ∙ events_keep_shapes judge now (turn ∷ []) ∙ events_keep_shapes judge s (asked ∷ events)

  -- each part of these blocks is read
  abbrev PartsAreRead : List (List ℕ) → Type 0
  PartsAreRead all = (at blocks : ℕ) → at + blocks ≤ length all → 1 ≤ blocks → blocks * s.namespace.block ≤ MOST_TRANSFER
      → ReadsGive judge last (start + at) blocks (concat (take blocks (drop at all)))

  module _ (admitted : IsAdmitted s sub command run) (fit : AreEvents events) (fit_later : AreEvents later) (less : so_far < length all_turns)
      (none : NoEventClears judge to later then) where
    last_sound : IsNamespace last.namespace
    last_sound =
        let now_fine = events_fine judge sound block (asked ∷ events) s fine (admitted_bytes s sub command run admitted, fit) in
        let next_fine = turn_fine judge sound block now run now_fine in
        (events_fine judge sound block later then next_fine fit_later).is

    appended_are_read : AppendedAreRead judge s queue entry input starved command run events later
    appended_are_read at blocks within some transfer =
        let held = blocks_at s to in
        let all = appended_by (take (so_far + 1) all_turns) in
        let theorem = from_any_beginning judge sound s reached queue entry input starved command run events admitted in
        let grows = (events_keep judge later then to none).blocks in
        let own = (get_or all_turns so_far no_turn).blocks in
        let grown : blocks_at then to ≡ held ++ all =
        (theorem.changes_destination_alone less).at_its_end
        ∙ (ap (λ (xs : List (List ℕ)). xs ++ own) (theorem.does_its_turns less).appended
        ∙ (append_assoc held (appended_by (take so_far all_turns)) own
        ∙ ap (λ (xs : List (List ℕ)). held ++ xs) (take_next all_turns so_far less))) in
        let lie : blocks_at last to ≡ held ++ (all ++ grows.more) =
        grows.is ∙ (ap (λ (xs : List (List ℕ)). xs ++ grows.more) grown ∙ append_assoc held all grows.more) in
        let few = subst (λ (x : Shape). blocks * x.block ≤ MOST_TRANSFER) (sym last_shape) transfer in
        subst (λ (x : Shape). ReadsGive judge last (to * x.size + length held + at) blocks (concat (take blocks (drop at all)))) last_shape
        (part_is_read judge last to held all grows.more at blocks last_sound lie within some few)

    emitted_are_read : so_far + 1 ≡ length all_turns → EmittedAreRead judge s queue entry input starved command run events later
    emitted_are_read ended =
        let whole : appended_by (take (so_far + 1) all_turns) ≡ appended_by all_turns = ap appended_by (take_all (so_far + 1) all_turns (omega (arith, ended))) in
        let parts = subst PartsAreRead whole appended_are_read in
        let back = outcome_unpacks judge sound s reached sub command run admitted in
        let small : 1 * s.namespace.block ≤ MOST_TRANSFER = omega (arith, block_most fine.is.shape) in (
          back.0,
          (
            back.1.0,
            (
              each_is_read judge last (appended_by all_turns) start (λ at within. parts at 1 within (omega arith) small),
              back.1.1,
            ),
          ),
        )

pub appended_by_runs_reads_back : (judge : Judge) → IsSoundJudge judge → AppendedByRunsReadsBack judge
appended_by_runs_reads_back judge sound s reached queue entry input starved command run events later admitted fit fit_later less none = (
  appended_are_read judge sound s reached queue entry input starved command run events later admitted fit fit_later less none,
  emitted_are_read judge sound s reached queue entry input starved command run events later admitted fit fit_later less none,
)
