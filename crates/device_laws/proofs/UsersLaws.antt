-- What users ask of completions and of runs.
use Rattle.std.proofs.Common.{◌≡◌, ℕ, ◌+◌, ◌-◌, ◌<◌, ◌≤◌, Bool, true, false, List, [], ◌∷◌, ◌++◌, length, map, take, drop, get_or, Some, Result, Ok, Err, refl, ap, sym, ◌∙◌, arith, length-take}
use Rattle.zone_state.specs.declared.status.Status.{Status}
use Rattle.nvme_entry.specs.Entry.{decoded}
use Rattle.nvme_entry.specs.declared.command.Command.{Command}
use Rattle.nvme_entry.specs.declared.command.Command.TheVariants as commands
use Rattle.nvme_entry.specs.declared.command.RunCommand.{RunCommand}
use Rattle.image_store.specs.Namespace.{zone_at}
use Rattle.zns_commands.specs.Address.{zone_offset}
use Rattle.device_meaning.specs.Admission.{source_zone, task_of}
use Rattle.device_meaning.specs.EventReplies.{Happening, Submission, submission_of}
use Rattle.device_meaning.specs.Events.{Occurrence, replies_to, state_after}
use Rattle.device_meaning.specs.Happenings.{admitted_place, happens, submitted, turn_reply}
use Rattle.device_meaning.specs.Judging.{IsSoundJudge, Judge}
use Rattle.device_meaning.specs.Outcome.{EndsWithLast, Turn, appended_by, at_admission}
use Rattle.device_meaning.specs.Reached.{IsReached}
use Rattle.device_meaning.specs.State.{Place, State, loaded_at}
use Rattle.device_meaning.specs.View.{begun, to_come}
use Rattle.device_meaning.specs.WantOfMemory.{is_load, wants_memory}
use Rattle.device_meaning.proofs.Proved.{no_completion_is_lost, rest_is_few, seen_at_admission}
use Rattle.device_events.specs.Replies.{ReplyWithData}
use Rattle.device_events.specs.ToldEvents.{ToldEvent}
use Rattle.device_events.specs.ToldEvents as told
use Rattle.pushdown.specs.Pushdown.{IsAdmitted, IsPushedDown, blocks_at, no_turn, now, own_turns}
use Rattle.pushdown.proofs.Proved.{pushdown_from_any_beginning}
use Rattle.device_laws.specs.Laws.{ComeToTheSameRun, CompletedAtMostOnce, EnoughTurnsComplete, IsCompletedAmong, IsGivenMemory, OutcomeIsItsOwn, SameEventsSameAnswers, TurnsAreFew}
use Rattle.device_laws.proofs.OwnTurns.{Goes, answered, completes}

pub completed_at_most_once : (judge : Judge) → CompletedAtMostOnce judge
completed_at_most_once judge queue cid s events = omega (arith, no_completion_is_lost judge queue cid s events)

-- ---- the same events

module _ (judge : Judge) where
  -- no event but a Load looks at whether memory is refused
  fed_entry : (sub : Submission) (s : State) (asked : Result Command Status) → is_load asked ≡ false
      → submitted judge true sub s asked ≡ submitted judge false sub s asked
  fed_entry sub s (Err status) no_load = refl
  fed_entry sub s (Ok (commands.Standard c)) no_load = refl
  fed_entry sub s (Ok (commands.Load load)) no_load = absurd cc
  fed_entry sub s (Ok (commands.Run command)) no_load = refl
  fed_entry sub s (Ok (commands.Result slot)) no_load = refl

  wants_none : (s : State) (e : ToldEvent) → wants_memory e ≡ false → happens judge s true e ≡ happens judge s false e
  wants_none s (told.Submitted queue entry input) no_load = fed_entry (submission_of queue entry input) s (decoded entry) no_load
  wants_none s (told.Turned run) no_load = refl
  wants_none s (told.Faulted zone state) no_load = refl

  by_want : (s : State) (e : ToldEvent) (wants : Bool) → wants_memory e ≡ wants → (wants_memory e ≡ true → true ≡ false)
      → happens judge s true e ≡ happens judge s false e
  by_want s e true is given = absurd (let clash = given is in cc)
  by_want s e false is given = wants_none s e is

  given_memory : (s : State) (e : ToldEvent) (starved : Bool) → (wants_memory e ≡ true → starved ≡ false)
      → happens judge s starved e ≡ happens judge s false e
  given_memory s e false given = refl
  given_memory s e true given = by_want s e (wants_memory e) refl given

  -- two occurrences of one event
  same_event : (s : State) (o p : Occurrence) → o.event ≡ p.event → IsGivenMemory o → IsGivenMemory p
      → happens judge s o.starved o.event ≡ happens judge s p.starved p.event
  same_event s o p same first second =
      given_memory s o.event o.starved first ∙ ap (happens judge s false) same ∙ sym (given_memory s p.event p.starved second)

  pub same_events : SameEventsSameAnswers judge
  same_events s [] [] same first second = (refl, refl)
  same_events s [] (p ∷ ps) same first second = absurd cc
  same_events s (o ∷ os) [] same first second = absurd cc
  same_events s (o ∷ os) (p ∷ ps) same first second =
      let here : o.event ≡ p.event = cc in
      let rest : map (λ (x : Occurrence). x.event) os ≡ map (λ (x : Occurrence). x.event) ps = cc in
      let h = happens judge s o.starved o.event in
      let is = same_event s o p here first.0 second.0 in
      let later = same_events h.state os ps rest first.1 second.1 in (
        ap (λ (rs : List ReplyWithData). h.reply ∷ rs) later.0 ∙ ap (λ (g : Happening). g.reply ∷ replies_to judge ps g.state) is,
        later.1 ∙ ap (λ (g : Happening). state_after judge ps g.state) is,
      )

-- ---- how many turns a run has

pub turns_are_few : TurnsAreFew
turns_are_few s sub command =
    let ns = s.namespace in
    let a = begun sub command in
    let few = rest_is_few (task_of ns (loaded_at s command.slot) command) at_admission (to_come ns a) in
    let taken = length-take (command.blocks - 0) (drop (zone_offset ns command.lba + 0) (zone_at ns (source_zone ns command)).blocks) in
    let same = ap (λ (p : Place). length p.turns) (seen_at_admission sub s command) in
    omega (arith, few, taken, same)

-- ---- an admitted Run

some_left : (turns : List Turn) → EndsWithLast turns → 0 < length turns
some_left [] ends = absurd ends
some_left (turn ∷ turns) ends = omega arith

module _ (judge : Judge) (sound : IsSoundJudge judge) (s : State) (reached : IsReached judge s) (queue : ℕ) (entry input : List ℕ) (starved : Bool)
    (command : RunCommand) (run : ℕ) (admitted : IsAdmitted s (submission_of queue entry input) command run) where
  abbrev place : Place
  place = admitted_place (submission_of queue entry input) s command

  abbrev start : State
  start = (happens judge s starved (told.Submitted queue entry input)).state

  theorem : (events : List Occurrence) → IsPushedDown judge s queue entry input starved command run events
  theorem events = pushdown_from_any_beginning judge sound s reached queue entry input starved command run events admitted

  -- before its first turn it has all of its turns
  goes : Goes judge run place start place.turns
  goes =
      let ends = (theorem []).no_turn_traps.ends in
      record { at = ((theorem []).does_its_turns (some_left place.turns ends)).left; ends = ends }

  enough : (events : List Occurrence) → command.blocks ≤ own_turns run events → IsCompletedAmong judge start run place events
  enough events many =
      completes judge run place events start place.turns goes (omega (arith, many, turns_are_few s (submission_of queue entry input) command))

  same_run : (first second : List Occurrence) → own_turns run first ≡ own_turns run second → own_turns run first < length place.turns
      → ComeToTheSameRun judge s queue entry input starved command run first second
  same_run first second same less =
      let less_too : own_turns run second < length place.turns = omega (arith, less, same) in
      let a = (theorem first).does_its_turns less in
      let b = (theorem second).does_its_turns less_too in
      let c = (theorem first).changes_destination_alone less in
      let d = (theorem second).changes_destination_alone less_too in
      let z = place.destination in
      let answer : Turn → ReplyWithData = λ turn. turn_reply run place turn.ending in
      let blocks =
      a.appended
      ∙ ap (λ (n : ℕ). blocks_at s z ++ appended_by (take n place.turns)) same
      ∙ sym b.appended in
      record {
        answers =
            answered judge run place first start place.turns goes less
            ∙ ap (λ (n : ℕ). map answer (take n place.turns)) same
            ∙ sym (answered judge run place second start place.turns goes less_too);
        left = a.left ∙ ap (λ (n : ℕ). Some (record place { turns = drop n place.turns })) same ∙ sym b.left;
        blocks = blocks;
        next_answer =
            ap (λ (h : Happening). h.reply) a.does
            ∙ ap (λ (n : ℕ). answer (get_or place.turns n no_turn)) same
            ∙ sym (ap (λ (h : Happening). h.reply) b.does);
        next_blocks =
            c.at_its_end
            ∙ ap (λ (xs : List (List ℕ)). xs ++ (get_or place.turns (own_turns run first) no_turn).blocks) blocks
            ∙ ap (λ (n : ℕ). blocks_at (now judge s queue entry input starved command run second) z ++ (get_or place.turns n no_turn).blocks) same
            ∙ sym d.at_its_end;
      }

module _ (judge : Judge) (sound : IsSoundJudge judge) where
  pub enough_turns_complete : EnoughTurnsComplete judge
  enough_turns_complete s reached queue entry input starved command run events admitted many =
      enough judge sound s reached queue entry input starved command run admitted events many

  pub outcome_is_its_own : OutcomeIsItsOwn judge
  outcome_is_its_own s reached queue entry input starved command run first second admitted same less =
      same_run judge sound s reached queue entry input starved command run admitted first second same less
