-- A question that is asked of a device is answered.
use Rattle.std.proofs.Common.{ℕ, zero, suc, ◌+◌, ◌/◌, ◌%◌, ◌<◌, ◌^◌, ◌≡◌, Bool, List, [], ◌∷◌, length, take, drop, get_or, Some, None, refl, sym, ap, ◌∙◌, subst, arith, length-drop}
use Rattle.std.specs.List.{AllByRecursion, concat}
use Rattle.std.specs.Prelude.{map, Ok}
use Rattle.std.proofs.lemmas.List.{length-take-le, take_all}
use Rattle.byteorder.specs.Endian.{little_number}
use Rattle.byteorder.specs.Numbers.{little_from-lt}
use Rattle.common_definitions.proofs.Proved.{bytes_from}
use Rattle.common_definitions.specs.Bytes.{AreBytes}
use Rattle.emit_append.proofs.Proved.{packed_frames_read_back}
use Rattle.emit_append.specs.PackedLaw.{FitBlock}
use Rattle.emit_append.specs.Packing.{packed}
use Rattle.emit_append.specs.Unpacking.{unpacked}
use Rattle.image_store.proofs.Proved.{block_most, block_some}
use Rattle.image_store.specs.Namespace.{zone_at}
use Rattle.nvme_entry.proofs.Proved.{fields_are_spelled}
use Rattle.nvme_entry.specs.Entry.{decoded, identifier_of}
use Rattle.nvme_entry.specs.declared.command.Command.TheVariants as commands
use Rattle.nvme_entry.specs.declared.command.RunCommand.{RunCommand}
use Rattle.program_interface.specs.Frame.{frames}
use Rattle.program_meaning.specs.BlockRun.{BlockRun}
use Rattle.program_meaning.specs.TrapFree.{IsExit}
use Rattle.device_meaning.proofs.Proved.{IsFine, all_exit, block_runs_all_done, groups_within, outcome_is_packed, reached_fine, ready, written}
use Rattle.device_meaning.specs.Admission.{source_blocks, task_of}
use Rattle.device_meaning.specs.BlockRuns.{Task, block_runs_of, groups_of, last_scratch, no_scratch}
use Rattle.device_meaning.specs.EventReplies.{Happening, Submission, submission_of}
use Rattle.device_meaning.specs.Events.{AreEvents, Occurrence, state_after}
use Rattle.device_meaning.specs.Happenings.{turn_reply}
use Rattle.device_meaning.specs.Judging.{IsSoundJudge, interval_judge}
use Rattle.device_meaning.specs.Outcome.{Turn, appended_by, ending_of, outcome, success}
use Rattle.device_meaning.specs.State.{Place, State, loaded_at}
use Rattle.pushdown.proofs.Proved.{appended_by_runs_reads_back, pushdown_from_any_beginning, results_read_back}
use Rattle.pushdown.specs.Pushdown.{IsAdmitted, IsPushedDown, no_turn, own_turns}
use Rattle.pushdown.specs.ReadBack.{ResultGives, after_turn, pointer, turns}
use Rattle.question_runs.proofs.Runs.{AnswerAll, all_answered, all_some, flat_of_map}
use Rattle.question_runs.proofs.Words.{no_scratch_is, source_whole}
use Rattle.question_runs.specs.Answered.{AreRead, IsAnswered, RunsAnswer, answer_of}
use Rattle.question_runs.specs.Loaded.{HasQuestion}
use Rattle.question_runs.specs.Words.{ResultsHaveWords, tallies_of}
use Rattle.record_questions.specs.Asked.{IsQuestion}
use Rattle.record_questions.specs.Laws.{AnswersBlocks}
use Rattle.record_questions.specs.Question.{answer}
use Rattle.record_questions.specs.declared.question.Question.{Question}

-- ---- the argument of a Run has 32 bits

number_small : (n : ℕ) (bytes : List ℕ) → AreBytes bytes → little_number n bytes < 256 ^ n
number_small n bytes are = little_from-lt 0 n bytes are

argument_small : (entry : List ℕ) (command : RunCommand) → AreBytes entry → decoded entry ≡ Ok (commands.Run command) → command.argument < 2 ^ 32
argument_small entry command are asked =
    let asks = fields_are_spelled entry (commands.Run command) asked in
    rw asks.2.5 (number_small 4 (drop 52 entry) (bytes_from 52 entry are))

-- ---- the last turn

last_ending : (turns : List Turn) (k : ℕ) → k + 1 ≡ length turns → (get_or turns k no_turn).ending ≡ ending_of turns
last_ending [] k is = absurd (omega (arith, is))
last_ending (turn ∷ []) zero is = refl
last_ending (turn ∷ []) (suc k) is = absurd (omega (arith, is))
last_ending (turn ∷ next ∷ turns) zero is = absurd (omega (arith, is))
last_ending (turn ∷ next ∷ turns) (suc k) is = last_ending (next ∷ turns) k (omega (arith, is))

-- ---- a Run of a question's program

module _ (law : AnswersBlocks) (results : ResultsHaveWords) (sound : IsSoundJudge interval_judge) (s : State) (command : RunCommand)
    (q : Question) (has : HasQuestion s command.slot q) (queue : ℕ) (entry input : List ℕ) (starved : Bool) (run : ℕ) (events : List Occurrence)
    (admitted : IsAdmitted s (submission_of queue entry input) command run) (are : AreBytes entry) (fit : AreEvents events)
    (done : own_turns run events + 1 ≡ command.blocks) where
  abbrev sub : Submission
  sub = submission_of queue entry input

  abbrev task : Task
  task = task_of s.namespace (loaded_at s command.slot) command

  abbrev source : List (List ℕ)
  source = source_blocks s.namespace command

  abbrev block_runs : List BlockRun
  block_runs = block_runs_of task source

  abbrev all_turns : List Turn
  all_turns = outcome task source

  abbrev block : ℕ
  block = has.reached.first.namespace.block

  fine : IsFine interval_judge sound block s
  fine = reached_fine interval_judge sound s has.reached

  is_question : IsQuestion s.namespace.block q
  is_question = subst (λ n. IsQuestion n q) has.is_program.same_block has.is_program.compiled.asked

  -- its block runs answer its blocks, one each
  all : AnswerAll q command.argument block_runs source no_scratch no_scratch None
  all =
      let is_ready = ready interval_judge sound block sub s command fine admitted.passed in
      all_answered law q task is_question is_ready.small (argument_small entry command are admitted.asked) is_ready.never
      (has.held ∙ has.is_program.compiled.of_question) source 0 no_scratch no_scratch None (source_whole s.namespace command fine.is) no_scratch_is
      (block_runs_all_done interval_judge sound block sub s command fine admitted.passed) refl

  whole_source : length source ≡ command.blocks
  whole_source =
      let at = command.lba % s.namespace.size in
      let blocks = (zone_at s.namespace (command.lba / s.namespace.size)).blocks in
      let lies = written interval_judge sound block sub s command fine admitted.passed in
      length-take-le command.blocks (drop at blocks) (rw length-drop (omega (arith, lies)))

  exits : AllByRecursion (λ (r : BlockRun). IsExit r.end) block_runs
  exits = all_exit interval_judge sound block sub s command fine admitted.passed

  -- one turn each
  is_last : own_turns run events + 1 ≡ length all_turns
  is_last = done ∙ (sym whole_source ∙ (sym all.each ∙ sym (outcome_is_packed task source exits).one_each))

  abbrev records : List (List ℕ)
  records = answer_of q command.argument source

  abbrev appended : List (List ℕ)
  appended = appended_by all_turns

  unpack : unpacked s.namespace.block (concat appended) ≡ Ok records
  unpack =
      let groups : groups_of block_runs ≡ map frames (map (answer q command.argument) source) = all.groups in
      let within = subst (FitBlock s.namespace.block) groups
      (groups_within task block_runs (ready interval_judge sound block sub s command fine admitted.passed).sizes.fits (block_runs_all_done interval_judge sound block sub s command fine admitted.passed)) in
      ap (λ (blocks : List (List ℕ)). unpacked s.namespace.block (concat blocks)) (outcome_is_packed task source exits).blocks
      ∙ (ap (λ (gs : List (List ℕ)). unpacked s.namespace.block (concat (packed s.namespace.block gs))) groups
      ∙ (packed_frames_read_back s.namespace.block (map (answer q command.argument) source) (omega (arith, block_some fine.is.shape))
      (omega (arith, block_most fine.is.shape)) (all_some q command.argument s.namespace.block source is_question (source_whole s.namespace command fine.is)) within
      ∙ ap (λ xs. Ok xs) (flat_of_map q command.argument source)))

  abbrev place : Place
  place = record {
    queue = queue;
    cid = identifier_of entry;
    slot = command.slot;
    source = command.lba / s.namespace.size;
    destination = command.destination / s.namespace.size;
    turns = all_turns;
  }

  theorem : IsPushedDown interval_judge s queue entry input starved command run events
  theorem = pushdown_from_any_beginning interval_judge sound s has.reached queue entry input starved command run events admitted

  last_ends : (get_or all_turns (own_turns run events) no_turn).ending
      ≡ Some (success (length records) (length appended) (tallies_of q command.argument source))
  last_ends =
      last_ending all_turns (own_turns run events) is_last
      ∙ (theorem.tells_frames_and_blocks.ending
      ∙ (ap (λ (n : ℕ). Some (success n (length appended) (last_scratch block_runs))) all.counted
      ∙ ap (λ (bytes : List ℕ). Some (success (length records) (length appended) bytes)) all.tallied))

  within : own_turns run events < length all_turns
  within = omega (arith, is_last)

  answered : IsAnswered s queue entry input starved command run events q
  answered = record {
    appended = appended;
    completed =
        ap (λ (h : Happening). h.reply) (theorem.does_its_turns within).does
        ∙ ap (turn_reply run place) last_ends;
    read = λ later fit_later kept.
        let back = (appended_by_runs_reads_back interval_judge sound s has.reached queue entry input starved command run events later admitted fit fit_later within kept).0 in
        let whole : take (own_turns run events + 1) all_turns ≡ all_turns = take_all (own_turns run events + 1) all_turns (omega (arith, is_last)) in
        let then = state_after interval_judge later (after_turn interval_judge s queue entry input starved command run events later) in
        let start = pointer interval_judge s queue entry input starved command run events later in
        subst (λ (ts : List Turn). AreRead then start s.namespace.block (appended_by ts)) whole back;
    unpacks = unpack;
    result = λ later left.
        subst (λ bytes. ResultGives interval_judge
        (state_after interval_judge later (after_turn interval_judge s queue entry input starved command run events later)) command.slot bytes) all.tallied
        (results_read_back interval_judge sound s has.reached queue entry input starved command run events later admitted is_last left).1;
    words = results s command q has.reached is_question;
  }

pub runs_answer : AnswersBlocks → ResultsHaveWords → IsSoundJudge interval_judge → RunsAnswer
runs_answer law results sound s command q has queue entry input starved run events admitted are fit done =
    answered law results sound s command q has queue entry input starved run events admitted are fit done
