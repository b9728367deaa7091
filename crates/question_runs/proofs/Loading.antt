-- A question's program that was loaded is in its slot.
use Rattle.std.proofs.Common.{◌≡◌, ℕ, Bool, false, List, [], ◌∷◌, get_or, Option, Some, None, refl, sym, ap, subst, ◌∙◌, inl, inr, length, set, ◌<◌, arith, length-set, get_or-set_other, get_or-set_same}
use Rattle.std.proofs.lemmas.Bool.Decides.{eqb_tells}
use Rattle.zone_state.specs.declared.status.Status.{Status}
use Rattle.ebpf_decode.specs.Laws.{SpelledIsDecoded}
use Rattle.instruction_set.specs.declared.instruction.Instruction.{Instruction}
use Rattle.instruction_set.specs.Program.{IsProgram}
use Rattle.instruction_set.specs.Spelling.{program_bytes}
use Rattle.interval_domain.specs.Intervals.{intervals}
use Rattle.accepted_programs.specs.Accepted.{refusal}
use Rattle.program_interface.specs.RunSizes.{Sizes}
use Rattle.nvme_entry.proofs.Proved.{fields_are_spelled}
use Rattle.nvme_entry.specs.declared.command.Command.TheVariants as commands
use Rattle.nvme_entry.specs.declared.program_slot.TheConstants.{PROGRAM_SLOTS}
use Rattle.device_events.specs.ToldEvents.{ToldEvent}
use Rattle.device_events.specs.ToldEvents as told
use Rattle.device_meaning.proofs.Proved.{after_event, after_turn as turn_changes, events_fine, events_keep_reached, left_program, reached_fine}
use Rattle.device_meaning.specs.Admission.{Loaded, program_in}
use Rattle.device_meaning.specs.EventReplies.{Happening, Submission, submission_of}
use Rattle.device_meaning.specs.Events.{Occurrence, state_after}
use Rattle.device_meaning.specs.Happenings.{happens, judged, just_loaded, keeping, load_unless, loading, sizes_for, slots_left, submitted}
use Rattle.device_meaning.specs.Outcome.{Ending}
use Rattle.device_meaning.specs.Reached.{IsReached}
use Rattle.device_meaning.specs.Judging.{IsSoundJudge, accepted_unless, interval_judge, judged_by}
use Rattle.device_meaning.specs.State.{Place, State, loaded_at, with_slot}
use Rattle.pushdown.proofs.Proved.{only_loads_change_slots}
use Rattle.pushdown.specs.ReadBack.{LoadSucceeds}
use Rattle.question_runs.proofs.Loads.{load_leaves}
use Rattle.question_runs.specs.Loaded.{CompiledQuestionsLoad, HasQuestion, LoadedQuestionsStay, NoEventLoads, QuestionWasLoaded, load_by}
use Rattle.record_questions.specs.declared.question.Question.{Question}

-- ---- a program stays in its slot

abbrev program_at : State → ℕ → List (Option Instruction)
program_at s slot = program_in (loaded_at s slot)

module _ (slot : ℕ) where
  event_leaves : (s : State) (starved : Bool) (e : ToldEvent) → (LoadSucceeds slot e (happens interval_judge s starved e).reply → ⊥)
      → program_at (happens interval_judge s starved e).state slot ≡ program_at s slot
  event_leaves s starved (told.Submitted queue entry input) loads = elim (only_loads_change_slots interval_judge s starved queue entry input) [
    | inl same ↦ ap (λ (xs : List (Option Loaded)). program_in (get_or xs slot None)) same
    | inr loaded ↦
        let load = loaded.0 in
        let is = loaded.1 in
        elim (eqb_tells load.slot slot) [
          | inl same ↦ absurd (loads (load, (is.asked, (same.1, is.reply))))
          | inr differs ↦ ap (λ (t : State). program_at t slot) is.state
              ∙ ap program_in (get_or-set_other s.slots load.slot slot (Some (just_loaded is.program load.limit)) None (λ equal. differs.1 (sym equal)))
        ]
  ]
  event_leaves s starved (told.Turned run) loads =
      turn_changes (λ (t : State). program_at t slot ≡ program_at s slot) s run refl (λ p turn later at is. (left_program s p turn.ending slot).program)
  event_leaves s starved (told.Faulted zone state) loads = refl

  events_leave : (events : List Occurrence) (s : State) → NoEventLoads slot events s
      → program_at (state_after interval_judge events s) slot ≡ program_at s slot
  events_leave [] s none = refl
  events_leave (o ∷ os) s none =
      events_leave os (happens interval_judge s o.starved o.event).state none.1 ∙ event_leaves s o.starved o.event none.0

-- ---- what the judge makes of a question's program

module _ (spelled : SpelledIsDecoded) (program : List (Option Instruction)) (is : IsProgram program) where
  judged_as : (sizes : Sizes) → interval_judge (program_bytes program) sizes ≡ accepted_unless program (refusal intervals program sizes)
  judged_as sizes = ap (judged_by intervals sizes) (spelled program is)

-- ---- the slots that there are

left_length : (s : State) (place : Place) (ending : Option Ending) → length (slots_left s place ending) ≡ length s.slots
left_length s place None = refl
left_length s place (Some ending) = length-set s.slots place.slot (keeping (loaded_at s place.slot) ending.result)

event_keeps_length : (s : State) (starved : Bool) (e : ToldEvent) → length (happens interval_judge s starved e).state.slots ≡ length s.slots
event_keeps_length s starved e = after_event interval_judge (λ (t : State). length t.slots ≡ length s.slots) s starved e (record {
  same = refl;
  step = λ step same fit. refl;
  load = λ sub load t are takes. length-set s.slots load.slot (Some (just_loaded takes.program load.limit));
  start = λ sub command run passed free some. refl;
  turn = λ run place turn later own at first. left_length s place turn.ending;
})

events_keep_length : (events : List Occurrence) (s : State) → length (state_after interval_judge events s).slots ≡ length s.slots
events_keep_length [] s = refl
events_keep_length (o ∷ os) s =
    events_keep_length os (happens interval_judge s o.starved o.event).state ∙ event_keeps_length s o.starved o.event

all_slots : (s : State) → IsReached interval_judge s → length s.slots ≡ PROGRAM_SLOTS
all_slots s reached =
    ap (λ (t : State). length t.slots) reached.leaves ∙ (events_keep_length reached.events reached.first ∙ reached.begins.slot_number)

-- ---- after a Load

module _ (sound : IsSoundJudge interval_judge) (spelled : SpelledIsDecoded) (s : State) (slot : ℕ) (q : Question) (w : QuestionWasLoaded s slot q) where
  abbrev sub : Submission
  sub = submission_of w.queue w.entry (program_bytes w.program)

  abbrev after_load : State
  after_load = (happens interval_judge w.before w.starved (told.Submitted w.queue w.entry (program_bytes w.program))).state

  is_loading : happens interval_judge w.before w.starved (told.Submitted w.queue w.entry (program_bytes w.program))
      ≡ loading interval_judge w.starved sub w.before w.load
  is_loading = ap (submitted interval_judge w.starved sub w.before) w.asked

  loaded_is : after_load ≡ with_slot w.before w.load.slot (Some (just_loaded w.program w.load.limit))
  loaded_is =
      let sizes = sizes_for w.before w.load in
      ap (λ (h : Happening). h.state) is_loading
      ∙ load_leaves interval_judge sub w.before w.load w.program (refusal intervals w.program sizes)
      (judged_as spelled w.program w.is_program.compiled.is_program sizes) w.starved
      (ap (λ (h : Happening). h.reply) (sym is_loading) ∙ w.succeeds)

  slot_there : slot < length w.before.slots
  slot_there =
      let asks = fields_are_spelled w.entry (commands.Load w.load) w.asked in
      omega (arith, all_slots w.before w.reached, w.same_slot, asks.2.2)

  has_program : program_at after_load slot ≡ w.program
  has_program =
      let new = Some (just_loaded w.program w.load.limit) in
      ap (λ (t : State). program_at t slot) loaded_is
      ∙ (ap (λ (n : ℕ). program_in (get_or (set w.before.slots n new) slot None)) w.same_slot
      ∙ ap program_in (get_or-set_same w.before.slots slot new None slot_there))

  block_is : w.before.namespace.block ≡ s.namespace.block
  block_is =
      let block = w.reached.first.namespace.block in
      let fine = reached_fine interval_judge sound w.before w.reached in
      let last = events_fine interval_judge sound block (load_by w.queue w.entry w.program w.starved ∷ w.events) w.before fine w.bytes in
      fine.size ∙ (sym last.size ∙ ap (λ (t : State). t.namespace.block) (sym w.leaves))

  has_question : HasQuestion s slot q
  has_question = record {
    reached = subst (IsReached interval_judge) (sym w.leaves)
        (events_keep_reached interval_judge w.before (load_by w.queue w.entry w.program w.starved ∷ w.events) w.reached w.bytes);
    program = w.program;
    is_program = record { sizes = w.is_program.sizes; compiled = w.is_program.compiled; same_block = w.is_program.same_block ∙ block_is };
    held = ap (λ (t : State). program_at t slot) w.leaves ∙ (events_leave slot w.events after_load w.kept ∙ has_program);
  }

pub loaded_questions_stay : IsSoundJudge interval_judge → SpelledIsDecoded → LoadedQuestionsStay
loaded_questions_stay sound spelled s slot q was = has_question sound spelled s slot q was

-- ---- a Load isn't refused for the program

pub compiled_questions_load : SpelledIsDecoded → CompiledQuestionsLoad
compiled_questions_load spelled s queue entry load q program asked is passed =
    let sizes = sizes_for s load in
    let sub = submission_of queue entry (program_bytes program) in
    ap (λ r. (submitted interval_judge false sub s r).reply) asked
    ∙ (ap (λ (why : Option Status). (load_unless interval_judge why false sub s load).reply) passed
    ∙ ap (λ r. (judged sub s load r).reply)
    (judged_as spelled program is.is_program sizes ∙ ap (accepted_unless program) is.accepted))
