-- The block runs of a question's program, over the source blocks of a run.
use Rattle.std.proofs.Common.{ℕ, zero, suc, ◌+◌, ◌*◌, ◌/◌, ◌%◌, ◌<◌, ◌≤◌, ◌^◌, ◌≡◌, Bool, true, false, cond, List, [], ◌∷◌, ◌++◌, length, take, drop, replicate, Option, Some, refl, sym, ap, ◌∙◌, subst, arith, lit<, length-append, length-drop}
use Rattle.std.proofs.lemmas.List.{length-take-le}
use Rattle.std.proofs.lemmas.List.Sums.{sum_by-cons}
use Rattle.std.specs.List.{AllByRecursion, flat_map, last_or}
use Rattle.std.specs.Option.{option_map_or}
use Rattle.std.specs.Prelude.{filter, map}
use Rattle.byteorder.specs.Endian.{little_bytes}
use Rattle.byteorder.specs.Numbers.{little_from-bytes}
use Rattle.common_definitions.proofs.Proved.{all_append, all_same, low_first}
use Rattle.common_definitions.specs.Bytes.{AreBytes, pieces}
use Rattle.emit_append.proofs.Proved.{AllBytes, FitsByte, by_place, by_recursion}
use Rattle.instruction_set.specs.declared.instruction.Instruction.{Instruction}
use Rattle.program_interface.specs.Frame.{frames}
use Rattle.program_meaning.proofs.Proved.{start_is_state}
use Rattle.program_meaning.specs.BlockRun.{BlockRun}
use Rattle.program_meaning.specs.State.{IsState, at_start}
use Rattle.program_meaning.specs.TrapFree.{NeverTraps}
use Rattle.device_meaning.proofs.Proved.{IsDone}
use Rattle.device_meaning.specs.BlockRuns.{AreScratch, Task, block_run, block_run_over, block_runs_from, context, frames_of, goes_on, groups_of, scratch_after, until_ended}
use Rattle.record_questions.specs.Asked.{AreRanges, IsQuestion}
use Rattle.record_questions.specs.Code.{question_program}
use Rattle.record_questions.specs.Laws.{Answers, AnswersBlocks, argument_in}
use Rattle.record_questions.specs.Question.{answer, bytes_in, cut, cuts, matches, matching, records_in}
use Rattle.record_questions.specs.Tallies.{group_of, tallied_in, tallied_of}
use Rattle.record_questions.specs.declared.question.ByteRange.{ByteRange}
use Rattle.record_questions.specs.declared.question.Question.{Question}

-- ---- the context of a block run

little_are : (n x : ℕ) → AllBytes (little_bytes n x)
little_are n x = by_recursion (little_bytes n x) (low_first 0 n x)

words_are : (words : List ℕ) → AllBytes (flat_map (little_bytes 4) words)
words_are [] = tt
words_are (x ∷ xs) = all_append FitsByte (little_bytes 4 x) (flat_map (little_bytes 4) xs) (little_are 4 x) (words_are xs)

context_are : (task : Task) (index : ℕ) → AllBytes (context task index)
context_are task index =
    let words = flat_map (little_bytes 4) (index ∷ task.count ∷ task.sizes.block ∷ task.argument ∷ []) in
    let zeros : List ℕ = replicate 8 0 in
    all_append FitsByte (little_bytes 8 (task.lba + index)) (words ++ zeros) (little_are 8 (task.lba + index))
    (all_append FitsByte words zeros (words_are (index ∷ task.count ∷ task.sizes.block ∷ task.argument ∷ [])) (all_same FitsByte 8 0 (lit< tt)))

-- the argument is in it
argument_is : (task : Task) (index : ℕ) → task.argument < 2 ^ 32 → argument_in (context task index) ≡ task.argument
argument_is task index small =
    let read : argument_in (context task index) ≡ task.argument / 256 ^ 0 % 256 ^ 4 = little_from-bytes 4 0 task.argument (replicate 8 0) in
    read ∙ omega (arith, small)

-- ---- block runs

tallied_both : (q : Question) (xs ys : List (List ℕ)) (scratch : List ℕ) → tallied_of q (xs ++ ys) scratch ≡ tallied_of q ys (tallied_of q xs scratch)
tallied_both q [] ys scratch = refl
tallied_both q (x ∷ xs) ys scratch = tallied_both q xs ys (tallied_in q.tallies.items (group_of q.by x) x scratch)

-- what the block runs of some blocks come to, begun with this scratch, after the last of those before, if there are any
pub record AnswerAll (q : Question) (argument : ℕ) (runs : List BlockRun) (blocks : List (List ℕ)) (scratch none : List ℕ) (before : Option BlockRun) : Type 0 where
  pub each : length runs ≡ length blocks
  pub groups : groups_of runs ≡ map frames (map (answer q argument) blocks)
  pub counted : frames_of runs ≡ length (flat_map (answer q argument) blocks)
  pub tallied : option_map_or scratch_after (last_or before runs) none ≡ tallied_of q (flat_map (matching q argument) blocks) scratch

-- so many bytes
pub record IsWhole (block : ℕ) (bytes : List ℕ) : Type 0 where
  pub size : length bytes ≡ block
  pub are : AreBytes bytes

module _ (law : AnswersBlocks) (q : Question) (task : Task) (is : IsQuestion task.sizes.block q) (small : task.sizes.block < 2 ^ 32)
    (fits : task.argument < 2 ^ 32) (never : NeverTraps task.program task.sizes.limit task.sizes.block) (same : task.program ≡ question_program q) where
  starts : (index : ℕ) (scratch bytes : List ℕ) → AreScratch scratch → IsWhole task.sizes.block bytes → IsState (at_start bytes (context task index) scratch)
  starts index scratch bytes left whole =
      start_is_state bytes (context task index) scratch (rw whole.size small) refl left.long
      whole.are (by_place (context task index) (context_are task index)) left.are

  one_answered : (index : ℕ) (scratch bytes : List ℕ) → AreScratch scratch → IsWhole task.sizes.block bytes
      → Answers q task.argument bytes scratch (block_run task index scratch bytes)
  one_answered index scratch bytes left whole =
      let given = context task index in
      let run : List (Option Instruction) → BlockRun = λ program. block_run_over program task.sizes.limit bytes given scratch in
      let safe : NeverTraps (question_program q) task.sizes.limit task.sizes.block = subst (λ program. NeverTraps program task.sizes.limit task.sizes.block) same never in
      let answered : Answers q (argument_in given) bytes scratch (run (question_program q)) =
      law q task.sizes.limit task.sizes.block is safe bytes given scratch whole.size (starts index scratch bytes left whole) in
      subst (λ program. Answers q task.argument bytes scratch (run program)) (sym same)
      (subst (λ (argument : ℕ). Answers q argument bytes scratch (run (question_program q))) (argument_is task index fits) answered)

  pub all_answered : (blocks : List (List ℕ)) (index : ℕ) (scratch none : List ℕ) (before : Option BlockRun) → AllByRecursion (IsWhole task.sizes.block) blocks
      → AreScratch scratch → AllByRecursion (IsDone task) (until_ended (block_runs_from task index scratch blocks))
      → option_map_or scratch_after before none ≡ scratch
      → AnswerAll q task.argument (until_ended (block_runs_from task index scratch blocks)) blocks scratch none before
  all_answered [] index scratch none before whole left done last = record { each = refl; groups = refl; counted = refl; tallied = last }
  all_answered (bytes ∷ blocks) index scratch none before whole left done last =
      let a = task.argument in
      let run = block_run task index scratch bytes in
      let later = block_runs_from task (index + 1) (scratch_after run) blocks in
      let one = one_answered index scratch bytes left whole.0 in
      let on : goes_on run.end ≡ true = ap goes_on one.goes_on in
      let done_later = subst (λ (b : Bool). AllByRecursion (IsDone task) (cond b (until_ended later) [])) on done.1 in
      let rest = all_answered blocks (index + 1) (scratch_after run) none (Some run) whole.1 done.0.scratch done_later refl in
      rw on (record {
        each = ap suc rest.each;
        groups = ap (λ (g : List ℕ). g ∷ groups_of (until_ended later)) one.group ∙ ap (λ (gs : List (List ℕ)). frames (answer q a bytes) ∷ gs) rest.groups;
        counted = omega (arith, one.counted, rest.counted, length-append (answer q a bytes) (flat_map (answer q a) blocks), sum_by-cons (λ (r : BlockRun). r.state.frames) run (until_ended later));
        tallied = rest.tallied ∙ (ap (tallied_of q (flat_map (matching q a) blocks)) one.tallied ∙ sym (tallied_both q (matching q a bytes) (flat_map (matching q a) blocks) scratch));
      })

-- ---- records of an answer have bytes

abbrev AllSome : List (List ℕ) → Type 0
AllSome records = AllByRecursion (λ (bytes : List ℕ). 0 < length bytes) records

cuts_some : (size : ℕ) (range : ByteRange) (ranges : List ByteRange) (rs : List (List ℕ)) → 1 ≤ range.size → range.offset + range.size ≤ size
    → AllByRecursion (λ (r : List ℕ). size ≤ length r) rs → AllSome (map (cut (range ∷ ranges)) rs)
cuts_some size range ranges [] some inside long = tt
cuts_some size range ranges (r ∷ rs) some inside long =
    let first : length (bytes_in range r) ≡ range.size = length-take-le range.size (drop range.offset r) (rw length-drop (omega (arith, long.0, inside))) in
    (omega (arith, first, some, length-append (bytes_in range r) (cut ranges r)), cuts_some size range ranges rs some inside long.1)

kept_first : (P : List ℕ → Type 0) (b : Bool) (r : List ℕ) (rs : List (List ℕ)) → P r → AllByRecursion P rs → AllByRecursion P (cond b (r ∷ rs) rs)
kept_first P true r rs h hs = (h, hs)
kept_first P false r rs h hs = hs

pub kept_all : (P : List ℕ → Type 0) (test : List ℕ → Bool) (rs : List (List ℕ)) → AllByRecursion P rs → AllByRecursion P (filter test rs)
kept_all P test [] h = tt
kept_all P test (r ∷ rs) h = kept_first P (test r) r (filter test rs) h.0 (kept_all P test rs h.1)

pieces_long : (size count : ℕ) (bytes : List ℕ) → count * size ≤ length bytes → AllByRecursion (λ (r : List ℕ). size ≤ length r) (pieces size count bytes)
pieces_long size zero bytes fits = tt
pieces_long size (suc n) bytes fits =
    let first : length (take size bytes) ≡ size = length-take-le size bytes (omega arith) in
    (omega (arith, first), pieces_long size n (drop size bytes) (rw length-drop (omega arith)))

matching_long : (q : Question) (argument : ℕ) (bytes : List ℕ) → q.first + q.count * q.size ≤ length bytes
    → AllByRecursion (λ (r : List ℕ). q.size ≤ length r) (matching q argument bytes)
matching_long q argument bytes inside =
    kept_all (λ (r : List ℕ). q.size ≤ length r) (matches argument q.wanted) (records_in q bytes)
    (pieces_long q.size q.count (drop q.first bytes) (rw length-drop (omega (arith, inside))))

emitted_some : (q : Question) (argument : ℕ) (bytes : List ℕ) (ranges : List ByteRange) → AreRanges q.size ranges → IsQuestion (length bytes) q
    → AllSome (cuts ranges (matching q argument bytes))
emitted_some q argument bytes [] are is = tt
emitted_some q argument bytes (range ∷ ranges) are is =
    cuts_some q.size range ranges (matching q argument bytes) are.0.0 are.0.1 (matching_long q argument bytes is.inside)

pub all_some : (q : Question) (argument block : ℕ) (blocks : List (List ℕ)) → IsQuestion block q → AllByRecursion (IsWhole block) blocks
    → AllByRecursion AllSome (map (answer q argument) blocks)
all_some q argument block [] is whole = tt
all_some q argument block (bytes ∷ blocks) is whole = (
  emitted_some q argument bytes q.emitted.items is.emitted (subst (λ n. IsQuestion n q) (sym whole.0.size) is),
  all_some q argument block blocks is whole.1,
)

pub flat_of_map : (q : Question) (argument : ℕ) (blocks : List (List ℕ))
    → flat_map (λ records. records) (map (answer q argument) blocks) ≡ flat_map (answer q argument) blocks
flat_of_map q argument [] = refl
flat_of_map q argument (bytes ∷ blocks) = ap (λ xs. answer q argument bytes ++ xs) (flat_of_map q argument blocks)
