-- The outcome of a run whose block runs all end by EXIT.
use Rattle.std.proofs.Common.{◌≡◌, ℕ, ◌+◌, ◌≤◌, List, [], ◌∷◌, ◌++◌, length, Option, Some, refl, ap, sym, ◌∙◌, arith, append_assoc}
use Rattle.std.proofs.lemmas.List.{append-nil, drop_at}
use Rattle.std.specs.List.{AllByRecursion}
use Rattle.std.proofs.lemmas.List.Sums.{sum_by-cons}
use Rattle.program_meaning.specs.BlockRun.{BlockRun}
use Rattle.program_meaning.specs.TrapFree.{IsExit}
use Rattle.program_meaning.specs.declared.end.End.{End}
use Rattle.program_meaning.specs.declared.end.End.TheVariants as end
use Rattle.emit_append.specs.OutputBlocks.{AreAllBytes}
use Rattle.emit_append.specs.PackedLaw.{FitBlock}
use Rattle.emit_append.specs.Packing.{packed, pending_of, released}
use Rattle.emit_append.proofs.Proved.{output_blocks_are_bytes, output_blocks_are_whole, packing_goes_on}
use Rattle.device_meaning.specs.BlockRuns.{Task, block_runs_of, frames_of, groups_of, last_scratch, scratch_after}
use Rattle.device_meaning.specs.Laws.{OutcomeIsPacked}
use Rattle.device_meaning.specs.Outcome.{Ending, Emitted, EndsWithLast, Succeeds, Turn, appended_by, coming_to, ending_of, last_turn_by, middle_turn, nothing_emitted, success, success_of, turns_after, with_group}
use Rattle.device_meaning.proofs.BlockRuns.{IsDone}
use Rattle.common_definitions.proofs.Proved.{all_append, all_drop}
use Rattle.device_meaning.proofs.Bytes.{AreBlocks, IsBlock, both_blocks}
use Rattle.device_meaning.proofs.Rests.{one_each}

-- ---- the last turn

ends_by : (e : End) (block : ℕ) (emitted : Emitted) (run : BlockRun) → IsExit e → Succeeds (last_turn_by e block emitted run).ending
ends_by (end.Exit r0) block emitted run exit = refl
ends_by (end.Trap slot cause) block emitted run exit = absurd exit
ends_by end.OutOfFuel block emitted run exit = absurd exit

pub ends_with_last : (task : Task) (block : ℕ) (emitted : Emitted) (block_runs : List BlockRun) → AllByRecursion (IsDone task) block_runs → 1 ≤ length block_runs
    → EndsWithLast (turns_after block emitted block_runs)
ends_with_last task block emitted [] done some = absurd (omega (arith, some))
ends_with_last task block emitted (run ∷ []) done some = ends_by run.end block emitted run done.0.exits.exit
ends_with_last task block emitted (run ∷ next ∷ []) done some =
    (refl, ends_with_last task block (with_group emitted run) (next ∷ []) done.1 (omega arith))
ends_with_last task block emitted (run ∷ next ∷ third ∷ block_runs) done some =
    (refl, ends_with_last task block (with_group emitted run) (next ∷ third ∷ block_runs) done.1 (omega arith))

-- ---- the blocks of turns are whole

-- groups of bytes, each of which fits into a block
pub record AreGroups (block : ℕ) (groups : List (List ℕ)) : Type 0 where
  pub fit : FitBlock block groups
  pub are : AreAllBytes groups

pub no_groups : (block : ℕ) → AreGroups block []
no_groups block = record { fit = tt; are = tt }

module _ (block : ℕ) where
  packed_whole : (groups : List (List ℕ)) → AreGroups block groups → AreBlocks block (packed block groups)
  packed_whole groups h =
      both_blocks block (packed block groups) (output_blocks_are_whole block groups h.fit).blocks (output_blocks_are_bytes block groups h.are).blocks

  released_whole : (groups : List (List ℕ)) → AreGroups block groups → AreBlocks block (released block groups)
  released_whole groups h =
      both_blocks block (released block groups) (output_blocks_are_whole block groups h.fit).released_blocks
      (output_blocks_are_bytes block groups h.are).released_blocks

  -- a turn's blocks are whole
  abbrev pub HasWhole : Turn → Type 0
  HasWhole turn = AreBlocks block turn.blocks

  last_whole : (e : End) (emitted : Emitted) (run : BlockRun) → AreGroups block (with_group emitted run).groups
      → HasWhole (last_turn_by e block emitted run)
  last_whole (end.Trap slot cause) emitted run h = tt
  last_whole end.OutOfFuel emitted run h = tt
  last_whole (end.Exit r0) emitted run h =
      let groups = (with_group emitted run).groups in
      all_drop (IsBlock block) (length (released block emitted.groups)) (packed block groups) (packed_whole groups h)

  middle_whole : (emitted : Emitted) (run : BlockRun) → AreGroups block (with_group emitted run).groups → HasWhole (middle_turn block emitted run)
  middle_whole emitted run h =
      let groups = (with_group emitted run).groups in
      all_drop (IsBlock block) (length (released block emitted.groups)) (released block groups) (released_whole groups h)

  -- a block run's group, behind those before
  grouped : (task : Task) (emitted : Emitted) (run : BlockRun) → task.sizes.limit ≤ block → IsDone task run → AreGroups block emitted.groups
      → AreGroups block (with_group emitted run).groups
  grouped task emitted run less done h = record {
    fit = all_append (λ group. length group ≤ block) emitted.groups (run.state.group ∷ []) h.fit (omega (arith, less, done.exits.group), tt);
    are = all_append _ emitted.groups (run.state.group ∷ []) h.are (done.in_run.bytes, tt);
  }

  pub turns_whole : (task : Task) (emitted : Emitted) (block_runs : List BlockRun) → task.sizes.limit ≤ block → AllByRecursion (IsDone task) block_runs
      → AreGroups block emitted.groups → AllByRecursion HasWhole (turns_after block emitted block_runs)
  turns_whole task emitted [] less done h = tt
  turns_whole task emitted (run ∷ []) less done h = (last_whole run.end emitted run (grouped task emitted run less done.0 h), tt)
  turns_whole task emitted (run ∷ next ∷ block_runs) less done h =
      let groups = grouped task emitted run less done.0 h in
      (middle_whole emitted run groups, turns_whole task (with_group emitted run) (next ∷ block_runs) less done.1 groups)

-- ---- all blocks together

abbrev AllExit : List BlockRun → Type 0
AllExit block_runs = AllByRecursion (λ run. IsExit run.end) block_runs

-- what stood in front, and then what comes to it
in_whole : (first more : List (List ℕ)) → first ++ coming_to first (first ++ more) ≡ first ++ more
in_whole first more = ap (λ xs. first ++ xs) (drop_at first more (length first) refl)

whole_again : (first rest whole : List (List ℕ)) → whole ≡ first ++ rest → first ++ coming_to first whole ≡ whole
whole_again first rest whole is = ap (λ xs. first ++ coming_to first xs) is ∙ in_whole first rest ∙ sym is

module _ (block : ℕ) where
  -- what is pending, and a block run's group
  abbrev pub later_groups : Emitted → BlockRun → List (List ℕ)
  later_groups emitted run = pending_of block emitted.groups ∷ run.state.group ∷ []

  released_more : (emitted : Emitted) (run : BlockRun)
      → released block emitted.groups ++ coming_to (released block emitted.groups) (released block (with_group emitted run).groups)
      ≡ released block (with_group emitted run).groups
  released_more emitted run =
      whole_again (released block emitted.groups) (released block (later_groups emitted run)) (released block (with_group emitted run).groups)
      (packing_goes_on block emitted.groups (run.state.group ∷ [])).released_blocks

  packed_more : (emitted : Emitted) (run : BlockRun)
      → released block emitted.groups ++ coming_to (released block emitted.groups) (packed block (with_group emitted run).groups)
      ≡ packed block (with_group emitted run).groups
  packed_more emitted run =
      whole_again (released block emitted.groups) (packed block (later_groups emitted run)) (packed block (with_group emitted run).groups)
      (packing_goes_on block emitted.groups (run.state.group ∷ [])).blocks

  last_blocks : (e : End) (emitted : Emitted) (run : BlockRun) → IsExit e
      → (last_turn_by e block emitted run).blocks ≡ coming_to (released block emitted.groups) (packed block (with_group emitted run).groups)
  last_blocks (end.Exit r0) emitted run exit = refl
  last_blocks (end.Trap slot cause) emitted run exit = absurd exit
  last_blocks end.OutOfFuel emitted run exit = absurd exit

  pub all_blocks : (emitted : Emitted) (run : BlockRun) (block_runs : List BlockRun) → AllExit (run ∷ block_runs)
      → released block emitted.groups ++ appended_by (turns_after block emitted (run ∷ block_runs)) ≡ packed block (emitted.groups ++ groups_of (run ∷ block_runs))
  all_blocks emitted run [] exit =
      let first = released block emitted.groups in
      ap (λ xs. first ++ (xs ++ [])) (last_blocks run.end emitted run exit.0)
      ∙ ap (λ xs. first ++ xs) (append-nil (coming_to first (packed block (with_group emitted run).groups)))
      ∙ packed_more emitted run
  all_blocks emitted run (next ∷ block_runs) exit =
      let first = released block emitted.groups in
      let then = with_group emitted run in
      let mine = coming_to first (released block then.groups) in
      let later = appended_by (turns_after block then (next ∷ block_runs)) in
      sym (append_assoc first mine later)
      ∙ ap (λ xs. xs ++ later) (released_more emitted run)
      ∙ all_blocks then next block_runs exit.1
      ∙ ap (packed block) (append_assoc emitted.groups (run.state.group ∷ []) (groups_of (next ∷ block_runs)))

  packed_by : (block_runs : List BlockRun) → AllExit block_runs → appended_by (turns_after block nothing_emitted block_runs) ≡ packed block (groups_of block_runs)
  packed_by [] exit = refl
  packed_by (run ∷ block_runs) exit = all_blocks nothing_emitted run block_runs exit

  -- ---- how the last turn ends

  abbrev told : ℕ → ℕ → List ℕ → Option Ending
  told frames blocks scratch = Some (success frames blocks scratch)

  last_told : (e : End) (emitted : Emitted) (run : BlockRun) → IsExit e
      → (last_turn_by e block emitted run).ending
      ≡ told (emitted.frames + run.state.frames) (emitted.appended + length (packed block (with_group emitted run).groups)) (scratch_after run)
  last_told (end.Exit r0) emitted run exit = refl
  last_told (end.Trap slot cause) emitted run exit = absurd exit
  last_told end.OutOfFuel emitted run exit = absurd exit

  more_told : (emitted : Emitted) (run next : BlockRun) (block_runs : List BlockRun)
      → ending_of (turns_after block (with_group emitted run) (next ∷ block_runs))
      ≡ told (emitted.frames + run.state.frames + frames_of (next ∷ block_runs))
      (emitted.appended + length (packed block ((emitted.groups ++ run.state.group ∷ []) ++ groups_of (next ∷ block_runs)))) (last_scratch (next ∷ block_runs))
      → ending_of (turns_after block (with_group emitted run) (next ∷ block_runs))
      ≡ told (emitted.frames + frames_of (run ∷ next ∷ block_runs)) (emitted.appended + length (packed block (emitted.groups ++ groups_of (run ∷ next ∷ block_runs))))
      (last_scratch (run ∷ next ∷ block_runs))
  more_told emitted run next block_runs later =
      let sum : emitted.frames + run.state.frames + frames_of (next ∷ block_runs) ≡ emitted.frames + frames_of (run ∷ next ∷ block_runs) =
      omega (arith, sum_by-cons (λ (r : BlockRun). r.state.frames) run (next ∷ block_runs)) in
      let joined = append_assoc emitted.groups (run.state.group ∷ []) (groups_of (next ∷ block_runs)) in
      later
      ∙ ap (λ n. told n (emitted.appended + length (packed block ((emitted.groups ++ run.state.group ∷ []) ++ groups_of (next ∷ block_runs)))) (last_scratch (next ∷ block_runs))) sum
      ∙ ap (λ groups. told (emitted.frames + frames_of (run ∷ next ∷ block_runs)) (emitted.appended + length (packed block groups)) (last_scratch (next ∷ block_runs))) joined

  all_told : (emitted : Emitted) (run : BlockRun) (block_runs : List BlockRun) → AllExit (run ∷ block_runs)
      → ending_of (turns_after block emitted (run ∷ block_runs))
      ≡ told (emitted.frames + frames_of (run ∷ block_runs)) (emitted.appended + length (packed block (emitted.groups ++ groups_of (run ∷ block_runs)))) (last_scratch (run ∷ block_runs))
  all_told emitted run [] exit =
      let same : emitted.frames + run.state.frames ≡ emitted.frames + frames_of (run ∷ []) = omega arith in
      last_told run.end emitted run exit.0
      ∙ ap (λ n. told n (emitted.appended + length (packed block (with_group emitted run).groups)) (scratch_after run)) same
  all_told emitted run (next ∷ []) exit = more_told emitted run next [] (all_told (with_group emitted run) next [] exit.1)
  all_told emitted run (next ∷ third ∷ block_runs) exit =
      more_told emitted run next (third ∷ block_runs) (all_told (with_group emitted run) next (third ∷ block_runs) exit.1)

  ended : (block_runs : List BlockRun) → AllExit block_runs → 1 ≤ length block_runs → appended_by (turns_after block nothing_emitted block_runs) ≡ packed block (groups_of block_runs)
      → ending_of (turns_after block nothing_emitted block_runs) ≡ Some (success_of block_runs (turns_after block nothing_emitted block_runs))
  ended [] exit some all = absurd (omega (arith, some))
  ended (run ∷ block_runs) exit some all =
      let frames : 0 + frames_of (run ∷ block_runs) ≡ frames_of (run ∷ block_runs) = omega arith in
      let blocks : 0 + length (packed block (groups_of (run ∷ block_runs))) ≡ length (appended_by (turns_after block nothing_emitted (run ∷ block_runs))) =
      omega (arith, ap length all) in
      all_told nothing_emitted run block_runs exit
      ∙ ap (λ n. told n (0 + length (packed block (groups_of (run ∷ block_runs)))) (last_scratch (run ∷ block_runs))) frames
      ∙ ap (λ n. told (frames_of (run ∷ block_runs)) n (last_scratch (run ∷ block_runs))) blocks

-- where each block run ends by EXIT, all that the turns append is the packing of the groups
pub outcome_is_packed : OutcomeIsPacked
outcome_is_packed task blocks exit =
    let block = task.sizes.block in
    let block_runs = block_runs_of task blocks in
    let turns = turns_after block nothing_emitted block_runs in
    let all = packed_by block block_runs exit in
    record { blocks = all; one_each = one_each block nothing_emitted block_runs; ending = λ some. ended block block_runs exit some all }
