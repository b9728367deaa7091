-- The rest of a run.
use Rattle.std.proofs.Common.{◌≡◌, ℕ, suc, ◌+◌, Bool, true, false, cond, List, [], ◌∷◌, ◌++◌, length, Some, None, inl, inr, refl, ap, ◌∙◌, arith, append_assoc, length-append}
use Rattle.program_meaning.specs.BlockRun.{BlockRun}
use Rattle.program_meaning.specs.declared.end.End.{End}
use Rattle.program_meaning.specs.declared.end.End.TheVariants as end
use Rattle.emit_append.specs.Packing.{packed, released, pending_of}
use Rattle.emit_append.proofs.Proved.{one_group_releases_none, packing_goes_on}
use Rattle.device_meaning.proofs.BlockRuns.{few_block_runs}
use Rattle.device_meaning.specs.Laws.{RestAtAdmission, RestEnds, RestGoesOn, RestIsFew, further, next_turn}
use Rattle.device_meaning.specs.BlockRuns.{Task, block_run, block_runs_from, block_runs_of, goes_on, scratch_after, until_ended}
use Rattle.device_meaning.specs.Outcome.{Turn, Emitted, Progress, coming_to, last_turn, last_turn_by, middle_turn, emitted_by, rest, success, turns_after, with_group}

abbrev out : List (List ℕ) → ℕ → ℕ → Emitted
out groups frames appended = record { groups = groups; frames = frames; appended = appended }

-- ---- a first group of no bytes changes nothing

last_empty : (block : ℕ) (groups : List (List ℕ)) (frames appended : ℕ) (run : BlockRun) (e : End)
    → last_turn_by e block (out ([] ∷ groups) frames appended) run ≡ last_turn_by e block (out groups frames appended) run
last_empty block groups frames appended run (end.Exit r0) = refl
last_empty block groups frames appended run (end.Trap slot cause) = refl
last_empty block groups frames appended run end.OutOfFuel = refl

turns_empty : (block : ℕ) (groups : List (List ℕ)) (frames appended : ℕ) (block_runs : List BlockRun)
    → turns_after block (out ([] ∷ groups) frames appended) block_runs ≡ turns_after block (out groups frames appended) block_runs
turns_empty block groups frames appended [] = refl
turns_empty block groups frames appended (run ∷ []) =
    ap (λ (turn : Turn). turn ∷ []) (last_empty block groups frames appended run run.end)
turns_empty block groups frames appended (run ∷ next ∷ block_runs) =
    ap (λ turns. middle_turn block (out groups frames appended) run ∷ turns)
    (turns_empty block (groups ++ run.state.group ∷ []) (frames + run.state.frames) appended (next ∷ block_runs))

pub rest_at_admission : RestAtAdmission
rest_at_admission task blocks = turns_empty task.sizes.block [] 0 0 (block_runs_of task blocks)

-- ---- the pending bytes stand for the groups before

coming_to_both : (first xs ys : List (List ℕ)) → coming_to (first ++ xs) (first ++ ys) ≡ coming_to xs ys
coming_to_both [] xs ys = refl
coming_to_both (x ∷ first) xs ys = coming_to_both first xs ys

module _ (block : ℕ) (before : List (List ℕ)) where
  abbrev sent : ℕ
  sent = length (released block before)

  abbrev kept : List ℕ
  kept = pending_of block before

  middle_on : (after : List (List ℕ)) (frames appended : ℕ) (run : BlockRun)
      → middle_turn block (out (before ++ after) frames appended) run ≡ middle_turn block (out (kept ∷ after) frames (appended + sent)) run
  middle_on after frames appended run =
      let g = run.state.group ∷ [] in
      let turn : List (List ℕ) → List (List ℕ) → Turn = λ a b. record { blocks = coming_to a b; ending = None } in
      let more = append_assoc before after g in
      ap (λ gs. turn (released block (before ++ after)) (released block gs)) more
      ∙ ap (λ a. turn a (released block (before ++ (after ++ g)))) (packing_goes_on block before after).released_blocks
      ∙ ap (turn (released block before ++ released block (kept ∷ after))) (packing_goes_on block before (after ++ g)).released_blocks
      ∙ ap (λ blocks. record { blocks = blocks; ending = None })
      (coming_to_both (released block before) (released block (kept ∷ after)) (released block (kept ∷ (after ++ g))))

  abbrev ended : List ℕ → ℕ → List (List ℕ) → ℕ → Turn
  ended scratch frames blocks all = record { blocks = blocks; ending = Some (success frames all scratch) }

  ended_on : (after : List (List ℕ)) (frames appended : ℕ) (run : BlockRun) (e : End)
      → last_turn_by e block (out (before ++ after) frames appended) run ≡ last_turn_by e block (out (kept ∷ after) frames (appended + sent)) run
  ended_on after frames appended run (end.Trap slot cause) = refl
  ended_on after frames appended run end.OutOfFuel = refl
  ended_on after frames appended run (end.Exit r0) =
      let g = run.state.group ∷ [] in
      let turn = ended (scratch_after run) (frames + run.state.frames) in
      let rest_packed = packed block (kept ∷ (after ++ g)) in
      let whole : packed block ((before ++ after) ++ g) ≡ released block before ++ rest_packed =
      ap (packed block) (append_assoc before after g) ∙ (packing_goes_on block before (after ++ g)).blocks in
      let total : appended + length (released block before ++ rest_packed) ≡ appended + sent + length rest_packed =
      omega (arith, length-append (released block before) rest_packed) in
      ap (λ p. turn (coming_to (released block (before ++ after)) p) (appended + length p)) whole
      ∙ ap (λ a. turn (coming_to a (released block before ++ rest_packed)) (appended + length (released block before ++ rest_packed))) (packing_goes_on block before after).released_blocks
      ∙ ap (λ n. turn (coming_to (released block before ++ released block (kept ∷ after)) (released block before ++ rest_packed)) n) total
      ∙ ap (λ blocks. turn blocks (appended + sent + length rest_packed))
      (coming_to_both (released block before) (released block (kept ∷ after)) rest_packed)

  turns_on : (after : List (List ℕ)) (frames appended : ℕ) (block_runs : List BlockRun)
      → turns_after block (out (before ++ after) frames appended) block_runs ≡ turns_after block (out (kept ∷ after) frames (appended + sent)) block_runs
  turns_on after frames appended [] = refl
  turns_on after frames appended (run ∷ []) = ap (λ (turn : Turn). turn ∷ []) (ended_on after frames appended run run.end)
  turns_on after frames appended (run ∷ next ∷ block_runs) =
      let g = run.state.group ∷ [] in
      let later : Emitted → List Turn = λ emitted. turns_after block emitted (next ∷ block_runs) in
      ap (λ turn. turn ∷ later (out ((before ++ after) ++ g) (frames + run.state.frames) appended)) (middle_on after frames appended run)
      ∙ ap (λ turns. middle_turn block (out (kept ∷ after) frames (appended + sent)) run ∷ turns)
      (ap (λ gs. later (out gs (frames + run.state.frames) appended)) (append_assoc before after g)
      ∙ turns_on (after ++ g) (frames + run.state.frames) appended (next ∷ block_runs))

-- a block run after which the run goes on, before others
goes : (task : Task) (so_far : Progress) (run next : BlockRun) (block_runs : List BlockRun)
    → turns_after task.sizes.block (emitted_by so_far) (run ∷ next ∷ block_runs)
    ≡ next_turn task so_far run ∷ turns_after task.sizes.block (emitted_by (further task so_far run)) (next ∷ block_runs)
goes task so_far run next block_runs =
    let block = task.sizes.block in
    let groups = so_far.pending ∷ run.state.group ∷ [] in
    let frames = so_far.frames + run.state.frames in
    let later = turns_after block (out groups frames so_far.appended) (next ∷ block_runs) in
    ap (λ first. record { blocks = coming_to first (released block groups); ending = None } ∷ later) (one_group_releases_none block so_far.pending)
    ∙ ap (λ turns. next_turn task so_far run ∷ turns) (turns_on block groups [] frames so_far.appended (next ∷ block_runs))

cut_not : (block : ℕ) (emitted : Emitted) (run : BlockRun) (later : List BlockRun) (on : Bool) → on ≡ true
    → turns_after block emitted (run ∷ cond on later []) ≡ turns_after block emitted (run ∷ later)
cut_not block emitted run later true is = refl
cut_not block emitted run later false is = cc

cut : (block : ℕ) (emitted : Emitted) (run : BlockRun) (later : List BlockRun) (on : Bool) → on ≡ false
    → turns_after block emitted (run ∷ cond on later []) ≡ last_turn block emitted run ∷ []
cut block emitted run later true is = cc
cut block emitted run later false is = refl

cut_none : (block : ℕ) (emitted : Emitted) (run : BlockRun) (on : Bool) → turns_after block emitted (run ∷ cond on [] []) ≡ last_turn block emitted run ∷ []
cut_none block emitted run true = refl
cut_none block emitted run false = refl

pub rest_goes_on : RestGoesOn
rest_goes_on task so_far bytes more blocks on =
    let run = block_run task so_far.index so_far.scratch bytes in
    let index = so_far.index + 1 in
    let next = block_run task index (scratch_after run) more in
    let block_runs = until_ended (block_runs_from task index (scratch_after run) (more ∷ blocks)) in
    let after = cond (goes_on next.end) (until_ended (block_runs_from task (index + 1) (scratch_after next) blocks)) [] in
    cut_not task.sizes.block (emitted_by so_far) run block_runs (goes_on run.end) on ∙ goes task so_far run next after

pub rest_ends : RestEnds
rest_ends task so_far bytes blocks (inl over) =
    let run = block_run task so_far.index so_far.scratch bytes in
    let block_runs = until_ended (block_runs_from task (so_far.index + 1) (scratch_after run) blocks) in
    cut task.sizes.block (emitted_by so_far) run block_runs (goes_on run.end) over
rest_ends task so_far bytes blocks (inr last) =
    let run = block_run task so_far.index so_far.scratch bytes in
    ap (λ (xs : List (List ℕ)). rest task so_far (bytes ∷ xs)) last ∙ cut_none task.sizes.block (emitted_by so_far) run (goes_on run.end)

-- ---- no more turns than source blocks

pub one_each : (block : ℕ) (emitted : Emitted) (block_runs : List BlockRun) → length (turns_after block emitted block_runs) ≡ length block_runs
one_each block emitted [] = refl
one_each block emitted (run ∷ []) = refl
one_each block emitted (run ∷ next ∷ block_runs) = ap suc (one_each block (with_group emitted run) (next ∷ block_runs))

pub rest_is_few : RestIsFew
rest_is_few task so_far blocks =
    let same = one_each task.sizes.block (emitted_by so_far) (until_ended (block_runs_from task so_far.index so_far.scratch blocks)) in
    let less = few_block_runs task so_far.index so_far.scratch blocks in
    omega (arith, same, less)
