-- What a run appends reads back as the records that its block runs emit.
use Rattle.std.proofs.Common.{ℕ, ◌<◌, List, [], ◌∷◌, length, refl, ap, subst, ◌∙◌, arith, length-append}
use Rattle.std.specs.List.{AllByRecursion, concat, flat_map}
use Rattle.std.proofs.lemmas.List.Sums.{sum_by-cons}
use Rattle.program_interface.specs.Frame.{frames}
use Rattle.program_meaning.specs.BlockRun.{BlockRun}
use Rattle.device_meaning.specs.Judging.{IsSoundJudge, Judge}
use Rattle.image_store.proofs.Proved.{block_most, block_some}
use Rattle.emit_append.specs.Unpacking.{unpacked}
use Rattle.emit_append.specs.PackedLaw.{FitBlock}
use Rattle.emit_append.specs.Packing.{packed}
use Rattle.emit_append.proofs.Proved.{packed_frames_read_back}
use Rattle.device_meaning.specs.Admission.{source_blocks, task_of}
use Rattle.device_meaning.specs.BlockRuns.{Task, block_runs_of, groups_of}
use Rattle.pushdown.specs.Laws.{AreEmitted, OutcomeUnpacks}
use Rattle.device_meaning.specs.State.{loaded_at}
use Rattle.device_meaning.proofs.Proved.{IsDone, outcome_is_packed, all_exit, groups_within, reached_fine, ready, block_runs_all_done}

record Emits (block_runs : List BlockRun) : Type 0 where
  records : List (List (List ℕ))
  are : AreEmitted block_runs records
  some : AllByRecursion (λ group. AllByRecursion (λ bytes. 0 < length bytes) group) records

emits : (task : Task) (block_runs : List BlockRun) → AllByRecursion (IsDone task) block_runs → Emits block_runs
emits task [] done = record { records = []; are = record { groups = refl; counted = refl }; some = tt }
emits task (run ∷ block_runs) done =
    let group = done.0.in_run.group in
    let rest = emits task block_runs done.1 in
    let joined = length-append group.records (flat_map (λ (g : List (List ℕ)). g) rest.records) in
    record {
      records = group.records ∷ rest.records;
      are = record {
        groups = ap (λ (g : List ℕ). g ∷ groups_of block_runs) group.whole ∙ ap (λ (gs : List (List ℕ)). frames group.records ∷ gs) rest.are.groups;
        counted = omega (arith, joined, group.number, rest.are.counted, sum_by-cons (λ (r : BlockRun). r.state.frames) run block_runs);
      };
      some = (group.some, rest.some);
    }

pub outcome_unpacks : (judge : Judge) → IsSoundJudge judge → OutcomeUnpacks judge
outcome_unpacks judge sound s reached sub command run admitted =
    let fine = reached_fine judge sound s reached in
    let none = admitted.passed in
    let task = task_of s.namespace (loaded_at s command.slot) command in
    let source = source_blocks s.namespace command in
    let block_runs = block_runs_of task source in
    let block = task.sizes.block in
    let done = block_runs_all_done judge sound reached.first.namespace.block sub s command fine none in
    let given = emits task block_runs done in
    let sizes = (ready judge sound reached.first.namespace.block sub s command fine none).sizes in
    let whole = (outcome_is_packed task source (all_exit judge sound reached.first.namespace.block sub s command fine none)).blocks in
    let fit = subst (FitBlock block) given.are.groups (groups_within task block_runs sizes.fits done) in
    let back = packed_frames_read_back block given.records
    (omega (arith, block_some fine.is.shape)) (omega (arith, block_most fine.is.shape)) given.some fit in (
      given.records,
      (
        given.are,
        ap (λ (blocks : List (List ℕ)). unpacked block (concat blocks)) whole
            ∙ ap (λ (groups : List (List ℕ)). unpacked block (concat (packed block groups))) given.are.groups
            ∙ back,
      ),
    )
