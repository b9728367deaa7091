-- What a device may begin with is sound: its programs are accepted, and what is left of its runs is whole and fits.
use Rattle.std.proofs.Common.{◌≡◌, ℕ, suc, ◌+◌, ◌-◌, ◌≤◌, List, [], ◌∷◌, length, map, replicate, drop, get_or, Option, Some, None, refl, ap, sym, subst, ◌∙◌, arith, length-take, length-drop, length-append}
use Rattle.std.specs.Prelude.{IfSome}
use Rattle.std.specs.List.{AllByRecursion}
use Rattle.std.proofs.Math.ListN.{get_or-map}
use Rattle.std.proofs.lemmas.List.{length-map, length-replicate}
use Rattle.zone_resources.specs.declared.holds.TheConstants.{RUNS}
use Rattle.nvme_entry.specs.declared.program_slot.TheConstants.{PROGRAM_SLOTS}
use Rattle.program_meaning.specs.BlockRun.{BlockRun}
use Rattle.program_meaning.specs.TrapFree.{IsExit}
use Rattle.common_definitions.proofs.Proved.{all_at, all_drop, all_from, all_take}
use Rattle.image_store.specs.Namespace.{ZonedNamespace, IsNamespace, zone_at}
use Rattle.zns_commands.specs.Address.{zone_offset}
use Rattle.accepted_programs.proofs.Proved.{none_known}
use Rattle.emit_append.specs.Need.{need_behind}
use Rattle.emit_append.specs.Packing.{packed, released}
use Rattle.emit_append.proofs.Proved.{need_behind_grows, need_behind_is_enough}
use Rattle.device_meaning.specs.Admission.{Loaded, sizes_in, source_zone, task_of}
use Rattle.device_meaning.specs.Beginning.{LeftIsWithinNeed, MayBegin, MayGoOn, WasBegun, WasLoaded}
use Rattle.device_meaning.specs.BlockRuns.{Task, block_runs_from, groups_of, until_ended}
use Rattle.device_meaning.specs.Judging.{IsSoundJudge, Judge}
use Rattle.device_meaning.specs.Laws.{RoomIn}
use Rattle.device_meaning.specs.Outcome.{Turn, appended_by, emitted_by, turns_after}
use Rattle.device_meaning.specs.State.{Place, State, new_state, place_at}
use Rattle.device_meaning.specs.View.{Active, place_of, seen, to_come}
use Rattle.device_meaning.proofs.BlockRuns.{IsDone, IsReady, few_block_runs, later_runs_done, some_later_runs}
use Rattle.device_meaning.proofs.Bytes.{AreBlocks, IsBlock}
use Rattle.device_meaning.proofs.FewBlocks.{turns_few}
use Rattle.device_meaning.proofs.Outcomes.{all_blocks, ends_with_last, turns_whole}
use Rattle.device_meaning.proofs.Places.{AreApart}
use Rattle.device_meaning.proofs.RunsFit.{Rooms}
use Rattle.device_meaning.proofs.States.{AppendWhole, IsFine, PlaceIsFine, ProgramIsFine, SlotIsFine, groups_fit, slot_ready, zone_are}

-- what holds of each that is there
some_by_place : {A : Type 0} (P : A → Type 0) (xs : List (Option A)) → ((k : ℕ) (x : A) → get_or xs k None ≡ Some x → P x)
    → AllByRecursion (λ o. IfSome o P) xs
some_by_place P [] each = tt
some_by_place P (None ∷ xs) each = (tt, some_by_place P xs (λ k. each (suc k)))
some_by_place P (Some x ∷ xs) each = (each 0 x refl, some_by_place P xs (λ k. each (suc k)))

-- ---- a namespace alone

pub new_may_begin : (judge : Judge) (ns : ZonedNamespace) → IsNamespace ns → MayBegin judge (new_state ns)
new_may_begin judge ns is = record {
  runs = replicate RUNS None;
  places = refl;
  namespace = is;
  slot_number = length-replicate {A = Option Loaded} PROGRAM_SLOTS None;
  place_number = length-replicate {A = Option Active} RUNS None;
  programs = λ slot loaded at. absurd (none_known PROGRAM_SLOTS slot loaded at);
  going = λ run a at. absurd (none_known RUNS run a at);
  apart = λ j k a b at_j at_k same. absurd (none_known RUNS j a at_j);
}

-- ---- runs

module _ (judge : Judge) (sound : IsSoundJudge judge) (ns : ZonedNamespace) (is : IsNamespace ns) where
  loaded_fine : (loaded : Loaded) → WasLoaded judge ns loaded → ProgramIsFine judge sound ns.block loaded
  loaded_fine loaded was = record {
    bytes = was.bytes;
    are = was.are;
    sizes = record { block_size = is.shape.block_size; fits = was.limit };
    accepted = was.accepted;
  }

  -- a run that was begun
  module _ (slots : List (Option Loaded)) (a : Active) (begun : WasBegun ns slots a)
      (fine : SlotIsFine judge sound ns.block (get_or slots a.command.slot None)) where
    abbrev task : Task
    task = task_of ns (get_or slots a.command.slot None) a.command

    abbrev blocks : List (List ℕ)
    blocks = to_come ns a

    abbrev block_runs : List BlockRun
    block_runs = until_ended (block_runs_from task a.so_far.index a.so_far.scratch blocks)

    abbrev turns : List Turn
    turns = (place_of ns slots a).turns

    ready : IsReady task
    ready = slot_ready judge sound ns.block ns (get_or slots a.command.slot None) a.command is refl fine begun.loaded

    blocks_are : AreBlocks ns.block blocks
    blocks_are =
        let written = (zone_at ns (source_zone ns a.command)).blocks in
        let at = zone_offset ns a.command.lba + a.so_far.index in
        all_take (IsBlock ns.block) (a.command.blocks - a.so_far.index) (drop at written)
        (all_drop (IsBlock ns.block) at written (zone_are ns (source_zone ns a.command) is))

    few_blocks : (1 ≤ length blocks) × (length blocks ≤ a.command.blocks - a.so_far.index)
    few_blocks =
        let written = (zone_at ns (source_zone ns a.command)).blocks in
        let at = zone_offset ns a.command.lba + a.so_far.index in
        let taken = length-take (a.command.blocks - a.so_far.index) (drop at written) in
        (omega (arith, begun.left, begun.written, taken, length-drop at written), omega (arith, taken))

    done : AllByRecursion (IsDone task) block_runs
    done = later_runs_done task ready blocks a.so_far.index a.so_far.scratch begun.scratch blocks_are

    some : 1 ≤ length block_runs
    some = some_later_runs task a.so_far.index a.so_far.scratch blocks few_blocks.0

    run_fine : AppendWhole judge sound ns.block turns
    run_fine = record {
      whole = turns_whole ns.block task (emitted_by a.so_far) block_runs ready.sizes.fits done
          (record { fit = (begun.pending, tt); are = (begun.bytes, tt) });
      few = turns_few ns.block (emitted_by a.so_far) block_runs;
      ends = ends_with_last task ns.block (emitted_by a.so_far) block_runs done some;
    }

    -- what its turns append is of the packing of what is pending and its groups
    few_appended : (runs : List BlockRun) → AllByRecursion (IsDone task) runs → 1 ≤ length runs
        → length (appended_by (turns_after ns.block (emitted_by a.so_far) runs)) ≤ length (packed ns.block (a.so_far.pending ∷ groups_of runs))
    few_appended [] all any = absurd (omega (arith, any))
    few_appended (run ∷ runs) all any =
        let first = released ns.block (a.so_far.pending ∷ []) in
        let exit = all_from (IsDone task) (λ (r : BlockRun). IsExit r.end) (λ r h. h.exits.exit) (run ∷ runs) all in
        let whole = ap (λ (xs : List (List ℕ)). length xs) (all_blocks ns.block (emitted_by a.so_far) run runs exit) in
        omega (arith, whole, length-append first (appended_by (turns_after ns.block (emitted_by a.so_far) (run ∷ runs))))

    within_need : length (appended_by turns) ≤ need_behind (length a.so_far.pending) (a.command.blocks - a.so_far.index) task.sizes
    within_need =
        let groups = groups_of block_runs in
        let enough = need_behind_is_enough task.sizes a.so_far.pending groups ready.sizes.fits begun.pending (groups_fit task block_runs done) in
        let few = few_block_runs task a.so_far.index a.so_far.scratch blocks in
        let number = length-map block_runs (λ (r : BlockRun). r.state.group) in
        let grows = need_behind_grows task.sizes (length a.so_far.pending) (length groups) (a.command.blocks - a.so_far.index) (omega (arith, few, few_blocks.1, number)) in
        omega (arith, few_appended block_runs done some, enough, grows)

pub left_is_within_need : (judge : Judge) → IsSoundJudge judge → LeftIsWithinNeed judge
left_is_within_need judge sound ns slots a loaded is begun at was =
    subst (λ (o : Option Loaded). length (appended_by (place_of ns slots a).turns)
    ≤ need_behind (length a.so_far.pending) (a.command.blocks - a.so_far.index) (sizes_in ns o)) at
    (within_need judge sound ns is slots a begun
    (subst (SlotIsFine judge sound ns.block) (sym at) (loaded_fine judge sound ns is loaded was)))

-- ---- all that a device begins with

module _ (judge : Judge) (sound : IsSoundJudge judge) (first : State) (begins : MayBegin judge first) where
  abbrev ns : ZonedNamespace
  ns = first.namespace

  programs : AllByRecursion (SlotIsFine judge sound ns.block) first.slots
  programs =
      some_by_place (ProgramIsFine judge sound ns.block) first.slots
      (λ slot loaded at. loaded_fine judge sound ns begins.namespace loaded (begins.programs slot loaded at))

  place_of_run : (a : Active) → MayGoOn ns first.slots a → AppendWhole judge sound ns.block (place_of ns first.slots a).turns
  place_of_run a on =
      run_fine judge sound ns begins.namespace first.slots a on.begun (all_at (SlotIsFine judge sound ns.block) first.slots a.command.slot None programs tt)

  -- ---- places

  places_fine : (runs : List (Option Active)) → ((k : ℕ) (a : Active) → get_or runs k None ≡ Some a → MayGoOn ns first.slots a)
      → AllByRecursion (PlaceIsFine judge sound ns.block) (map (seen ns first.slots) runs)
  places_fine [] each = tt
  places_fine (None ∷ runs) each = (tt, places_fine runs (λ k. each (suc k)))
  places_fine (Some a ∷ runs) each = (place_of_run a (each 0 a refl), places_fine runs (λ k. each (suc k)))

  seen_some : (o : Option Active) (p : Place) → seen ns first.slots o ≡ Some p → (a : Active) × (o ≡ Some a) × (place_of ns first.slots a ≡ p)
  seen_some None p is = cc
  seen_some (Some a) p is = (a, refl, cc)

  -- the run of a place
  run_at : (k : ℕ) (p : Place) → place_at first k ≡ Some p → (a : Active) × (get_or begins.runs k None ≡ Some a) × (place_of ns first.slots a ≡ p)
  run_at k p at =
      seen_some (get_or begins.runs k None) p
      (sym (get_or-map (seen ns first.slots) begins.runs k None) ∙ ap (λ (places : List (Option Place)). get_or places k None) (sym begins.places) ∙ at)

  are_apart : AreApart first.places
  are_apart = record {
    apart = λ j k p q at_j at_k same.
        let a = run_at j p at_j in
        let b = run_at k q at_k in
        begins.apart j k a.0 b.0 a.1 b.1 (ap (λ (x : Place). x.destination) a.2 ∙ same ∙ sym (ap (λ (x : Place). x.destination) b.2));
  }

  rooms : Rooms first
  rooms k p at =
      let a = run_at k p at in
      let on = begins.going k a.0 a.1 in
      subst (λ (q : Place). RoomIn ns.capacity (zone_at ns q.destination) q.turns) a.2 (record { room = on.room; opened = on.opened })

  pub begins_fine : IsFine judge sound ns.block first
  begins_fine = record {
    is = begins.namespace;
    size = refl;
    slots = programs;
    places = subst (AllByRecursion (PlaceIsFine judge sound ns.block)) (sym begins.places) (places_fine begins.runs begins.going);
    apart = are_apart;
    rooms = rooms;
  }
