-- What is kept of a device tells that device.
use Rattle.std.proofs.Common.{◌≡◌, ◌<◌, ◌≤◌, ◌+◌, ◌-◌, ℕ, List, length, map, get_or, Option, Some, None, option_map, IfSome, refl, ap, sym, subst, ◌∙◌, arith}
use Rattle.std.specs.Prelude.{is_some}
use Rattle.std.proofs.Math.ListN.{get_or-map}
use Rattle.std.proofs.lemmas.List.{length-map}
use Rattle.zone_resources.specs.declared.holds.TheConstants.{RUNS}
use Rattle.zone_resources.proofs.Proved.{there}
use Rattle.nvme_entry.specs.declared.program_slot.TheConstants.{PROGRAM_SLOTS}
use Rattle.program_interface.specs.RunSizes.{Sizes}
use Rattle.emit_append.specs.Need.{need_behind}
use Rattle.word_domain.specs.declared.domain.Domain.{Ghosts}
use Rattle.verifier.specs.Verified.{sizes_of}
use Rattle.image_store.specs.Namespace.{ZonedNamespace, zone_at}
use Rattle.image_store.specs.declared.geometry.ZoneBlock.{ZoneBlock}
use Rattle.device_meaning.proofs.Proved.{states_are_sound}
use Rattle.device_meaning.specs.Admission.{Loaded, destination_zone, granted_sizes, sizes_in}
use Rattle.device_meaning.specs.Judging.{IsSoundJudge, judge_by}
use Rattle.device_meaning.specs.Reached.{IsReached}
use Rattle.device_meaning.specs.View.{Active, place_of}
use Rattle.runner.specs.DeviceState.{active_of, device_state, loaded_slot, running}
use Rattle.runner.specs.Keeping.{KeepsAgain, saved_slot, slot_again, loaded_again, saved_of}
use Rattle.runner.specs.Restored.{CanGoOn, IsRestoredBy}
use Rattle.runner.specs.declared.active_run.ActiveRun.{ActiveRun}
use Rattle.runner.specs.declared.loaded_program.LoadedProgram.{LoadedProgram}
use Rattle.runner.specs.steps.Ready.{AreWritten, IsReady}
use Rattle.runner.specs.steps.RunsKept.{IsOfRun}
use Rattle.runner.proofs.DevicesAgain.{IsThere, is_there}
use Rattle.runner.proofs.Staying.{placed_at}

module _ {D : Type 0} {domain : Ghosts D} (ns : ZonedNamespace) (slots : List (Option (LoadedProgram D domain))) (runs : List (Option ActiveRun)) (ready : IsReady ns slots runs)
    (sound : IsSoundJudge (judge_by domain.operations)) (reached : IsReached (judge_by domain.operations) (device_state ns slots runs)) (slot_number : length slots ≡ PROGRAM_SLOTS) (run_number : length runs ≡ RUNS)
    (again : (k : ℕ) → k < PROGRAM_SLOTS → IfSome (get_or slots k None) KeepsAgain) (are : (k : ℕ) → k < RUNS → IfSome (get_or runs k None) IsOfRun) where
  -- a slot
  slot_by : (k : ℕ) (o : Option (LoadedProgram D domain)) → get_or slots k None ≡ o → IfSome o KeepsAgain → slot_again (judge_by domain.operations) ns.block (saved_slot o) ≡ Some (loaded_slot o)
  slot_by k None at keeps = refl
  slot_by k (Some p) at keeps =
      ap (λ (block : ℕ). option_map (λ (l : Loaded). Some l) (loaded_again (judge_by domain.operations) block (saved_of p))) (sym (ready.programs k p at))
      ∙ ap (option_map (λ (l : Loaded). Some l)) keeps

  slots_again : (k : ℕ) → k < PROGRAM_SLOTS → slot_again (judge_by domain.operations) ns.block (get_or (map saved_slot slots) k None) ≡ Some (get_or (map loaded_slot slots) k None)
  slots_again k less =
      ap (slot_again (judge_by domain.operations) ns.block) (get_or-map saved_slot slots k None)
      ∙ slot_by k (get_or slots k None) refl (again k less)
      ∙ ap (λ (o : Option Loaded). Some o) (sym (get_or-map loaded_slot slots k None))

  -- a run
  can_go_on : (k : ℕ) (a : ActiveRun) → get_or runs k None ≡ Some a → CanGoOn ns (map loaded_slot slots) (active_of a)
  can_go_on k a at =
      let is = ready.running k a at in
      let fits = is.fits in
      let source = ap (λ (b : ZoneBlock). b.zone) fits.source in
      let inside : k < RUNS = omega (arith, there runs k a at, run_number) in
      let bytes : IsOfRun a = subst (λ (o : Option ActiveRun). IfSome o IsOfRun) at (are k inside) in
      let slot = get_or-map loaded_slot slots a.command.slot None ∙ ap loaded_slot is.loaded in
      let room = (states_are_sound (judge_by domain.operations) sound (device_state ns slots runs) reached).rooms k (place_of ns (map loaded_slot slots) (active_of a)) (placed_at ns slots runs k a at) in
      record {
        begun = record {
          loaded = ap is_some slot;
          left = fits.left;
          written = subst (λ (b : ZoneBlock). AreWritten ns b a.command.blocks) fits.source fits.written;
          other = λ same. fits.other (source ∙ same ∙ sym fits.destination);
          scratch = bytes.scratch;
          pending = omega (arith, bytes.pending, fits.packer);
          bytes = bytes.bytes;
          frames = fits.frames;
          appended = fits.appended;
        };
        room = subst (λ (s : Sizes). length (zone_at ns (destination_zone ns a.command)).blocks + need_behind (length a.packer.pending) (a.command.blocks - a.index) s ≤ ns.capacity)
            (sym (ap (sizes_in ns) slot))
            (subst (λ (z : ℕ). length (zone_at ns z).blocks
            + need_behind (length a.packer.pending) (a.command.blocks - a.index) (granted_sizes ns (sizes_of is.program.prepared).limit) ≤ ns.capacity) fits.destination is.left);
        opened = room.opened;
      }

  destination_of : (k : ℕ) (a : Active) (is : IsThere runs k a) → is.active.destination ≡ destination_zone ns a.command
  destination_of k a is = (ready.running k is.active is.at).fits.destination ∙ ap (λ (x : Active). destination_zone ns x.command) is.is

  pub kept_tells : IsRestoredBy (judge_by domain.operations) ns (map saved_slot slots) (map running runs) (device_state ns slots runs)
  kept_tells = record {
    namespace = refl;
    program_number = length-map slots saved_slot ∙ slot_number;
    slot_number = length-map slots loaded_slot ∙ slot_number;
    slots = slots_again;
    place_number = length-map runs running ∙ run_number;
    places = refl;
    runs_go = record {
      going = λ k a at.
          let is = is_there runs k a at in
          subst (CanGoOn ns (map loaded_slot slots)) is.is (can_go_on k is.active is.at);
      apart = λ j k a b at_j at_k same.
          let first = is_there runs j a at_j in
          let second = is_there runs k b at_k in
          ready.apart j k first.active second.active first.at second.at (destination_of j a first ∙ same ∙ sym (destination_of k b second));
    };
  }
