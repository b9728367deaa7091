-- A device of what was kept.
use Rattle.std.proofs.Common.{◌≡◌, ◌<◌, ℕ, List, length, map, get_or, Option, Some, None, IfSome, refl, ap, sym, subst, ◌∙◌, arith}
use Rattle.std.proofs.Math.ListN.{get_or-map}
use Rattle.std.proofs.lemmas.List.{ext_get_or, length-map}
use Rattle.zone_resources.specs.declared.holds.TheConstants.{RUNS}
use Rattle.nvme_entry.specs.declared.program_slot.TheConstants.{PROGRAM_SLOTS}
use Rattle.image_store.specs.Namespace.{ZonedNamespace}
use Rattle.word_domain.specs.declared.domain.Domain.{Ghosts}
use Rattle.device_meaning.specs.Admission.{Loaded, destination_zone}
use Rattle.device_meaning.specs.Judging.{Judge, judge_by}
use Rattle.device_meaning.specs.View.{Active, seen}
use Rattle.kept_device.specs.Kept.{SavedProgram, place_told, slot_told}
use Rattle.kept_device.specs.declared.kept.KeptProgram.{KeptProgram}
use Rattle.kept_device.specs.declared.kept.KeptRun.{KeptRun}
use Rattle.runner.specs.DeviceState.{active_of, device_state, loaded_slot, running}
use Rattle.runner.specs.Keeping.{slot_again}
use Rattle.runner.specs.Restored.{CanAllGoOn, CanGoOn, IsOfBytes, IsRestoredBy, TellNoneBy}
use Rattle.runner.specs.declared.active_run.ActiveRun.{ActiveRun}
use Rattle.runner.specs.declared.loaded_program.LoadedProgram.{LoadedProgram}
use Rattle.runner.specs.steps.LoadingAgain.{AreAgain, AreNotAgain}
use Rattle.runner.specs.steps.Ready.{IsReady}
use Rattle.runner.specs.steps.RunsAgain.{AreGoing, AreStuck}

same_value : {A : Type 0} (x y : A) → let first : Option A = Some x in first ≡ Some y → x ≡ y
same_value x y is = cc

-- a run that is seen at a place is there
pub record IsThere (runs : List (Option ActiveRun)) (k : ℕ) (a : Active) : Type 0 where
  pub active : ActiveRun
  pub at : get_or runs k None ≡ Some active
  pub is : active_of active ≡ a

there_by : (runs : List (Option ActiveRun)) (k : ℕ) (a : Active) (o : Option ActiveRun) → get_or runs k None ≡ o → running o ≡ Some a → IsThere runs k a
there_by runs k a None at is = absurd cc
there_by runs k a (Some active) at is = record { active = active; at = at; is = same_value (active_of active) a is }

pub is_there : (runs : List (Option ActiveRun)) (k : ℕ) (a : Active) → get_or (map running runs) k None ≡ Some a → IsThere runs k a
is_there runs k a at = there_by runs k a (get_or runs k None) refl (sym (get_or-map running runs k None) ∙ at)

module _ {D : Type 0} {domain : Ghosts D} (ns : ZonedNamespace) (programs : List (Option KeptProgram)) (slots : List (Option (LoadedProgram D domain))) (are : AreAgain ns.block programs slots PROGRAM_SLOTS) where
  slots_are : (k : ℕ) → k < PROGRAM_SLOTS → slot_again (judge_by domain.operations) ns.block (get_or (map slot_told programs) k None) ≡ Some (get_or (map loaded_slot slots) k None)
  slots_are k less =
      ap (slot_again (judge_by domain.operations) ns.block) (get_or-map slot_told programs k None) ∙ are.each k less ∙ ap (λ (o : Option Loaded). Some o) (sym (get_or-map loaded_slot slots k None))

  slot_number : length (map loaded_slot slots) ≡ PROGRAM_SLOTS
  slot_number = length-map slots loaded_slot ∙ are.number

  -- each program that was kept is bytes
  pub all_of_bytes : (k : ℕ) (p : SavedProgram) → k < PROGRAM_SLOTS → get_or (map slot_told programs) k None ≡ Some p → IsOfBytes p
  all_of_bytes k p less at =
      subst (λ (o : Option SavedProgram). IfSome o IsOfBytes) (sym (get_or-map slot_told programs k None) ∙ at) (are.bytes k less)

  module _ (kept : List (Option KeptRun)) (number : length kept ≡ RUNS) where
    -- where its runs can't go on, no device is told
    pub stuck_tells_none : AreStuck ns slots kept → TellNoneBy (judge_by domain.operations) ns (map slot_told programs) (map place_told kept)
    stuck_tells_none stuck s is =
        let same : s.slots ≡ map loaded_slot slots =
        ext_get_or None s.slots (map loaded_slot slots) (is.slot_number ∙ sym slot_number)
        (λ k within.
        let less : k < PROGRAM_SLOTS = omega (arith, within, is.slot_number) in
        same_value (get_or s.slots k None) (get_or (map loaded_slot slots) k None) (sym (is.slots k less) ∙ slots_are k less)) in
        stuck (subst (λ (l : List (Option Loaded)). CanAllGoOn ns l (map place_told kept)) same is.runs_go)

    module _ (programs_number : length programs ≡ PROGRAM_SLOTS) (runs : List (Option ActiveRun)) (going : AreGoing ns slots kept runs RUNS) where
      same_runs : map running runs ≡ map place_told kept
      same_runs =
          ext_get_or None (map running runs) (map place_told kept) (length-map runs running ∙ going.number ∙ sym number ∙ sym (length-map kept place_told))
          (λ k within.
          get_or-map running runs k None
          ∙ going.each k (omega (arith, within, length-map runs running, going.number))
          ∙ sym (get_or-map place_told kept k None))

      pub ready_again : IsReady ns slots runs
      ready_again = record {
        programs = are.sizes;
        running = λ k a at. (going.going k a at).running;
        apart = going.apart;
      }

      seen_destination : (k : ℕ) (a : Active) (is : IsThere runs k a) → is.active.destination ≡ destination_zone ns a.command
      seen_destination k a is =
          (going.going k is.active is.at).running.fits.destination ∙ ap (λ (x : Active). destination_zone ns x.command) is.is

      go_on : CanAllGoOn ns (map loaded_slot slots) (map running runs)
      go_on = record {
        going = λ k a at.
            let is = is_there runs k a at in
            subst (CanGoOn ns (map loaded_slot slots)) is.is (going.going k is.active is.at).can;
        apart = λ j k a b at_j at_k same.
            let first = is_there runs j a at_j in
            let second = is_there runs k b at_k in
            going.apart j k first.active second.active first.at second.at (seen_destination j a first ∙ same ∙ sym (seen_destination k b second));
      }

      -- the device that is told
      pub restored_there : IsRestoredBy (judge_by domain.operations) ns (map slot_told programs) (map place_told kept) (device_state ns slots runs)
      restored_there = record {
        namespace = refl;
        program_number = length-map programs slot_told ∙ programs_number;
        slot_number = slot_number;
        slots = slots_are;
        place_number = length-map kept place_told ∙ number;
        places = ap (map (seen ns (map loaded_slot slots))) same_runs;
        runs_go = subst (CanAllGoOn ns (map loaded_slot slots)) same_runs go_on;
      }

-- where a program isn't accepted, no device is told
pub refused_tells_none : (judge : Judge) (ns : ZonedNamespace) (programs : List (Option KeptProgram)) (runs : List (Option Active)) → AreNotAgain judge ns.block programs
    → TellNoneBy judge ns (map slot_told programs) runs
refused_tells_none judge ns programs runs refused s is =
    let none = ap (slot_again judge ns.block) (get_or-map slot_told programs refused.slot None) ∙ refused.refused in
    let some = is.slots refused.slot refused.inside in
    cc (none, some)
