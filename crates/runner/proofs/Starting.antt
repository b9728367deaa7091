-- The state in which a run has begun.
use Rattle.std.proofs.Common.{◌≡◌, ◌≢◌, ◌+◌, ◌-◌, ◌≤◌, ℕ, true, false, List, length, map, set, get_or, Option, Some, None, ap, sym, ◌∙◌, inl, inr, subst, arith}
use Rattle.std.specs.Prelude.{is_some}
use Rattle.std.specs.List.{list_any}
use Rattle.std.proofs.lemmas.List.{map-set}
use Rattle.zone_state.specs.declared.status.Status.{Status}
use Rattle.nvme_entry.specs.declared.command.RunCommand.{RunCommand}
use Rattle.program_meaning.proofs.Proved.{the_value}
use Rattle.accepted_programs.proofs.Proved.{set_known}
use Rattle.zone_resources.specs.Holds.{is_destination, names}
use Rattle.zone_resources.specs.declared.holds.Holds.{Holds}
use Rattle.zone_resources.proofs.Proved.{runs_name_zones}
use Rattle.emit_append.specs.Need.{need}
use Rattle.word_domain.specs.declared.domain.Domain.{Ghosts}
use Rattle.verifier.specs.Verified.{sizes_of}
use Rattle.image_store.specs.Namespace.{ZonedNamespace, zone_at}
use Rattle.device_meaning.specs.Admission.{Loaded, granted_sizes, sizes_in}
use Rattle.image_store.specs.declared.geometry.ZoneBlock.{ZoneBlock}
use Rattle.device_meaning.specs.EventReplies.{submission_of}
use Rattle.device_events.specs.Replies.{without_data}
use Rattle.device_meaning.specs.Happenings.{start_by}
use Rattle.device_meaning.specs.Outcome.{at_admission}
use Rattle.device_meaning.specs.State.{Place, State, free_place, with_place}
use Rattle.device_meaning.specs.View.{begun, place_of, seen}
use Rattle.device_events.specs.declared.reply.Reply.TheVariants as reply
use Rattle.device_meaning.proofs.Proved.{seen_at_admission}
use Rattle.runner.specs.steps.Admitting.{IsAdmission, refusal_by}
use Rattle.runner.specs.steps.Answered.{Refuses, Starts}
use Rattle.runner.specs.DeviceState.{active_of, loaded_of, loaded_slot, running, device_state}
use Rattle.runner.specs.steps.ActiveRuns.{destination_held, new_active}
use Rattle.runner.specs.steps.Ready.{IsReady, IsRunning}
use Rattle.runner.specs.declared.active_run.ActiveRun.{ActiveRun}
use Rattle.runner.specs.declared.admission.Admitted.{Admitted}
use Rattle.runner.specs.declared.loaded_program.LoadedProgram.{LoadedProgram}
use Rattle.runner.proofs.Admissions.{program_is}
use Rattle.runner.proofs.Holding.{holds_are}
use Rattle.runner.proofs.Numbers.{mapped_some}

-- a check of a run has failed
pub refuses : (s : State) (command : RunCommand) (input : List ℕ) (status : Status) → Some status ≡ refusal_by s command input → Refuses command input s status
refuses s command input status fails queue entry =
    ap (λ (why : Option Status). start_by why (free_place s) (submission_of queue entry input) s command) (sym fails)

module _ {D : Type 0} {domain : Ghosts D} (ns : ZonedNamespace) (slots : List (Option (LoadedProgram D domain))) (runs : List (Option ActiveRun)) where
  -- a run put at a place, seen
  placed : (run : ℕ) (a : ActiveRun)
      → device_state ns slots (set runs run (Some a)) ≡ with_place (device_state ns slots runs) run (Some (place_of ns (map loaded_slot slots) (active_of a)))
  placed run a =
      ap (λ (places : List (Option Place)). record { namespace = ns; slots = map loaded_slot slots; places = places })
      (ap (map (seen ns (map loaded_slot slots))) (map-set running runs run (Some a))
      ∙ map-set (seen ns (map loaded_slot slots)) (map running runs) run (Some (active_of a)))

  pub starts : (s : State) (command : RunCommand) (queue cid block : ℕ) (admitted : Admitted) (input : List ℕ) → device_state ns slots runs ≡ s
      → free_place s ≡ Some admitted.run → None ≡ refusal_by s command input
      → Starts command queue cid input s
      (device_state ns slots (set runs admitted.run (Some (new_active queue cid command admitted.source admitted.destination block)))) admitted.run
  starts s command queue cid block admitted input view free passes entry named =
      let sub = submission_of queue entry input in
      let a = new_active queue cid command admitted.source admitted.destination block in
      let begins : active_of a ≡ begun sub command =
      ap (λ (n : ℕ). record { queue = queue; cid = n; command = command; so_far = at_admission }) (sym named) in
      ap (λ (why : Option Status). start_by why (free_place s) sub s command) (sym passes)
      ∙ ap (λ (number : Option ℕ). start_by None number sub s command) free
      ∙ ap (λ (place : Place). record { reply = without_data (reply.Pending admitted.run); state = with_place s admitted.run (Some place) })
      (sym (seen_at_admission sub s command) ∙ ap (place_of s.namespace s.slots) (sym begins))
      ∙ ap (λ (t : State). record { reply = without_data (reply.Pending admitted.run); state = with_place t admitted.run (Some (place_of t.namespace t.slots (active_of a))) })
      (sym view)
      ∙ ap (λ (t : State). record { reply = without_data (reply.Pending admitted.run); state = t }) (sym (placed admitted.run a))

  -- a run that has just begun is one of a device
  pub is_running : (command : RunCommand) (queue cid block : ℕ) (admitted : Admitted) → IsReady ns slots runs → IsAdmission (device_state ns slots runs) command admitted
      → block ≡ ns.block → IsRunning ns slots (new_active queue cid command admitted.source admitted.destination block)
  is_running command queue cid block admitted ready is same =
      let there = ap is_some (program_is ns slots runs command.slot) ∙ mapped_some loaded_of (get_or slots command.slot None) in
      let at = the_value (get_or slots command.slot None) (sym there ∙ is.loaded) in
      let limit = (sizes_of at.0.prepared).limit in
      let appended = length (zone_at ns admitted.destination).blocks in
      let count : command.blocks ≡ command.blocks - 0 = omega arith in
      let room : appended + need command.blocks (granted_sizes ns limit) ≤ ns.capacity =
      subst (λ (o : Option Loaded). appended + need command.blocks (sizes_in ns o) ≤ ns.capacity) (program_is ns slots runs command.slot ∙ ap loaded_slot at.1) is.room in
      record {
        program = at.0;
        loaded = at.1;
        accepted = ready.programs command.slot at.0 at.1;
        fits = record {
          source = is.zones.reads.is;
          destination = ap (λ (b : ZoneBlock). b.zone) is.zones.appends.is;
          other = is.zones.other;
          left = is.some;
          most = is.most;
          written = is.written;
          small = is.small;
          address = is.zones.reads.small;
          packer = same;
          frames = omega arith;
          appended = omega arith;
        };
        left = subst (λ (n : ℕ). appended + need n (granted_sizes ns limit) ≤ ns.capacity) count room;
      }

  -- it appends to a zone of its own
  pub is_alone : (command : RunCommand) (admitted : Admitted) → IsReady ns slots runs → IsAdmission (device_state ns slots runs) command admitted
      → (j : ℕ) (b : ActiveRun) → get_or runs j None ≡ Some b → b.destination ≢ admitted.destination
  is_alone command admitted ready is j b at same =
      let free : list_any (names admitted.destination) (map destination_held runs) ≡ false =
      ap (λ (h : Holds). is_destination h admitted.destination) (holds_are ns slots runs ready) ∙ is.alone in
      let held : list_any (names admitted.destination) (map destination_held runs) ≡ true =
      runs_name_zones destination_held admitted.destination runs j b at (ap (λ (z : ℕ). Some z) same) in
      cc

  -- and all is ready with it
  pub still_ready : (run : ℕ) (a : ActiveRun) → IsReady ns slots runs → IsRunning ns slots a
      → ((j : ℕ) (b : ActiveRun) → get_or runs j None ≡ Some b → b.destination ≢ a.destination) → IsReady ns slots (set runs run (Some a))
  still_ready run a ready is alone = record {
    programs = ready.programs;
    running = λ k b at. elim (set_known runs run k (Some a) b at) [
      | inl same ↦
          let this : a ≡ b = cc same.1 in
          subst (IsRunning ns slots) this is
      | inr other ↦ ready.running k b other.1
    ];
    apart = λ j k b c at_j at_k same. elim (set_known runs run j (Some a) b at_j) [
      | inl first ↦ elim (set_known runs run k (Some a) c at_k) [
        | inl second ↦ first.0 ∙ sym second.0
        | inr second ↦
            let this : a ≡ b = cc first.1 in
            absurd (alone k c second.1 (sym same ∙ sym (ap (λ (x : ActiveRun). x.destination) this)))
      ]
      | inr first ↦ elim (set_known runs run k (Some a) c at_k) [
        | inl second ↦
            let this : a ≡ c = cc second.1 in
            absurd (alone j b first.1 (same ∙ sym (ap (λ (x : ActiveRun). x.destination) this)))
        | inr second ↦ ready.apart j k b c first.1 second.1 same
      ]
    ];
  }
