-- A standard command or a fault leaves active runs as they are, and what is seen of them.
use Rattle.std.proofs.Common.{◌≡◌, ℕ, true, List, map, get_or, Option, Some, None, refl, ap, subst, sym, ◌∙◌}
use Rattle.std.specs.List.{list_any}
use Rattle.zone_resources.specs.Holds.{is_destination, is_source, names}
use Rattle.zone_resources.specs.declared.holds.Holds.{Holds}
use Rattle.zone_state.specs.declared.state.FaultState.{FaultState}
use Rattle.nvme_entry.specs.declared.command.StandardCommand.{StandardCommand}
use Rattle.image_store.specs.Geometry.{Shape}
use Rattle.image_store.specs.Namespace.{ZonedNamespace, shape, zone_at}
use Rattle.zns_commands.specs.Left.{Grows, holds_of}
use Rattle.zns_commands.specs.Effect.{Effect, effect_of_answer}
use Rattle.zns_commands.specs.Fault.{faulted}
use Rattle.zns_commands.specs.Laws.{Commanded, Faulted, NamespaceEvent, after}
use Rattle.zns_commands.specs.Meaning.{meaning}
use Rattle.zns_commands.specs.declared.answer.Answer.{Answer}
use Rattle.zns_commands.proofs.Proved.{held_destinations_are_left, held_sources_keep_blocks, shapes_are_kept}
use Rattle.device_meaning.specs.EventReplies.{submission_of}
use Rattle.device_meaning.specs.Happenings.{commanded, faulting}
use Rattle.device_meaning.specs.State.{Place, holds_at, with_namespace}
use Rattle.zone_resources.proofs.Proved.{runs_name_zones}
use Rattle.word_domain.specs.declared.domain.Domain.{Ghosts}
use Rattle.verifier.specs.Verified.{sizes_of}
use Rattle.runner.specs.steps.Answered.{HasExecuted, answered}
use Rattle.runner.specs.DeviceState.{loaded_slot, device_state}
use Rattle.runner.specs.steps.ActiveRuns.{destination_held, source_held}
use Rattle.runner.specs.steps.Ready.{IsReady}
use Rattle.runner.specs.declared.active_run.ActiveRun.{ActiveRun}
use Rattle.runner.specs.declared.loaded_program.LoadedProgram.{LoadedProgram}
use Rattle.runner.proofs.Holding.{holds_are}
use Rattle.runner.proofs.Staying.{keeps_source, places_stay, still_fits, still_left}

module _ {D : Type 0} {domain : Ghosts D} where
  -- a later namespace, in which what a device has is ready, and is seen as before
  record IsLeft (ns later : ZonedNamespace) (slots : List (Option (LoadedProgram D domain))) (runs : List (Option ActiveRun)) : Type 0 where
    ready : IsReady later slots runs
    state : device_state later slots runs ≡ with_namespace (device_state ns slots runs) later

abbrev SourcesGrow : ZonedNamespace → ZonedNamespace → List (Option ActiveRun) → Type 0
SourcesGrow ns later runs =
    (k : ℕ) (a : ActiveRun) → get_or runs k None ≡ Some a → Grows (zone_at ns a.source.zone).blocks (zone_at later a.source.zone).blocks

abbrev DestinationsStay : ZonedNamespace → ZonedNamespace → List (Option ActiveRun) → Type 0
DestinationsStay ns later runs =
    (k : ℕ) (a : ActiveRun) → get_or runs k None ≡ Some a → zone_at later a.destination ≡ zone_at ns a.destination

module _ {D : Type 0} {domain : Ghosts D} where
  is_left : (ns later : ZonedNamespace) (slots : List (Option (LoadedProgram D domain))) (runs : List (Option ActiveRun)) → IsReady ns slots runs
      → shape later ≡ shape ns → SourcesGrow ns later runs → DestinationsStay ns later runs → IsLeft ns later slots runs
  is_left ns later slots runs ready same grow stay =
      let block : ns.block ≡ later.block = ap (λ (s : Shape). s.block) (sym same) in
      record {
        ready = record {
          programs = λ k p at. ready.programs k p at ∙ block;
          running = λ k a at.
              let was = ready.running k a at in
              record {
                program = was.program;
                loaded = was.loaded;
                accepted = was.accepted ∙ block;
                fits = still_fits ns later a was.fits same (grow k a at);
                left = still_left ns later (sizes_of was.program.prepared).limit a was.left same (stay k a at);
              };
          apart = ready.apart;
        };
        state = ap (λ (places : List (Option Place)). record { namespace = later; slots = map loaded_slot slots; places = places })
            (places_stay ns later slots slots runs
            (λ k a at. record {
              source = keeps_source ns later a (ready.running k a at).fits same (grow k a at);
              program = record { loaded = refl; program = refl; limit = refl };
            }));
      }

-- the zone that an active run reads from is held
source_there : (runs : List (Option ActiveRun)) (k : ℕ) (a : ActiveRun) → get_or runs k None ≡ Some a
    → list_any (names a.source.zone) (map source_held runs) ≡ true
source_there runs k a at = runs_name_zones source_held a.source.zone runs k a at refl

-- and so is that to which it appends
destination_there : (runs : List (Option ActiveRun)) (k : ℕ) (a : ActiveRun) → get_or runs k None ≡ Some a
    → list_any (names a.destination) (map destination_held runs) ≡ true
destination_there runs k a at = runs_name_zones destination_held a.destination runs k a at refl

module _ {D : Type 0} {domain : Ghosts D} where
  -- where an event heeds what the active runs hold
  event_leaves : (ns : ZonedNamespace) (slots : List (Option (LoadedProgram D domain))) (runs : List (Option ActiveRun)) (event : NamespaceEvent) → IsReady ns slots runs
      → holds_of event ≡ holds_at (device_state ns slots runs) → IsLeft ns (after event ns) slots runs
  event_leaves ns slots runs event ready heeds =
      is_left ns (after event ns) slots runs ready (shapes_are_kept event ns)
      (λ k a at.
      held_sources_keep_blocks event ns a.source.zone
      (ap (λ (holds : Holds). is_source holds a.source.zone) (heeds ∙ sym (holds_are ns slots runs ready)) ∙ source_there runs k a at))
      (λ k a at.
      held_destinations_are_left event ns a.destination
      (ap (λ (holds : Holds). is_destination holds a.destination) (heeds ∙ sym (holds_are ns slots runs ready)) ∙ destination_there runs k a at))

  -- ---- a fault

  pub fault_leaves : (ns new : ZonedNamespace) (slots : List (Option (LoadedProgram D domain))) (runs : List (Option ActiveRun)) (holds : Holds) (zone : ℕ) (fault : FaultState)
      → IsReady ns slots runs → holds ≡ holds_at (device_state ns slots runs) → new ≡ faulted ns holds zone fault
      → IsReady new slots runs × (device_state new slots runs ≡ (faulting (device_state ns slots runs) zone fault).state)
  fault_leaves ns new slots runs holds zone fault ready heeds is =
      let s = device_state ns slots runs in
      let left : IsLeft ns new slots runs =
      subst (λ (later : ZonedNamespace). IsLeft ns later slots runs) (sym is) (event_leaves ns slots runs (Faulted holds zone fault) ready heeds) in (
        left.ready,
        left.state ∙ ap (with_namespace s) (is ∙ ap (λ (h : Holds). faulted ns h zone fault) heeds),
      )

  -- ---- a standard command

  pub command_leaves : (ns new : ZonedNamespace) (slots : List (Option (LoadedProgram D domain))) (runs : List (Option ActiveRun)) (holds : Holds) (command : StandardCommand)
      (input bytes : List ℕ) (answer : Answer) → IsReady ns slots runs → holds ≡ holds_at (device_state ns slots runs)
      → effect_of_answer answer new bytes ≡ meaning ns holds command input
      → IsReady new slots runs × HasExecuted command input (device_state ns slots runs) (device_state new slots runs) answer bytes
  command_leaves ns new slots runs holds command input bytes answer ready heeds is =
      let s = device_state ns slots runs in
      let later = ap (λ (o : Effect). o.namespace) is in
      let left : IsLeft ns new slots runs =
      subst (λ (m : ZonedNamespace). IsLeft ns m slots runs) (sym later) (event_leaves ns slots runs (Commanded holds command input) ready heeds) in (
        left.ready,
        λ queue entry.
            let sub = submission_of queue entry input in
            ap (λ (h : Holds). commanded sub s (meaning ns h command input)) (sym heeds)
            ∙ ap (commanded sub s) (sym is)
            ∙ ap (answered sub answer bytes) (sym left.state),
      )
