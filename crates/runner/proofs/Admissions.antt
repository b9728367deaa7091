-- The checks of a run, of their parts.
use Rattle.std.proofs.Common.{◌≡◌, ℕ, List, ◌∷◌, ◌++◌, length, get_or, Bool, true, Option, Some, None, refl, ap, sym, ◌∙◌}
use Rattle.std.specs.Option.{option_or}
use Rattle.std.specs.Prelude.{◌==◌, is_some, option_map}
use Rattle.std.proofs.Math.ListN.{get_or-map}
use Rattle.zone_state.specs.declared.status.Status.{Status}
use Rattle.zone_state.specs.declared.status.TheConstants.Status.{INVALID_FIELD_IN_COMMAND, NO_SUCH_PROGRAM, NO_RUN_FREE}
use Rattle.zone_resources.specs.declared.holds.Holds.{Holds}
use Rattle.common_definitions.specs.Checks.{demand, first_failed}
use Rattle.common_definitions.proofs.Proved.{joined}
use Rattle.nvme_entry.specs.declared.command.RunCommand.{RunCommand}
use Rattle.program_interface.specs.RunSizes.{Sizes}
use Rattle.image_store.specs.Namespace.{ZonedNamespace}
use Rattle.image_store.specs.declared.geometry.ZoneBlock.{ZoneBlock}
use Rattle.emit_append.specs.Need.{need}
use Rattle.word_domain.specs.declared.domain.Domain.{Ghosts}
use Rattle.verifier.specs.Verified.{sizes_of}
use Rattle.zns_commands.specs.Address.{zone_block_in}
use Rattle.device_meaning.specs.Admission.{Loaded, destination_zone, granted_sizes, run_refusal, sizes_in}
use Rattle.device_meaning.specs.steps.Checks.{address_checks, destination_checks, source_checks}
use Rattle.device_meaning.specs.State.{State, free_place, holds_at, loaded_at}
use Rattle.runner.specs.steps.Admitting.{AreZonesOf, refusal_by, sizes_at}
use Rattle.runner.specs.DeviceState.{loaded_slot, device_state}
use Rattle.runner.specs.steps.Ready.{IsForBlocks, IsReady}
use Rattle.runner.specs.declared.active_run.ActiveRun.{ActiveRun}
use Rattle.runner.specs.declared.loaded_program.LoadedProgram.{LoadedProgram}

passes : (first rest : Option Status) → first ≡ None → option_or first rest ≡ rest
passes first rest none = rw none refl

-- where no check before those of the destination fails, they decide
last_decides : (ns : ZonedNamespace) (holds : Holds) (place_free : Bool) (slot : Option Loaded) (command : RunCommand) (input : List ℕ)
    (source : ZoneBlock) (destination blocks : ℕ) → (length input == 0) ≡ true → is_some slot ≡ true → AreZonesOf ns command source destination
    → first_failed (address_checks ns command) ≡ None → place_free ≡ true → first_failed (source_checks ns source command.blocks) ≡ None
    → blocks ≡ need command.blocks (sizes_in ns slot)
    → first_failed (destination_checks ns holds destination blocks) ≡ run_refusal ns holds place_free slot command input
last_decides ns holds place_free slot command input source destination blocks no_input loaded zones addresses free sources enough =
    let to = first_failed (destination_checks ns holds (destination_zone ns command) (need command.blocks (sizes_in ns slot))) in
    let from = first_failed (source_checks ns (zone_block_in ns command.lba) command.blocks) in
    let parts : run_refusal ns holds place_free slot command input
    ≡ option_or (demand (length input == 0) INVALID_FIELD_IN_COMMAND)
    (option_or (demand (is_some slot) NO_SUCH_PROGRAM)
    (option_or (first_failed (address_checks ns command)) (option_or (demand place_free NO_RUN_FREE) (option_or from to)))) =
    ap (λ (rest : Option Status). option_or (demand (length input == 0) INVALID_FIELD_IN_COMMAND) (option_or (demand (is_some slot) NO_SUCH_PROGRAM) rest))
    (joined (address_checks ns command) (demand place_free NO_RUN_FREE ∷ source_checks ns (zone_block_in ns command.lba) command.blocks
    ++ destination_checks ns holds (destination_zone ns command) (need command.blocks (sizes_in ns slot)))
    ∙ ap (λ (rest : Option Status). option_or (first_failed (address_checks ns command)) (option_or (demand place_free NO_RUN_FREE) rest))
    (joined (source_checks ns (zone_block_in ns command.lba) command.blocks) (destination_checks ns holds (destination_zone ns command) (need command.blocks (sizes_in ns slot))))) in
    let from_none : from ≡ None = ap (λ (p : ZoneBlock). first_failed (source_checks ns p command.blocks)) (sym zones.reads.is) ∙ sources in
    ap (λ (z : ℕ). first_failed (destination_checks ns holds z blocks)) (ap (λ (b : ZoneBlock). b.zone) zones.appends.is)
    ∙ ap (λ (n : ℕ). first_failed (destination_checks ns holds (destination_zone ns command) n)) enough
    ∙ sym (parts
    ∙ ap (λ (b : Bool). option_or (demand b INVALID_FIELD_IN_COMMAND) (option_or (demand (is_some slot) NO_SUCH_PROGRAM)
    (option_or (first_failed (address_checks ns command)) (option_or (demand place_free NO_RUN_FREE) (option_or from to))))) no_input
    ∙ ap (λ (b : Bool). option_or (demand b NO_SUCH_PROGRAM) (option_or (first_failed (address_checks ns command)) (option_or (demand place_free NO_RUN_FREE) (option_or from to)))) loaded
    ∙ passes (first_failed (address_checks ns command)) (option_or (demand place_free NO_RUN_FREE) (option_or from to)) addresses
    ∙ ap (λ (b : Bool). option_or (demand b NO_RUN_FREE) (option_or from to)) free
    ∙ passes from to from_none)

-- what is granted to the program of a slot tells that there is one, and its sizes
pub granted_there : (ns : ZonedNamespace) (slot : Option Loaded) (sizes : Sizes) → Some sizes ≡ option_map (λ (loaded : Loaded). granted_sizes ns loaded.limit) slot
    → (is_some slot ≡ true) × (sizes ≡ sizes_in ns slot)
granted_there ns None sizes granted = absurd (cc granted)
granted_there ns (Some loaded) sizes granted = (refl, cc granted)

-- the same, by what a device tests before
pub destination_decides : (s : State) (command : RunCommand) (input : List ℕ) (sizes : Sizes) (source : ZoneBlock) (destination run blocks : ℕ) (holds : Holds)
    → true ≡ (length input == 0) → Some sizes ≡ sizes_at s command.slot
    → AreZonesOf s.namespace command source destination → None ≡ first_failed (address_checks s.namespace command)
    → Some run ≡ free_place s → None ≡ first_failed (source_checks s.namespace source command.blocks)
    → holds ≡ holds_at s → blocks ≡ need command.blocks sizes
    → first_failed (destination_checks s.namespace holds destination blocks) ≡ refusal_by s command input
destination_decides s command input sizes source destination run blocks holds no_input granted zones addresses free sources held enough =
    let loaded = granted_there s.namespace (loaded_at s command.slot) sizes granted in
    ap (λ (h : Holds). first_failed (destination_checks s.namespace h destination blocks)) held
    ∙ last_decides s.namespace (holds_at s) (is_some (free_place s)) (loaded_at s command.slot) command input source destination blocks
    (sym no_input) loaded.0 zones (sym addresses) (ap is_some (sym free)) (sym sources) (enough ∙ ap (need command.blocks) loaded.1)

-- ---- the sizes that the program of a slot was accepted for

module _ {D : Type 0} {domain : Ghosts D} where
  -- by what a device keeps in the slot
  abbrev pub sizes_known : Option (LoadedProgram D domain) → Option Sizes
  sizes_known = option_map (λ (p : LoadedProgram D domain). sizes_of p.prepared)

  -- where it is for the blocks of the namespace, the limit of what is loaded tells them
  sizes_by : (ns : ZonedNamespace) (o : Option (LoadedProgram D domain)) → ((p : LoadedProgram D domain) → o ≡ Some p → IsForBlocks ns p)
      → option_map (λ (loaded : Loaded). granted_sizes ns loaded.limit) (loaded_slot o) ≡ sizes_known o
  sizes_by ns None accepted = refl
  sizes_by ns (Some p) accepted = ap (λ (block : ℕ). Some (record { block = block; limit = (sizes_of p.prepared).limit })) (sym (accepted p refl))

module _ {D : Type 0} {domain : Ghosts D} (ns : ZonedNamespace) (slots : List (Option (LoadedProgram D domain))) (runs : List (Option ActiveRun)) where
  pub program_is : (slot : ℕ) → loaded_at (device_state ns slots runs) slot ≡ loaded_slot (get_or slots slot None)
  program_is slot = get_or-map loaded_slot slots slot None

  pub sizes_are : (slot : ℕ) → IsReady ns slots runs → sizes_at (device_state ns slots runs) slot ≡ sizes_known (get_or slots slot None)
  sizes_are slot ready =
      ap (option_map (λ (loaded : Loaded). granted_sizes ns loaded.limit)) (program_is slot)
      ∙ sizes_by ns (get_or slots slot None) (λ p at. ready.programs slot p at)
