-- Whether a run is admitted (profile).
use Rattle.std.specs.Prelude.{ℕ, Bool, ◌≡◌, ◌+◌, ◌==◌, not, nat_le, nat_lt, List, [], ◌∷◌, length, take, drop, Option, is_some}
use Rattle.std.specs.Option.{option_map_or}
use Rattle.zone_state.specs.State.{is_open}
use Rattle.zone_state.specs.declared.status.Status.{Status}
use Rattle.zone_state.specs.declared.status.TheConstants.Status.{INVALID_FIELD_IN_COMMAND, LBA_OUT_OF_RANGE, ZONE_BOUNDARY_ERROR, ZONE_HELD, NO_SUCH_PROGRAM, NO_RUN_FREE, SOURCE_NOT_WRITTEN, DESTINATION_NOT_OPEN, DESTINATION_LACKS_ROOM, SOURCE_IS_DESTINATION}
use Rattle.zone_resources.specs.Holds.{is_destination}
use Rattle.zone_resources.specs.declared.holds.Holds.{Holds}
use Rattle.common_definitions.specs.Checks.{demand, first_failed}
use Rattle.nvme_entry.specs.declared.command.RunCommand.{RunCommand}
use Rattle.instruction_set.specs.declared.instruction.Instruction.{Instruction}
use Rattle.program_interface.specs.RunSizes.{Sizes}
use Rattle.image_store.specs.Namespace.{ZonedNamespace, zone_at}
use Rattle.zns_commands.specs.Address.{block_total, zone_number, zone_offset}
use Rattle.zns_commands.specs.Read.{read_refusal}
use Rattle.emit_append.specs.Need.{need}
use Rattle.device_meaning.specs.BlockRuns.{Task}

-- a program in its slot, the most bytes of its groups, and its result: the scratch bytes that its last run
-- that succeeded left, zeros before one did
pub record Loaded : Type 0 where
  pub program : List (Option Instruction)
  pub limit : ℕ
  pub result : List ℕ

-- the program of a slot; one without instructions where the slot has none
abbrev pub program_in : Option Loaded → List (Option Instruction)
program_in slot = option_map_or (λ loaded. loaded.program) slot []

-- the most bytes that it may emit for a block; 0 where the slot has none
abbrev pub limit_in : Option Loaded → ℕ
limit_in slot = option_map_or (λ loaded. loaded.limit) slot 0

-- a slot has the same program as before, though perhaps another result
pub record SameProgram (before after : Option Loaded) : Type 0 where
  pub loaded : is_some after ≡ is_some before
  pub program : program_in after ≡ program_in before
  pub limit : limit_in after ≡ limit_in before

-- the sizes of a block of a namespace, and of what may be emitted for one
abbrev pub granted_sizes : ZonedNamespace → ℕ → Sizes
granted_sizes ns limit = record { block = ns.block; limit = limit }

-- the sizes that the program of a slot is granted in a namespace
abbrev pub sizes_in : ZonedNamespace → Option Loaded → Sizes
sizes_in ns slot = granted_sizes ns (limit_in slot)

-- the zone that a run reads from
abbrev pub source_zone : ZonedNamespace → RunCommand → ℕ
source_zone ns command = zone_number ns command.lba

-- the zone that it appends to
abbrev pub destination_zone : ZonedNamespace → RunCommand → ℕ
destination_zone ns command = zone_number ns command.destination

-- The checks, in order: the data beside the entry; the program; the addresses; the places for runs; the
-- source; the destination. Each later one is meant where those before it pass.
abbrev pub admission_checks : ZonedNamespace → Holds → Bool → Option Loaded → RunCommand → List ℕ → List (Option Status)
admission_checks ns holds place_free slot command input =
    let end = zone_offset ns command.lba + command.blocks in
    let source = zone_at ns (source_zone ns command) in
    let destination = zone_at ns (destination_zone ns command) in
    demand (length input == 0) INVALID_FIELD_IN_COMMAND
    ∷ demand (is_some slot) NO_SUCH_PROGRAM
    ∷ demand (nat_le (command.lba + command.blocks) (block_total ns)) LBA_OUT_OF_RANGE
    ∷ demand (nat_lt command.destination (block_total ns)) LBA_OUT_OF_RANGE
    ∷ demand (zone_offset ns command.destination == 0) INVALID_FIELD_IN_COMMAND
    ∷ demand (not (source_zone ns command == destination_zone ns command)) SOURCE_IS_DESTINATION
    ∷ demand place_free NO_RUN_FREE
    ∷ demand (nat_le end ns.size) ZONE_BOUNDARY_ERROR
    ∷ read_refusal source.state
    ∷ demand (nat_le end (length source.blocks)) SOURCE_NOT_WRITTEN
    ∷ demand (not (is_destination holds (destination_zone ns command))) ZONE_HELD
    ∷ demand (is_open destination.state) DESTINATION_NOT_OPEN
    ∷ demand (nat_le (length destination.blocks + need command.blocks (sizes_in ns slot)) ns.capacity) DESTINATION_LACKS_ROOM
    ∷ []

-- the status of the first check that fails
abbrev pub run_refusal : ZonedNamespace → Holds → Bool → Option Loaded → RunCommand → List ℕ → Option Status
run_refusal ns holds place_free slot command input = first_failed (admission_checks ns holds place_free slot command input)

-- so many blocks of a zone from one on, as far as they are written
abbrev pub written_from : ZonedNamespace → ℕ → ℕ → ℕ → List (List ℕ)
written_from ns z offset count = take count (drop offset (zone_at ns z).blocks)

-- the blocks that a run reads, as they are when it is admitted
abbrev pub source_blocks : ZonedNamespace → RunCommand → List (List ℕ)
source_blocks ns command = written_from ns (source_zone ns command) (zone_offset ns command.lba) command.blocks

-- what a run is about of this program, of whose groups so many bytes are the most
abbrev pub task_by : ZonedNamespace → List (Option Instruction) → ℕ → RunCommand → Task
task_by ns program limit command =
    record { program = program; sizes = granted_sizes ns limit; argument = command.argument; lba = command.lba; count = command.blocks }

-- what an admitted run is about
abbrev pub task_of : ZonedNamespace → Option Loaded → RunCommand → Task
task_of ns slot command = task_by ns (program_in slot) (limit_in slot) command
