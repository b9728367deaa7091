-- A run before its first turn, and what active runs hold.
use Rattle.std.specs.Prelude.{ℕ, List, map, option_map, Option}
use Rattle.nvme_entry.specs.declared.command.RunCommand.{RunCommand}
use Rattle.emit_append.specs.Packer.{new_packer}
use Rattle.image_store.specs.declared.geometry.ZoneBlock.{ZoneBlock}
use Rattle.device_meaning.specs.BlockRuns.{no_scratch}
use Rattle.zone_resources.specs.declared.holds.Holds.{Holds}
use Rattle.runner.specs.declared.active_run.ActiveRun.{ActiveRun}

-- a run before its first turn
abbrev pub new_active : ℕ → ℕ → RunCommand → ZoneBlock → ℕ → ℕ → ActiveRun
new_active queue cid command source destination block = record {
  queue = queue;
  cid = cid;
  command = command;
  source = source;
  destination = destination;
  index = 0;
  scratch = no_scratch;
  packer = new_packer block;
  frames = 0;
  appended = 0;
}

-- the zone that a place's run reads from
abbrev pub source_held : Option ActiveRun → Option ℕ
source_held = option_map (λ a. a.source.zone)

-- the zone that a place's run appends to
abbrev pub destination_held : Option ActiveRun → Option ℕ
destination_held = option_map (λ a. a.destination)

-- the zones that the active runs hold
abbrev pub held_by : List (Option ActiveRun) → Holds
held_by runs = record { sources = map source_held runs; destinations = map destination_held runs }
