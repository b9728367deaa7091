use Rattle.std.proofs.Common.{◌≡◌, Some, map, take}
use Rattle.durable_machine.specs.Batches.{bytes_of}
use Rattle.kept_device.specs.Kept.{slot_told}
use Rattle.kept_device.specs.Sections.{slot_in}
use Rattle.durable_device.proofs.sections.program_sections.Given as goal

abbrev pub invariant-loop-kept : goal.invariant-loop-kept
invariant-loop-kept l = map slot_in (bytes_of l.sections.items) ≡ map Some (map slot_told (take l.kept-index l.programs))
