use Rattle.std.proofs.Common.{◌≡◌, Some, map, take}
use Rattle.durable_machine.specs.Batches.{bytes_of}
use Rattle.kept_device.specs.Kept.{place_told}
use Rattle.kept_device.specs.Sections.{place_in}
use Rattle.durable_device.proofs.sections.runs_in.Given as goal

abbrev pub invariant-loop-section : goal.invariant-loop-section
invariant-loop-section l = map place_in (bytes_of (take l.section-index l.sections)) ≡ map Some (map place_told l.runs.items)
