use Rattle.std.proofs.Common.{take}
use Rattle.std.specs.Io.KnownBytes.{Appends}
use Rattle.command_images.specs.Zones.{zone_lines_from}
use Rattle.command_images.proofs.zones.print.Given as goal

abbrev pub invariant-loop-number : goal.invariant-loop-number
invariant-loop-number g l = Appends (g.O.Write.contents l.fn.out) (g.O.Write.contents l.out) (zone_lines_from 0 (take l.number l.zones))
