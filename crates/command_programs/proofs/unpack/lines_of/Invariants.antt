use Rattle.std.proofs.Common.{◌≡◌, take}
use Rattle.std.specs.String.{string_bytes}
use Rattle.emit_append.specs.Unpacking.{record_bytes}
use Rattle.command_programs.specs.Printed.{record_lines}
use Rattle.command_programs.proofs.unpack.lines_of.Given as goal

abbrev pub invariant-loop-record : goal.invariant-loop-record
invariant-loop-record l = string_bytes l.text ≡ record_lines (record_bytes (take l.record-index l.records))
