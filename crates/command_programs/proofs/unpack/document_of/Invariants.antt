use Rattle.std.proofs.Common.{◌≡◌, ◌++◌, take}
use Rattle.std.specs.Prelude.{codes}
use Rattle.std.specs.String.{string_bytes}
use Rattle.emit_append.specs.Unpacking.{record_bytes}
use Rattle.command_programs.specs.Printed.{record_objects}
use Rattle.command_programs.proofs.unpack.document_of.Given as goal

abbrev pub invariant-loop-number : goal.invariant-loop-number
invariant-loop-number l = string_bytes l.text ≡ codes "{\"records\":[" ++ record_objects (record_bytes (take l.number l.records))
