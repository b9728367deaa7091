use Rattle.std.proofs.Common.{rules}
use Rattle.emit_append.specs.Unpacking.{record_bytes}
use Rattle.command_programs.proofs.Texts.{prints_records}
use Rattle.command_programs.proofs.unpack.unpack.Goals as goal

pub returns-clause-printed : goal.returns-clause-printed
returns-clause-printed g c =
    prints_records c.print.result c.args.matches.now (g.F.Files.contents c.args.files.now) c.required-path.result.now c.in_ok-file.file.items
    c.as_slice.result.now c.in_ok-block.block c.in_ok-block_size.field-0 (record_bytes c.in_ok-records.records.items) c.is_set.result c.as_bytes.result.now
    (g.O.Write.contents c.args.out.now) (g.O.Write.contents c.print.new.out) c.required-path.ensures c.as_slice.ensures.value c.in_ok-file.ensures.bytes
    c.in_ok-block.ensures.value (search rules) c.in_ok-records.ensures c.is_set.ensures (search rules) c.print.ensures.printed
