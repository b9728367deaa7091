use Rattle.ebpf_object.proofs.Tables.{strings_there, table_inside}
use Rattle.ebpf_object.proofs.parts.symbol_table_of.Goals as goal

pub returns-clause-inside : goal.returns-clause-inside
returns-clause-inside c = rw c.section_at.ensures (table_inside c.args.bytes.now c.args.symbols c.requires.object.symbols_are.sections_are)

pub returns-clause-strings : goal.returns-clause-strings
returns-clause-strings c = rw c.section_at.ensures (strings_there c.args.bytes.now c.args.symbols c.requires.object.symbols_are.sections_are)
