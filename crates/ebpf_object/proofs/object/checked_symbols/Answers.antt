use Rattle.std.proofs.Common.{subst}
use Rattle.ebpf_object.specs.declared.section.Section.{Section}
use Rattle.ebpf_object.specs.Faults.{symbol_fault}
use Rattle.ebpf_object.specs.First.{NoneHas}
use Rattle.ebpf_object.specs.Symbols.{symbol_count}
use Rattle.ebpf_object.proofs.Tables.{strings_there, table_inside}
use Rattle.ebpf_object.proofs.object.checked_symbols.Goals as goal

pub faulty_symbol-requires-clause-inside : goal.faulty_symbol-requires-clause-inside
faulty_symbol-requires-clause-inside c = rw c.section_at.ensures (table_inside c.args.bytes.now c.args.symbols c.requires.sections)

pub faulty_symbol-requires-clause-strings : goal.faulty_symbol-requires-clause-strings
faulty_symbol-requires-clause-strings c =
    rw (c.section_at.ensures, c.requires.headers.are) (strings_there c.args.bytes.now c.args.symbols c.requires.sections)

pub returns-in-None : goal.returns-in-None
returns-in-None c = record {
  sections_are = c.requires.sections;
  none = subst (λ (s : Section). NoneHas (symbol_fault c.args.bytes.now s) (symbol_count s)) c.section_at.ensures c.in-None.ensures;
}
