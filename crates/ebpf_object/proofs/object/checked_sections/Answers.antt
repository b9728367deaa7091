use Rattle.std.proofs.Common.{subst}
use Rattle.ebpf_object.specs.declared.header.SectionTable.{SectionTable}
use Rattle.ebpf_object.specs.Faults.{section_fault}
use Rattle.ebpf_object.specs.First.{IsFirst, NoneHas}
use Rattle.ebpf_object.specs.Objects.{symbol_table_at}
use Rattle.ebpf_object.proofs.object.checked_sections.Goals as goal

pub returns-in_default : goal.returns-in_default
returns-in_default c =
    (c.requires.header, subst (λ (t : SectionTable). NoneHas (symbol_table_at c.args.bytes.now) t.count) c.requires.headers.are c.in_default.ensures)

pub returns-in-None : goal.returns-in-None
returns-in-None c =
    let symbols = c.in-Some.symbols in
    record {
      header = c.requires.header;
      is = subst (λ (t : SectionTable). IsFirst (symbol_table_at c.args.bytes.now) t.count symbols symbols) c.requires.headers.are c.in-Some.ensures;
      sections = subst (λ (t : SectionTable). NoneHas (section_fault c.args.bytes.now symbols) t.count) c.requires.headers.are c.in-None.ensures;
    }
