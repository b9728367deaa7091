use Rattle.std.proofs.Common.{subst}
use Rattle.ebpf_object.specs.declared.header.SectionTable.{SectionTable}
use Rattle.ebpf_object.specs.Objects.{NoRelocationHas}
use Rattle.ebpf_object.proofs.object.checked_relocations.Goals as goal

pub returns-in-None : goal.returns-in-None
returns-in-None c = record {
  symbols_are = c.requires.symbols_are;
  relocations = subst (λ (t : SectionTable). NoRelocationHas c.args.bytes.now c.args.symbols t.count) c.requires.headers.are c.in-None.ensures;
}
