use Rattle.std.proofs.Common.{◌≡◌, ◌∙◌, ap, sym}
use Rattle.ebpf_object.specs.declared.symbol.Symbol.{Symbol}
use Rattle.ebpf_object.specs.Sections.{section_at}
use Rattle.ebpf_object.specs.Symbols.{symbol_at}
use Rattle.ebpf_object.proofs.Tables.{section_there}
use Rattle.ebpf_object.proofs.parts.symbol_of.Goals as goal

pub returns-clause-section : goal.returns-clause-section
returns-clause-section c = λ section is.
    let bytes = c.args.bytes.now in
    let table = section_at bytes c.args.symbols in
    let value : c.symbol_at.result ≡ symbol_at bytes table c.args.number = c.symbol_at.ensures ∙ ap (λ t. symbol_at bytes t c.args.number) c.symbol_table_of.ensures.value in
    section_there bytes table c.args.number section (c.requires.object.symbols_are.none c.args.number c.requires.there)
    (ap (λ (s : Symbol). s.place) (sym value) ∙ is)
