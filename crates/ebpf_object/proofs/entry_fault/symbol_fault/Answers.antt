use Rattle.std.proofs.Common.{◌≡◌, ◌∙◌, ap, nat_lt}
use Rattle.ebpf_object.specs.declared.fault.SymbolFault.TheVariants as faults
use Rattle.ebpf_object.specs.declared.symbol.Symbol.{Symbol}
use Rattle.ebpf_object.specs.Faults.{place_fault}
use Rattle.ebpf_object.specs.Sections.{section_at}
use Rattle.ebpf_object.specs.Symbols.{symbol_at}
use Rattle.ebpf_object.proofs.Steps.{above, below}
use Rattle.ebpf_object.proofs.entry_fault.symbol_fault.Goals as goal

pub symbol_at-symbol-requires-clause-inside : goal.symbol_at-symbol-requires-clause-inside
symbol_at-symbol-requires-clause-inside c = c.requires.inside

pub symbol_at-symbol-requires-clause-there : goal.symbol_at-symbol-requires-clause-there
symbol_at-symbol-requires-clause-there c = c.requires.there

pub section_at-requires-clause-headers : goal.section_at-requires-clause-headers
section_at-requires-clause-headers c = c.requires.headers

pub section_at-requires-clause-there : goal.section_at-requires-clause-there
section_at-requires-clause-there c = c.requires.strings

pub returns-then-symbol-section_at : goal.returns-then-symbol-section_at
returns-then-symbol-section_at c =
    let bytes = c.args.bytes.now in
    let of = symbol_at bytes c.args.symbols c.args.number in
    above c.symbol_at-symbol.result of c.section_at.result (section_at bytes c.args.symbols.link) faults.Name (place_fault bytes of of.place)
    c.symbol_at-symbol.ensures c.section_at.ensures c.if-symbol-section_at.true

pub place_fault-requires : goal.place_fault-requires
place_fault-requires c = c.requires.headers

pub returns : goal.returns
returns c =
    let bytes = c.args.bytes.now in
    let of = symbol_at bytes c.args.symbols c.args.number in
    c.place_fault.ensures ∙ ap (λ (s : Symbol). place_fault bytes s s.place) c.symbol_at-symbol.ensures
    ∙ below c.symbol_at-symbol.result of c.section_at.result (section_at bytes c.args.symbols.link) faults.Name (place_fault bytes of of.place)
    c.symbol_at-symbol.ensures c.section_at.ensures c.if-symbol-section_at.false
