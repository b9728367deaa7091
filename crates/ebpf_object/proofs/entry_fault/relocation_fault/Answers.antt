use Rattle.std.proofs.Common.{◌∙◌, Bool, ap, sym}
use Rattle.common_definitions.specs.Checks.{demand, first_failed}
use Rattle.ebpf_object.specs.declared.fault.RelocationFault.TheVariants as faults
use Rattle.ebpf_object.specs.declared.relocation.Relocation.{Relocation}
use Rattle.ebpf_object.specs.Faults.{relocation_checks}
use Rattle.ebpf_object.proofs.Steps.{no_symbol, no_type, of_place}
use Rattle.ebpf_object.proofs.entry_fault.relocation_fault.Goals as goal

pub relocation_at-relocation-requires-clause-inside :
    goal.relocation_at-relocation-requires-clause-inside
relocation_at-relocation-requires-clause-inside c = c.requires.inside

pub relocation_at-relocation-requires-clause-there :
    goal.relocation_at-relocation-requires-clause-there
relocation_at-relocation-requires-clause-there c = c.requires.there

pub returns-then-relocation-symbols : goal.returns-then-relocation-symbols
returns-then-relocation-symbols c =
    no_symbol c.args.bytes.now c.args.symbols c.args.section.info c.relocation_at-relocation.result c.if-relocation-symbols.true
    ∙ ap (λ (r : Relocation). first_failed (relocation_checks c.args.bytes.now c.args.symbols c.args.section.info r)) c.relocation_at-relocation.ensures

pub returns-in_default : goal.returns-in_default
returns-in_default c =
    no_type c.args.bytes.now c.args.symbols c.args.section.info c.relocation_at-relocation.result c.if-relocation-symbols.false c.in_default.is
    ∙ ap (λ (r : Relocation). first_failed (relocation_checks c.args.bytes.now c.args.symbols c.args.section.info r)) c.relocation_at-relocation.ensures

pub section_at-size-requires-clause-headers : goal.section_at-size-requires-clause-headers
section_at-size-requires-clause-headers c = c.requires.headers

pub section_at-size-requires-clause-there : goal.section_at-size-requires-clause-there
section_at-size-requires-clause-there c = c.requires.target

pub returns-then-not-lie_in : goal.returns-then-not-lie_in
returns-then-not-lie_in c =
    ap (λ (b : Bool). demand b faults.Outside) (sym c.if-not-lie_in.true)
    ∙ of_place c.args.bytes.now c.args.symbols c.args.section.info c.relocation_at-relocation.result c.in-Some.kind c.width.result c.section_at-size.result c.lie_in.result
    c.if-relocation-symbols.false c.in-Some.is c.width.ensures.value c.section_at-size.ensures c.lie_in.ensures
    ∙ ap (λ (r : Relocation). first_failed (relocation_checks c.args.bytes.now c.args.symbols c.args.section.info r)) c.relocation_at-relocation.ensures

pub returns : goal.returns
returns c =
    ap (λ (b : Bool). demand b faults.Outside) (sym c.if-not-lie_in.false)
    ∙ of_place c.args.bytes.now c.args.symbols c.args.section.info c.relocation_at-relocation.result c.in-Some.kind c.width.result c.section_at-size.result c.lie_in.result
    c.if-relocation-symbols.false c.in-Some.is c.width.ensures.value c.section_at-size.ensures c.lie_in.ensures
    ∙ ap (λ (r : Relocation). first_failed (relocation_checks c.args.bytes.now c.args.symbols c.args.section.info r)) c.relocation_at-relocation.ensures
