use Rattle.std.proofs.Common.{◌≡◌, ◌∙◌, Option, ap, subst, sym}
use Rattle.std.specs.Prelude.{IfSome}
use Rattle.ebpf_object.specs.declared.function.Function.{Function}
use Rattle.ebpf_object.specs.Functions.{LiesIn, function_of}
use Rattle.ebpf_object.specs.Sections.{section_at}
use Rattle.ebpf_object.specs.Symbols.{symbol_at}
use Rattle.ebpf_object.proofs.Functions.{functions_lie}
use Rattle.ebpf_object.proofs.parts.function_with.Goals as goal

pub returns-clause-inside : goal.returns-clause-inside
returns-clause-inside c =
    let bytes = c.args.bytes.now in
    let value : c.function_of.result ≡ function_of (symbol_at bytes (section_at bytes c.args.symbols) c.args.number)
    = c.function_of.ensures ∙ ap function_of c.symbol_of.ensures.value in
    subst (λ (o : Option Function). IfSome o (λ f. LiesIn bytes f)) (sym value)
    (functions_lie bytes c.args.symbols c.requires.object.symbols_are c.args.number c.requires.there)
