use Rattle.std.proofs.Common.{[], refl, subst, ap, ◌∙◌}
use Rattle.std.specs.List.{slice_get}
use Rattle.std.specs.Option.{unwrap_or}
use Rattle.std.specs.Str.Lines.{lines}
use Rattle.text_lines.specs.Cut.{trimmed}
use Rattle.text_lines.specs.Excerpt.{IsExcerptOf}
use Rattle.ebpf_asm.proofs.Refusals.{bytes_or}
use Rattle.ebpf_asm.proofs.refusal.AssemblyRefusal.of.Goals as goal

pub returns : goal.returns
returns c =
    let found = c.line_behind.ensures ∙ ap (slice_get (lines c.args.text.now)) c.saturating_sub.ensures in
    let line = ap (λ bytes. bytes.now) c.unwrap_or-line.ensures ∙ bytes_or c.line_behind.result _ ∙ ap (λ bytes. unwrap_or bytes []) found in
    record { fault_told = refl; line_told = subst (λ shown. IsExcerptOf shown c.of.result) (c.trim.ensures ∙ ap trimmed line) c.of.ensures }
