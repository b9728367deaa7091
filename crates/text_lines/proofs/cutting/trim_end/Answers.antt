use Rattle.std.proofs.Common.{◌∙◌, sym}
use Rattle.text_lines.proofs.Blanks.{blank_last, other_last}
use Rattle.text_lines.proofs.cutting.trim_end.Goals as goal

pub loop-inside-preserved : goal.loop-inside-preserved
loop-inside-preserved c = blank_last c.loop-inside.inside.now c.in-len1-up.len_at_least (sym c.is_blank.ensures ∙ c.if-not-is_blank.false) ∙ c.loop-inside.invariant

pub returns-then-not-is_blank : goal.returns-then-not-is_blank
returns-then-not-is_blank c = other_last c.loop-inside.inside.now c.in-len1-up.len_at_least (sym c.is_blank.ensures ∙ c.if-not-is_blank.true) ∙ c.loop-inside.invariant
