use Rattle.std.proofs.Common.{arith, sym, ◌∙◌}
use Rattle.std.proofs.lemmas.List.{take_all, drop_all}
use Rattle.text_lines.proofs.LineLemmas.{lines-cut, lines-last}
use Rattle.text_lines.proofs.PartLemmas.{cut_behind, none_behind}
use Rattle.text_lines.proofs.lines.first_line.Goals as goal

pub returns-in-Some-clause-lines : goal.returns-in-Some-clause-lines
returns-in-Some-clause-lines c = lines-cut c.args.text.now c.in-Some.line.now c.in-Some.behind.now c.without_return.result.now c.in-Some.ensures c.without_return.ensures

pub returns-in-None-clause-lines : goal.returns-in-None-clause-lines
returns-in-None-clause-lines c =
    let text = c.args.text.now in
    lines-last text c.split_at.result.0.now c.split_at.result.1.now c.requires c.in-None.ensures (c.split_at.ensures.front ∙ take_all _ text (omega arith)) (c.split_at.ensures.back ∙ drop_all _ text (omega arith))

pub returns-in-Some-clause-behind : goal.returns-in-Some-clause-behind
returns-in-Some-clause-behind c = cut_behind 10 c.args.text.now c.in-Some.line.now c.in-Some.behind.now (sym c.in-Some.ensures)

pub returns-in-None-clause-behind : goal.returns-in-None-clause-behind
returns-in-None-clause-behind c =
    let text = c.args.text.now in
    c.split_at.ensures.back ∙ drop_all _ text (omega arith) ∙ sym (none_behind 10 text (sym c.in-None.ensures))
