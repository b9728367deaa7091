use Rattle.std.proofs.Common.{arith}
use Rattle.question_words.proofs.Nearest.{taken}
use Rattle.question_words.proofs.stack.take.Goals as goal

pub returns : goal.returns
returns c =
    let old = c.args.before.now in
    let new = c.pop.new.self in
    taken old.items new.items _ _ c.pop.result (omega (arith, old.ok.0)) (omega (arith, new.ok.0)) c.pop.ensures.items c.pop.ensures.cases
