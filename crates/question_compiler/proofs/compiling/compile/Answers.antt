use Rattle.std.proofs.Common.{rules}
use Rattle.question_compiler.proofs.Faultless.{no_fault}
use Rattle.question_compiler.proofs.compiling.compile.Goals as goal
use Rattle.question_compiler.specs.Compiled.{IsCompiled}

pub returns-in-Err-clause-failed : goal.returns-in-Err-clause-failed
returns-in-Err-clause-failed c = c.in-Err.ensures.failed c.args.sizes

pub returns-in-Ok-verify-clause-faultless : goal.returns-in-Ok-verify-clause-faultless
returns-in-Ok-verify-clause-faultless c =
    let is : IsCompiled c.args.question.now c.args.sizes c.in-Ok-verify.verified.program = search rules in
    no_fault c.args.question.now c.args.sizes c.in-Ok-verify.verified.program is c.in_ok-fitted.ensures.within
