use Rattle.std.proofs.Common.{rules}
use Rattle.command_files.specs.Profile.{operations_of}
use Rattle.command_programs.proofs.Verdicts.{says_accepted, says_refused}
use Rattle.command_programs.proofs.verify.say.Goals as goal

pub returns-in_ok-text-in-Accepted-clause-accepted : goal.returns-in_ok-text-in-Accepted-clause-accepted
returns-in_ok-text-in-Accepted-clause-accepted g c =
    says_accepted (operations_of c.args.asked.profile) c.args.program.now c.args.sizes c.args.asked.form
    c.instruction_count-instructions.result c.as_str.result.now
    c.as_bytes.result.now (g.O.Write.contents c.args.out.now) (g.O.Write.contents c.print.new.out) c.instruction_count-instructions.ensures.value
    c.print.result c.in-Accepted.most_emitted (search rules) (search rules) (search rules) c.print.ensures.printed

pub returns-in_ok-print-in-Refused-clause-refused : goal.returns-in_ok-print-in-Refused-clause-refused
returns-in_ok-print-in-Refused-clause-refused g c = λ is.
    says_refused (operations_of c.args.asked.profile) c.args.program.now c.args.sizes c.args.asked.form c.instruction_count-instructions.result
    c.as_str-in-Refused.result.now c.as_bytes-in-Refused.result.now (g.O.Write.contents c.args.out.now) (g.O.Write.contents c.print-in-Refused.new.out)
    c.instruction_count-instructions.ensures.value c.in-Refused.refusal (search rules) (search rules) c.in_ok-print-in-Refused.ensures.printed
