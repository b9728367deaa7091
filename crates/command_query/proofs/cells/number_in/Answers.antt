use Rattle.std.proofs.Common.{◌≡◌, ◌+◌, ◌-◌, ◌≤◌, length, FitsSigned, arith, rules}
use Rattle.std.specs.Int.{w128}
use Rattle.instruction_set.specs.Instruction.{size_of}
use Rattle.command_query.proofs.Cut.{value_in}
use Rattle.command_query.proofs.cells.number_in.Goals as goal

pub returns-clause-value : goal.returns-clause-value
returns-clause-value c =
    let fits : FitsSigned w128 c.spelled.result = search rules in
    let first : c.from-first.result ≡ c.args.field.offset - c.args.from = omega arith in
    let lies : c.from-first.result + size_of c.args.field.size ≤ length c.args.bytes.now = omega arith in
    value_in c.args.from c.from-first.result c.args.field c.args.bytes.now c.spelled.result fits c.if-field-from.false first lies c.spelled.ensures
