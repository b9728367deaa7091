use Rattle.std.proofs.Common.{rules}
use Rattle.command_programs.proofs.Tracing.{prints_trace}
use Rattle.command_programs.proofs.trace.trace.Goals as goal

pub returns-clause-printed : goal.returns-clause-printed
returns-clause-printed g c =
    prints_trace c.run_asked.result c.args.matches.now (g.F.Files.contents c.args.files.now) (g.F.Files.contents c.program_in_file.new.files)
    c.required.result.now c.required-path.result.now c.in_ok-block.block.items c.as_slice.result.now c.in_ok-program.program _
    c.in_ok-asked.asked.limit c.in_ok-asked.asked.argument c.in_ok-asked.asked.fuel c.in_ok-sizes.sizes c.in_ok-asked.asked.registers
    (g.O.Write.contents c.args.out.now) (g.O.Write.contents c.run_asked.new.out) c.required.ensures c.required-path.ensures
    c.in_ok-program.ensures.contents c.in_ok-program.ensures.spelled c.in_ok-block.ensures.bytes c.as_slice.ensures.value (search rules)
    c.in_ok-sizes.ensures.sizes c.in_ok-asked.ensures.limit c.in_ok-asked.ensures.argument c.in_ok-asked.ensures.fuel
    c.in_ok-asked.ensures.registers c.run_asked.ensures
