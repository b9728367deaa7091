use Rattle.std.proofs.Common.{rules}
use Rattle.std.proofs.lemmas.Result.{err_from_is_err_and}
use Rattle.command_programs.specs.MakesProgram.{program_file_of}
use Rattle.command_programs.proofs.NoPrograms.{disasm_fails}
use Rattle.command_programs.proofs.Texts.{prints_listing}
use Rattle.command_programs.proofs.disasm.disasm.Goals as goal

pub returns-clause-printed : goal.returns-clause-printed
returns-clause-printed g c =
    prints_listing c.print.result c.args.matches.now (g.F.Files.contents c.args.files.now) c.required.result.now c.in_ok-program.program c.is_set.result
    c.as_bytes.result.now (g.O.Write.contents c.args.out.now) (g.O.Write.contents c.print.new.out) c.required.ensures c.is_set.ensures (search rules)
    c.in_ok-program.ensures.spelled c.print.ensures.printed

pub returns-in_err-program-clause-failed : goal.returns-in_err-program-clause-failed
returns-in_err-program-clause-failed g c =
    let p = err_from_is_err_and c.from_residual.result c.from_residual.ensures.1 in
    rw (p.1, p.2) (disasm_fails (g.F.Files.contents c.args.files.now) c.required.result.now (program_file_of c.args.matches.now) c.in_err-program.field-0.0
    c.required.ensures c.in_err-program.ensures.failed)
