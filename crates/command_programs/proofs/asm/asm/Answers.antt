use Rattle.std.proofs.Common.{rules}
use Rattle.std.proofs.lemmas.Result.{err_from_is_err_and, IfErr-weaker, on_ok_weaker}
use Rattle.command_files.proofs.Proved.{others_kept}
use Rattle.command_programs.specs.MakesProgram.{program_file_of, text_file_of}
use Rattle.command_programs.proofs.Assembling.{fails_none, fails_unread, makes_program}
use Rattle.command_programs.proofs.asm.asm.Goals as goal

pub returns-clause-program : goal.returns-clause-program
returns-clause-program g c =
    makes_program (g.F.Files.contents c.args.files.now) c.required-text_file.result.now c.required.result.now c.in_ok-text.text.items c.as_slice.result.now _ _
    (g.F.Files.made c.args.files.now) (g.F.Files.made c.read.new.files) (g.F.Files.made c.make.new.files)
    c.required-text_file.ensures c.required.ensures c.as_slice.ensures.value (search rules) c.make.result c.in_ok-text.ensures.bytes c.make.ensures.program

pub returns-in_err-text-clause-failed : goal.returns-in_err-text-clause-failed
returns-in_err-text-clause-failed g c =
    let p = err_from_is_err_and c.from_residual.result c.from_residual.ensures.1 in
    rw (p.1, p.2) (fails_unread (g.F.Files.contents c.args.files.now) c.required-text_file.result
    (text_file_of c.args.matches.now) (program_file_of c.args.matches.now) c.required-text_file.ensures c.in_err-text.field-0.0 c.in_err-text.ensures.unread)

pub returns-clause-failed : goal.returns-clause-failed
returns-clause-failed g c =
    IfErr-weaker c.make.result _ _
    (fails_none (g.F.Files.contents c.args.files.now) c.required-text_file.result c.required.result _ _ c.required-text_file.ensures c.required.ensures
    c.in_ok-text.text.items c.as_slice.result.now c.as_slice.ensures.value c.in_ok-text.ensures.bytes) c.make.ensures.failed

pub returns-clause-others : goal.returns-clause-others
returns-clause-others g c =
    on_ok_weaker c.make.result (others_kept c.required.result.now _ _ _ _ c.required.ensures c.read.ensures.contents) c.make.ensures.others
