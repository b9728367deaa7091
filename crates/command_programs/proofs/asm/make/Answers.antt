use Rattle.std.proofs.lemmas.Result.{IfErr-weaker, on_ok_weaker}
use Rattle.command_files.specs.Made.{HasReplaced}
use Rattle.command_files.proofs.Proved.{unwritten_holds}
use Rattle.command_programs.specs.steps.Told.{MakesNone}
use Rattle.command_programs.proofs.Assembling.{none_of_fault}
use Rattle.command_programs.proofs.asm.make.Goals as goal

pub returns-in-Ok-clause-failed : goal.returns-in-Ok-clause-failed
returns-in-Ok-clause-failed g c =
    IfErr-weaker c.write.result _ _
    (unwritten_holds c.args.program_file (MakesNone c.args.text_file c.args.program_file c.args.text.now) (λ told cause is. is) tt) c.write.ensures.unwritten

pub returns-in-Err-clause-failed : goal.returns-in-Err-clause-failed
returns-in-Err-clause-failed g c = none_of_fault c.args.text_file c.args.program_file c.args.text.now c.in-Err.fault c.refused.result c.refused.ensures c.in-Err.ensures

pub returns-in-Ok-clause-others : goal.returns-in-Ok-clause-others
returns-in-Ok-clause-others g c =
    on_ok_weaker c.write.result (λ (replaced : HasReplaced c.args.program_file.now _ _ _). replaced.others) c.write.ensures.replaced
