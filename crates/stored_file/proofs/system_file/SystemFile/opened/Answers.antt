use Rattle.std.proofs.Common.{List, subst, sym}
use Rattle.stored_file.specs.File.{LeavesNow}
use Rattle.stored_file.specs.Calls.{Call, told_of}
use Rattle.stored_file.proofs.Opened.{opened_leaves}
use Rattle.stored_file.proofs.system_file.SystemFile.opened.Goals as goal

pub returns-clause-left : goal.returns-clause-left
returns-clause-left g c =
    let left = g.C.FileCalls.left in
    subst (λ (notes : List Call). LeavesNow (told_of left notes) (left (told_of left notes).seen)) (sym c.requires.1.are) (opened_leaves left c.requires.0)
