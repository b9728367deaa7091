use Rattle.std.proofs.Common.{List, subst, sym}
use Rattle.stored_file.specs.File.{Follows, Mixed}
use Rattle.stored_file.specs.Calls.{Call, told_of}
use Rattle.stored_file.proofs.Opened.{refused_mixed}
use Rattle.stored_file.proofs.system_file.SystemFileStoredFile.renew.Goals as goal

pub returns-then-self-clause-crash : goal.returns-then-self-clause-crash
returns-then-self-clause-crash g c =
    let left = g.C.FileCalls.left in
    let calls = g.C.FileCalls.notes c.args.self.now.calls in
    subst (λ (notes : List Call). Follows (Mixed c.args.at c.args.bytes.now) (told_of left calls) (told_of left notes)) (sym c.refuse.ensures.noted)
    (refused_mixed left calls c.args.at c.args.bytes.now c.requires.long)
