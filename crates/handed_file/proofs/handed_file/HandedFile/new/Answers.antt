use Rattle.std.proofs.Common.{List, subst, sym}
use Rattle.stored_file.specs.File.{LeavesNow}
use Rattle.stored_file.specs.Calls.{Call, told_of}
use Rattle.stored_file.proofs.Opened.{opened_leaves}
use Rattle.durable_device.specs.Kept.{IsRestarted, MayBeLeft}
use Rattle.handed_file.proofs.handed_file.HandedFile.new.Goals as goal

pub returns-clause-restarted : goal.returns-clause-restarted
returns-clause-restarted c =
    subst (λ (notes : List Call). IsRestarted (told_of MayBeLeft notes)) (sym c.opened.ensures) (opened_leaves MayBeLeft c.args.bytes.now)

pub returns-clause-known : goal.returns-clause-known
returns-clause-known c =
    let restarted : IsRestarted (told_of MayBeLeft c.opened.result.calls) =
    subst (λ (notes : List Call). IsRestarted (told_of MayBeLeft notes)) (sym c.opened.ensures) (opened_leaves MayBeLeft c.args.bytes.now) in
    record { left = restarted.left; synced = restarted.synced }
