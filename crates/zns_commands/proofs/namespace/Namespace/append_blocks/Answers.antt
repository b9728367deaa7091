use Rattle.std.proofs.Common.{sym, subst}
use Rattle.image_store.specs.Namespace.{ZonedNamespace, appended, IsWithinLimits}
use Rattle.zns_commands.proofs.OpenZones.{open_within}
use Rattle.zns_commands.proofs.namespace.Namespace.append_blocks.Goals as goal

pub append-requires-clause-limits : goal.append-requires-clause-limits
append-requires-clause-limits c =
    subst (λ (m : ZonedNamespace). IsWithinLimits (appended m c.args.zone c.args.bytes.now)) (sym c.self.view_is)
    (open_within c.args.self.now c.args.zone c.args.bytes.now c.geometry.ensures.sound c.requires.opened)
