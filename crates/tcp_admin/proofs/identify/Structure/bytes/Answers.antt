use Rattle.tcp_admin.proofs.identify.Structure.bytes.Goals as goal

pub returns-in-ZonedNamespace : goal.returns-in-ZonedNamespace
returns-in-ZonedNamespace c = rw c.in-ZonedNamespace.is c.zoned_namespace.ensures
