use Rattle.std.proofs.Common.{◌≡◌, Some, max}
use Rattle.std.specs.List.{reduce}
use Rattle.command_entry.specs.Identifiers.{identifiers}
use Rattle.command_entry.proofs.Highest.{behind_last}
use Rattle.command_entry.proofs.identifiers.next_identifier.Goals as goal

pub returns-in-Some-eq65535-clause-next : goal.returns-in-Some-eq65535-clause-next
returns-in-Some-eq65535-clause-next c =
    let highest : reduce max (identifiers c.args.queue c.args.events.now) ≡ Some 65535 = cc in
    behind_last (identifiers c.args.queue c.args.events.now) c.lowest_free.result highest c.lowest_free.ensures.free c.lowest_free.ensures.lowest c.lowest_free.ensures.none
