use Rattle.std.proofs.Common.{rules, ◌≡◌, length}
use Rattle.durable_machine.proofs.Unwritten.{as_it_was, room_made}
use Rattle.durable_machine.proofs.batch.Batch.make_room.Goals as goal

pub returns-in_err-resize-clause-same : goal.returns-in_err-resize-clause-same
returns-in_err-resize-clause-same c = as_it_was c.args.self.now _ c.in_err-resize.ensures.items

pub returns-in_ok-resize-clause-same : goal.returns-in_ok-resize-clause-same
returns-in_ok-resize-clause-same c =
    let counted : c.len.result ≡ length c.args.self.now.bytes.items = search rules in
    room_made c.args.self.now _ c.len.result counted c.if-len-lt-SEAL.true (search rules)
