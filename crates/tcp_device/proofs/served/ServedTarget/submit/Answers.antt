use Rattle.std.proofs.Common.{◌≡◌, Some, subst, sym}
use Rattle.std.specs.Option.{option_map}
use Rattle.tcp_connection.specs.Executing.{Execution}
use Rattle.tcp_target.specs.QueueCommands.{given_to_device}
use Rattle.tcp_device.specs.Deeds.{DoesWith, Served}
use Rattle.tcp_device.specs.State.{ServedState}
use Rattle.tcp_device.proofs.Given.{given_ready}
use Rattle.tcp_device.proofs.Submitted.{submitted}
use Rattle.tcp_device.proofs.served.ServedTarget.submit.Goals as goal

pub hand-reply-requires-clause-ready : goal.hand-reply-requires-clause-ready
hand-reply-requires-clause-ready c =
    given_ready c.args.number c.args.entry.now c.self.inside.target.queues
    (subst (λ (s : ServedState). option_map (λ (e : Execution). e.entry) (given_to_device c.args.number s.target.queues) ≡ Some c.args.entry.now)
    (sym c.self.view_is) c.requires.given)

pub returns : goal.returns
returns c =
    let old : ServedState = record { device = c.self.inside.device; target = c.self.inside.target; pending = c.self.inside.pending; next = c.self.inside.next } in
    subst (λ (s : ServedState). DoesWith (Served c.args.number) s
    (record { device = c.hand-reply.new.device; target = c.hand-reply.new.target; pending = c.keep.new.pending; next = c.self.inside.next }) c.hand-reply.result) c.self.view_is
    (submitted c.args.number old c.hand-reply.new.device c.hand-reply.result c.hand-reply.new.target c.keep.new.pending c.given_are_live.ensures
    c.args.entry.now
    (subst (λ (s : ServedState). option_map (λ (e : Execution). e.entry) (given_to_device c.args.number s.target.queues) ≡ Some c.args.entry.now)
    (sym c.self.view_is) c.requires.given)
    c.hand-reply.ensures c.keep.ensures)
