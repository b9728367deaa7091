use Rattle.std.proofs.Common.{◌==◌, List, ap, sym, ◌∙◌}
use Rattle.std.specs.List.{list_any}
use Rattle.tcp_pdus.specs.Direction.{identifier_of}
use Rattle.tcp_connection.specs.declared.waiting.KeptCommand.{KeptCommand}
use Rattle.tcp_connection.specs.Commands.{WaitingCommand}
use Rattle.tcp_connection.proofs.Held.{any_waiting}
use Rattle.tcp_connection.proofs.waiting.Waiting.has.Goals as goal

pub returns : goal.returns
returns c =
    c.is_kept.ensures
    ∙ ap (λ (ws : List KeptCommand). list_any (λ it. identifier_of it.command.entry == c.args.command) ws) c.as_slice.ensures.value
    ∙ sym (any_waiting c.args.command c.self.inside.kept.items)
    ∙ ap (λ (ws : List WaitingCommand). list_any (λ w. identifier_of w.entry == c.args.command) ws) c.self.view_is
