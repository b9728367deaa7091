use Rattle.std.proofs.Common.{Option, ap, sym, ◌∙◌}
use Rattle.std.specs.Option.{option_copied, option_map}
use Rattle.tcp_connection.specs.declared.waiting.KeptCommand.{KeptCommand}
use Rattle.tcp_connection.proofs.Ready.{found_unasked}
use Rattle.tcp_connection.proofs.waiting.first_unasked.Goals as goal

pub returns-in-Some : goal.returns-in-Some
returns-in-Some c =
    ap (λ o. option_map (λ (it : KeptCommand). it.command) (option_copied o)) (sym c.in-Some.is)
    ∙ ap (λ (o : Option KeptCommand). option_map (λ (it : KeptCommand). it.command) o) c.kept_unasked.ensures
    ∙ found_unasked c.args.receiver.now.expected.transfers c.args.kept.now

pub returns-in-None : goal.returns-in-None
returns-in-None c =
    ap (λ o. option_map (λ (it : KeptCommand). it.command) (option_copied o)) (sym c.in-None.is)
    ∙ ap (λ (o : Option KeptCommand). option_map (λ (it : KeptCommand). it.command) o) c.kept_unasked.ensures
    ∙ found_unasked c.args.receiver.now.expected.transfers c.args.kept.now
