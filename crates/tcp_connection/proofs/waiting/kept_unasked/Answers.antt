use Rattle.std.proofs.Common.{rules, tests}
use Rattle.std.proofs.lemmas.Iterator.{YieldsList-from_slice}
use Rattle.std.proofs.lemmas.Iterator.Search.{find_from_yields_List}
use Rattle.tcp_connection.specs.declared.waiting.KeptCommand.{KeptCommand}
use Rattle.tcp_connection.specs.steps.Commands.{is_unasked_entry}
use Rattle.tcp_connection.proofs.waiting.kept_unasked.Goals as goal

pub returns : goal.returns
returns c =
    find_from_yields_List (λ (it : KeptCommand). is_unasked_entry c.args.receiver.now.expected.transfers it.command) _ _ c.find.result c.find.ensures.ran
    (YieldsList-from_slice c.args.kept.now cc) (λ x b q k. search (rules, tests))
