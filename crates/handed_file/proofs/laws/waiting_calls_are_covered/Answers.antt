use Rattle.durable_device.specs.Kept.{IsEither, StandsFor}
use Rattle.handed_file.proofs.Covered.{leaves_in_turn}
use Rattle.handed_file.proofs.laws.waiting_calls_are_covered.Goals as goal

pub returns : goal.returns
returns c = λ before after waits made each last. leaves_in_turn (IsEither before after) (λ f. StandsFor f after) waits made each last
