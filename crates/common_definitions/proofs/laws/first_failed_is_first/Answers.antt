use Rattle.common_definitions.proofs.FirstChecks.{first_failed_is_first}
use Rattle.common_definitions.proofs.laws.first_failed_is_first.Goals as goal

pub returns : goal.returns
returns g c = first_failed_is_first _
