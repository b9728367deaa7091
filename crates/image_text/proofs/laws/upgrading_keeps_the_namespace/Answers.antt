use Rattle.image_text.proofs.Upgrades.{upgraded_is_same, twice_is_once}
use Rattle.image_text.proofs.laws.upgrading_keeps_the_namespace.Goals as goal

pub returns-clause-same : goal.returns-clause-same
returns-clause-same c = upgraded_is_same

pub returns-clause-once : goal.returns-clause-once
returns-clause-once c = twice_is_once
