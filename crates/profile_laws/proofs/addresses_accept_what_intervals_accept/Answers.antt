use Rattle.profile_laws.proofs.AddressesTell.{addresses_tell}
use Rattle.profile_laws.proofs.Acceptance.{accepts}
use Rattle.profile_laws.proofs.addresses_accept_what_intervals_accept.Goals as goal

pub returns : goal.returns
returns c = accepts addresses_tell c.accepted_fails_nowhere.ensures c.judges_without_sums.ensures
