use Rattle.image_text.proofs.Versions.{last_version_has_all, version_known}
use Rattle.image_text.proofs.laws.versions_are_known.Goals as goal

pub returns-clause-known : goal.returns-clause-known
returns-clause-known c = version_known

pub returns-clause-all : goal.returns-clause-all
returns-clause-all c = last_version_has_all
