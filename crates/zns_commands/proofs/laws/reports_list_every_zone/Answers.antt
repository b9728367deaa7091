use Rattle.zns_commands.proofs.ReportedZones.{reports_every_zone, reports_what_matches}
use Rattle.zns_commands.proofs.laws.reports_list_every_zone.Goals as goal

pub returns-clause-matching : goal.returns-clause-matching
returns-clause-matching c = reports_what_matches

pub returns-clause-every : goal.returns-clause-every
returns-clause-every c = reports_every_zone
