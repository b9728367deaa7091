-- Laws of this crate, proved: all that the proofs of other crates cite of it.
use Rattle.nvme_entry.specs.EntryLaws.{FieldsAreSpelled}
use Rattle.nvme_entry.specs.ReportLaws.{ReportsGiveWhatMatches}
use Rattle.nvme_entry.proofs.Reports as reports
use Rattle.nvme_entry.proofs.Spelled as spelled

pub reports_give_what_matches : ReportsGiveWhatMatches
reports_give_what_matches = reports.reports_give_what_matches

pub fields_are_spelled : FieldsAreSpelled
fields_are_spelled = spelled.fields_are_spelled
