-- What tenants share, by computing the definitions.
use Rattle.std.proofs.Common.{refl}
use Rattle.zone_resources.specs.declared.holds.TheConstants.{RUNS}
use Rattle.nvme_entry.specs.Report.{descriptor, report, report_header}
use Rattle.accepted_programs.proofs.Proved.{none_known}
use Rattle.device_laws.specs.TenantsShare.{TenantsShare}

pub tenants_share : TenantsShare
unfolding report report_header descriptor
tenants_share = record {
  no_runs = (
    λ run place at owned. absurd (none_known RUNS run place at),
    λ run place at owned. absurd (none_known RUNS run place at),
  );
  write_respects = ((refl, refl), tt);
  run_respects = ((refl, refl), tt);
  opened = refl;
  closed = refl;
  would_append = refl;
  cannot_append = refl;
  reported = refl;
  reported_then = refl;
  names_all = refl;
  had = refl;
  lost = refl;
  would_be_first = refl;
  is_second = refl;
}
