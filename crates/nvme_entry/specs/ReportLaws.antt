-- Laws of reports, in the words of a host that reads them.
use Rattle.std.specs.Prelude.{ℕ, ◌≡◌, ◌≤◌, ◌<◌, ◌+◌, ◌-◌, ◌*◌, ◌/◌, ◌^◌, min, Bool, List, length, map, take, drop, replicate, if◌then◌else◌}
use Rattle.byteorder.specs.Endian.{little_number}
use Rattle.common_definitions.specs.Bytes.{pieces}
use Rattle.zone_state.specs.Zone.{CountedZone}
use Rattle.nvme_entry.specs.declared.descriptor.TheConstants.{DESCRIPTOR_BYTES}
use Rattle.nvme_entry.specs.declared.filter.ZoneFilter.{ZoneFilter}
use Rattle.nvme_entry.specs.declared.report.TheConstants.{REPORT_HEADER_BYTES}
use Rattle.nvme_entry.specs.Report.{report, matching, descriptor_at}

-- the number of zones that a report tells (ZNS 1.1, 3.4.2)
abbrev pub number_in : List ℕ → ℕ
number_in bytes = little_number 8 bytes

-- the first descriptors of a report, which stand behind its header
abbrev pub descriptors_in : ℕ → List ℕ → List (List ℕ)
descriptors_in count bytes = pieces DESCRIPTOR_BYTES count (drop REPORT_HEADER_BYTES bytes)

-- how many descriptors a report of so many bytes has room for behind its header
abbrev pub descriptor_room : ℕ → ℕ
descriptor_room bytes = (bytes - REPORT_HEADER_BYTES) / DESCRIPTOR_BYTES

-- what bytes tell of zones that match: so many descriptors are given
pub record ReportsZones (bytes : List ℕ) (partial : Bool) (size given : ℕ) (found : List (ℕ × CountedZone)) : Type 0 where
  -- the number of the descriptors given or of all zones that match,
  pub number : number_in bytes ≡ (if partial then given else length found)
  -- the descriptors of the first of these zones, in order and none left out,
  pub descriptors : descriptors_in given bytes ≡ map (descriptor_at size) (take given found)
  -- and zeros behind them
  pub rest : drop (REPORT_HEADER_BYTES + DESCRIPTOR_BYTES * given) bytes ≡ replicate (length bytes - (REPORT_HEADER_BYTES + DESCRIPTOR_BYTES * given)) 0

-- A report has the length of the transfer. Where that has room for the header, it gives the descriptors of the zones that
-- match, as many as fit whole behind it.
abbrev pub ReportsGiveWhatMatches : Type 0
ReportsGiveWhatMatches =
    (bytes : ℕ) (zones : List CountedZone) (first size : ℕ) (filter : ZoneFilter) (partial : Bool)
    → let given = report bytes zones first size filter partial in
    let found = matching zones first filter in
    (length given ≡ bytes)
    × (REPORT_HEADER_BYTES ≤ bytes → length zones < 2 ^ 64 → ReportsZones given partial size (min (descriptor_room bytes) (length found)) found)
