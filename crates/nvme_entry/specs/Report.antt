-- The report of zones that Zone Management Receive gives (ZNS 1.1, 3.4.2).
use Rattle.std.specs.Prelude.{ℕ, Bool, ◌-◌, ◌*◌, ◌/◌, List, ◌++◌, length, take, drop, replicate, if◌then◌else◌}
use Rattle.std.specs.Prelude as prelude
use Rattle.std.specs.List.{enumerate_from, flat_map}
use Rattle.byteorder.specs.Endian.{little_bytes}
use Rattle.common_definitions.specs.Bytes.{padded}
use Rattle.zone_state.specs.Zone.{CountedZone}
use Rattle.nvme_entry.specs.Descriptor.{described, descriptor_bytes}
use Rattle.nvme_entry.specs.Filter.{lists}
use Rattle.nvme_entry.specs.declared.descriptor.TheConstants.{DESCRIPTOR_BYTES}
use Rattle.nvme_entry.specs.declared.filter.ZoneFilter.{ZoneFilter}
use Rattle.nvme_entry.specs.declared.report.TheConstants.{REPORT_HEADER_BYTES}

-- the Zone Descriptor of a zone with this lowest LBA, of 64 bytes
unfoldable pub descriptor : CountedZone → ℕ → List ℕ
descriptor zone lowest = descriptor_bytes (described zone lowest)

-- the descriptor of a zone with its number, where each zone has so many blocks
abbrev pub descriptor_at : ℕ → ℕ × CountedZone → List ℕ
descriptor_at size zone = descriptor zone.1 (zone.0 * size)

-- the header, of 64 bytes: a number of zones and 56 reserved bytes
unfoldable pub report_header : ℕ → List ℕ
report_header number = little_bytes 8 number ++ replicate 56 0

-- those of numbered zones that the filter lists
abbrev pub listed_zones : ZoneFilter → List (ℕ × CountedZone) → List (ℕ × CountedZone)
listed_zones filter zones = prelude.filter (λ (zone : ℕ × CountedZone). lists filter zone.1.state) zones

-- the zones with their numbers, from the first on, that match the filter
abbrev pub matching : List CountedZone → ℕ → ZoneFilter → List (ℕ × CountedZone)
matching zones first filter = listed_zones filter (enumerate_from first (drop first zones))

-- the zones whose descriptors fit whole into so many bytes, in order
abbrev pub fitting : ℕ → List (ℕ × CountedZone) → List (ℕ × CountedZone)
fitting bytes zones = take (bytes / DESCRIPTOR_BYTES) zones

-- so many bytes with the descriptors of these zones, as many as fit whole, and zeros
abbrev pub listed : ℕ → ℕ → List (ℕ × CountedZone) → List ℕ
listed size bytes zones = padded bytes (flat_map (descriptor_at size) (fitting bytes zones))

-- A transfer of so many bytes: the header, and behind it the zones that match. With Partial Report the
-- header's number is that of the descriptors given, else that of all zones that match. A transfer of
-- fewer than 64 bytes is a beginning of the header (profile).
unfoldable pub report : ℕ → List CountedZone → ℕ → ℕ → ZoneFilter → Bool → List ℕ
report bytes zones first size filter partial =
    let found = matching zones first filter in
    let counted = if partial then fitting (bytes - REPORT_HEADER_BYTES) found else found in
    take bytes (report_header (length counted)) ++ listed size (bytes - REPORT_HEADER_BYTES) found
