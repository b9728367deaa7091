-- That reports list every zone.
use Rattle.std.proofs.Common.{◌≡◌, ℕ, zero, suc, ◌+◌, ◌-◌, ◌*◌, ◌/◌, ◌<◌, ◌≤◌, min, Bool, true, false, List, [], ◌∷◌, ◌++◌, length, take, drop, Option, None, refl, ap, sym, subst, ◌∙◌, arith, ⊎_elim}
use Rattle.std.specs.Prelude.{nat_le, nat_lt, map}
use Rattle.std.specs.List.{enumerate_from}
use Rattle.std.proofs.lemmas.Bool.{cases_lt, le-leb, le-ltb, lt-ltb}
use Rattle.std.proofs.lemmas.List.{drop_all, drop-drop, drop-map, length-drop, length-map, take-append-drop, take-map}
use Rattle.std.proofs.lemmas.List.FromFn.{length-enumerate_from}
use Rattle.std.proofs.Math.Nat.{mul-le-mul_right, suc-mul}
use Rattle.zone_state.specs.Zone.{CountedZone}
use Rattle.zone_state.specs.declared.status.Status.{Status}
use Rattle.zone_state.specs.declared.status.TheConstants.Status.{SUCCESS, INVALID_FIELD_IN_COMMAND, LBA_OUT_OF_RANGE}
use Rattle.zone_resources.specs.declared.holds.Holds.{Holds}
use Rattle.nvme_entry.specs.declared.command.StandardCommand.TheVariants.{Receive}
use Rattle.nvme_entry.specs.declared.command.TheConstants.{MOST_TRANSFER}
use Rattle.nvme_entry.specs.declared.report.TheConstants.{REPORT_HEADER_BYTES}
use Rattle.nvme_entry.specs.declared.filter.ZoneFilter.TheVariants as filters
use Rattle.common_definitions.specs.Checks.{demand, first_failed}
use Rattle.common_definitions.proofs.Proved.{met, no_fault_where_none_fails}
use Rattle.nvme_entry.specs.ReportLaws.{ReportsZones, number_in, descriptors_in, descriptor_room}
use Rattle.nvme_entry.specs.Report.{report, descriptor_at, matching, listed_zones}
use Rattle.image_store.specs.Namespace.{ZonedNamespace, counted, counted_zones, IsNamespace}
use Rattle.zns_commands.specs.Address.{block_total, zone_number}
use Rattle.zns_commands.specs.Effect.{Effect, success_effect, concluded}
use Rattle.zns_commands.specs.Meaning.{meaning}
use Rattle.zns_commands.specs.Receive.{receive_checks, receive_effect}
use Rattle.zns_commands.specs.Laws.{ReportsEveryZone, ReportsWhatMatches, all_descriptors, listed_by}
use Rattle.nvme_entry.proofs.Proved.{reports_give_what_matches}
use Rattle.zns_commands.proofs.PassedChecks.{lowest_of}

pub reports_what_matches : ReportsWhatMatches
reports_what_matches ns holds lba dwords filter partial sound inside room most =
    let zones = counted_zones ns in
    let first = zone_number ns lba in
    let found = matching zones first filter in
    let count : length zones ≡ length ns.zones = length-map ns.zones (counted ns.capacity) in
    let none : first_failed (receive_checks ns lba dwords []) ≡ None =
    (no_fault_where_none_fails Status (receive_checks ns lba dwords [])).1
    (met _ _ (le-leb _ _ most), (refl, (met _ _ (lt-ltb _ _ inside), tt))) in
    let given = report (4 * dwords) zones first ns.size filter partial in
    let is : meaning ns holds (Receive lba dwords filter partial) [] ≡ success_effect ns 0 given =
    ap (λ (refusal : Option Status). concluded refusal ns (receive_effect ns lba dwords filter partial)) none in
    let tells = (reports_give_what_matches (4 * dwords) zones first ns.size filter partial).1 room (omega (arith, count, sound.shape.zones_most)) in
    subst (λ (done : Effect). (done.status ≡ SUCCESS)
    × ReportsZones done.output partial ns.size (min (descriptor_room (4 * dwords)) (length found)) found)
    (sym is) (refl, tells)

-- all zones match that filter
all_are_listed : (zones : List (ℕ × CountedZone)) → listed_zones filters.All zones ≡ zones
all_are_listed [] = refl
all_are_listed (zone ∷ zones) = ap (λ (zs : List (ℕ × CountedZone)). zone ∷ zs) (all_are_listed zones)

-- later elements keep their numbers
numbered_on : {X : Type 0} (n k : ℕ) (xs : List X) → enumerate_from (n + k) (drop k xs) ≡ drop k (enumerate_from n xs)
numbered_on n zero xs = ap (λ (m : ℕ). enumerate_from m xs) (omega arith)
numbered_on n (suc k) [] = refl
numbered_on n (suc k) (x ∷ xs) =
    let next : n + suc k ≡ n + 1 + k = omega arith in
    ap (λ (m : ℕ). enumerate_from m (drop k xs)) next ∙ numbered_on (n + 1) k xs

-- what is refused gives nothing
nothing_given : (a b : Bool) (s t : Status) (ns : ZonedNamespace) (effect : Effect) → b ≡ false
    → (concluded (first_failed (demand a s ∷ None ∷ demand b t ∷ [])) ns effect).output ≡ []
nothing_given true b s t ns effect eb = rw eb refl
nothing_given false b s t ns effect eb = refl

-- a partial report of all zones from this zone on
abbrev reported : ZonedNamespace → Holds → ℕ → ℕ → List ℕ
reported ns holds dwords z = (meaning ns holds (Receive (z * ns.size) dwords filters.All true) []).output

-- what a report gives of all zones from this one on, if there are any
record ListsOn (ns : ZonedNamespace) (dwords z : ℕ) (bytes : List ℕ) : Type 0 where
  number : number_in bytes ≡ min (descriptor_room (4 * dwords)) (length ns.zones - z)
  given : descriptors_in (number_in bytes) bytes ≡ take (number_in bytes) (drop z (all_descriptors ns))

-- where there are some,
lists_some : (ns : ZonedNamespace) (holds : Holds) (dwords z : ℕ) → IsNamespace ns → REPORT_HEADER_BYTES ≤ 4 * dwords → 4 * dwords ≤ MOST_TRANSFER
    → z < length ns.zones → ListsOn ns dwords z (reported ns holds dwords z)
lists_some ns holds dwords z sound room most inside =
    let size = ns.size in
    let zones = counted_zones ns in
    let all = enumerate_from 0 zones in
    let lowest = lowest_of ns z sound inside in
    let tells = (reports_what_matches ns holds (z * size) dwords filters.All true sound lowest.inside room most).1 in
    let bytes = reported ns holds dwords z in
    let found = matching zones (zone_number ns (z * size)) filters.All in
    let from_zero : 0 + z ≡ z = omega arith in
    let is_found : found ≡ drop z all =
    ap (λ (k : ℕ). matching zones k filters.All) lowest.named
    ∙ (all_are_listed (enumerate_from z (drop z zones))
    ∙ (ap (λ (k : ℕ). enumerate_from k (drop z zones)) (sym from_zero) ∙ numbered_on 0 z zones)) in
    let count : length zones ≡ length ns.zones = length-map ns.zones (counted ns.capacity) in
    let long : length found ≡ length ns.zones - z =
    ap (λ (xs : List (ℕ × CountedZone)). length xs) is_found ∙ omega (arith, length-drop z all, length-enumerate_from 0 zones, count) in
    let n = min (descriptor_room (4 * dwords)) (length found) in
    let number : number_in bytes ≡ n = tells.number in
    record {
      number = number ∙ ap (λ (k : ℕ). min (descriptor_room (4 * dwords)) k) long;
      given =
          ap (λ (k : ℕ). descriptors_in k bytes) number
          ∙ (tells.descriptors
          ∙ (ap (λ (xs : List (ℕ × CountedZone)). map (descriptor_at size) (take n xs)) is_found
          ∙ (sym (take-map (descriptor_at size) n (drop z all))
          ∙ (ap (λ (xs : List (List ℕ)). take n xs) (sym (drop-map (descriptor_at size) z all))
          ∙ ap (λ (k : ℕ). take k (drop z (all_descriptors ns))) (sym number)))));
    }

-- and where there are none
lists_none : (ns : ZonedNamespace) (holds : Holds) (dwords z : ℕ) → length ns.zones ≤ z → ListsOn ns dwords z (reported ns holds dwords z)
lists_none ns holds dwords z past =
    let product : length ns.zones * ns.size ≤ z * ns.size = mul-le-mul_right ns.size past in
    let refused : reported ns holds dwords z ≡ [] =
    nothing_given (nat_le (4 * dwords) MOST_TRANSFER) (nat_lt (z * ns.size) (block_total ns)) INVALID_FIELD_IN_COMMAND LBA_OUT_OF_RANGE
    ns (receive_effect ns (z * ns.size) dwords filters.All true) (le-ltb (z * ns.size) (block_total ns) product) in
    let nothing : ListsOn ns dwords z [] = record { number = omega arith; given = refl } in
    subst (ListsOn ns dwords z) (sym refused) nothing

module _ (ns : ZonedNamespace) (holds : Holds) (dwords room : ℕ) (sound : IsNamespace ns) (header : REPORT_HEADER_BYTES ≤ 4 * dwords)
    (wide : room ≤ descriptor_room (4 * dwords)) (most : 4 * dwords ≤ MOST_TRANSFER) where
  lists_on : (z : ℕ) → ListsOn ns dwords z (reported ns holds dwords z)
  lists_on z =
      ⊎_elim (λ inside. lists_some ns holds dwords z sound header most inside) (λ past. lists_none ns holds dwords z past)
      (cases_lt z (length ns.zones))

  -- reports from any zone on list the zones from it on, where they have room for them
  rest_is_listed : (reports z : ℕ) → z ≤ length ns.zones → length ns.zones ≤ z + reports * room
      → listed_by ns holds dwords reports z ≡ drop z (all_descriptors ns)
  rest_is_listed zero z inside enough =
      let long : length (all_descriptors ns) ≤ z =
      omega (
        arith,
        length-map (enumerate_from 0 (counted_zones ns)) (descriptor_at ns.size),
        length-enumerate_from 0 (counted_zones ns),
        length-map ns.zones (counted ns.capacity),
        enough,
      ) in
      sym (drop_all z (all_descriptors ns) long)
  rest_is_listed (suc reports) z inside enough =
      let lists = lists_on z in
      let k = number_in (reported ns holds dwords z) in
      let all = all_descriptors ns in
      let later_inside : z + k ≤ length ns.zones = omega (arith, lists.number, inside) in
      let later_enough : length ns.zones ≤ z + k + reports * room = omega (arith, lists.number, wide, enough, suc-mul reports room) in
      let rest = rest_is_listed reports (z + k) later_inside later_enough in
      ap (λ (xs : List (List ℕ)). xs ++ listed_by ns holds dwords reports (z + k)) lists.given
      ∙ (ap (λ (xs : List (List ℕ)). take k (drop z all) ++ xs) (rest ∙ sym (drop-drop k z all))
      ∙ take-append-drop k (drop z all))

-- what has room for descriptors has room for the header
has_header : (bytes zones reports : ℕ) → 1 ≤ zones → zones ≤ reports * descriptor_room bytes → REPORT_HEADER_BYTES ≤ bytes
has_header bytes zones reports some enough =
    ⊎_elim (λ less.
    let short : bytes - 64 ≡ 0 = omega (arith, less) in
    let nothing : reports * descriptor_room bytes ≡ 0 = ap (λ (n : ℕ). reports * (n / 64)) short ∙ omega arith in
    absurd (omega (arith, some, enough, nothing))) (λ fits. fits)
    (cases_lt bytes REPORT_HEADER_BYTES)

pub reports_every_zone : ReportsEveryZone
reports_every_zone ns holds dwords reports sound most enough =
    let room = descriptor_room (4 * dwords) in
    let header = has_header (4 * dwords) (length ns.zones) reports sound.shape.zones_some enough in
    rest_is_listed ns holds dwords room sound header (omega arith) most reports 0 (omega arith) (omega (arith, enough))
