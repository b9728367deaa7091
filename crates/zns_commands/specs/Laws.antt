-- Laws of commands and faults.
use Rattle.std.specs.Prelude.{ℕ, zero, suc, ◌≡◌, ◌≢◌, ◌<◌, ◌≤◌, ◌+◌, ◌*◌, ◌^◌, min, Bool, true, false, List, [], ◌∷◌, ◌++◌, length, map, get_or, take, drop, replicate, Option, All, ◌⊎◌}
use Rattle.std.specs.List.{enumerate_from, fold}
use Rattle.zone_state.specs.declared.state.FaultState.{FaultState}
use Rattle.zone_state.specs.declared.status.Status.{Status}
use Rattle.zone_state.specs.declared.status.StatusType.TheVariants.{VendorSpecific}
use Rattle.zone_state.specs.declared.status.TheConstants.Status.{SUCCESS, ZONE_HELD}
use Rattle.zone_resources.specs.Holds.{no_holds}
use Rattle.zone_resources.specs.declared.holds.Holds.{Holds}
use Rattle.nvme_entry.specs.declared.command.StandardCommand.{StandardCommand}
use Rattle.nvme_entry.specs.declared.command.StandardCommand.TheVariants.{Write, Read, Receive, Append}
use Rattle.nvme_entry.specs.declared.command.TheConstants.{MOST_TRANSFER}
use Rattle.nvme_entry.specs.declared.report.TheConstants.{REPORT_HEADER_BYTES}
use Rattle.nvme_entry.specs.declared.filter.ZoneFilter.{ZoneFilter}
use Rattle.nvme_entry.specs.declared.filter.ZoneFilter.TheVariants as filters
use Rattle.nvme_entry.specs.ReportLaws.{ReportsZones, number_in, descriptors_in, descriptor_room}
use Rattle.nvme_entry.specs.Report.{descriptor_at, matching}
use Rattle.common_definitions.specs.Bytes.{AreBytes}
use Rattle.image_store.specs.Blocks.{block_count}
use Rattle.image_store.specs.Geometry.{Shape, IsShape}
use Rattle.image_store.specs.Namespace.{ZonedNamespace, zone_at, appended, block_at, IsNamespace, all_empty, counted_zones}
use Rattle.common_definitions.specs.FirstCheck.{FailsFirst, NoneFails}
use Rattle.zone_state.specs.State.{is_cleared}
use Rattle.zns_commands.specs.Address.{block_total, zone_number, zone_offset}
use Rattle.zns_commands.specs.Change.{CanBeAsked}
use Rattle.zns_commands.specs.Effect.{Effect, success_effect, refused_effect}
use Rattle.zns_commands.specs.Append.{TakesBlocks}
use Rattle.zns_commands.specs.Fault.{faulted}
use Rattle.zns_commands.specs.Meaning.{change_of, checks_of, effect_of, meaning}

-- an event that happens to a namespace, under the holds of the active runs: a command with the data beside
-- its entry, or a fault of a zone
pub data NamespaceEvent : Type 0 where
  Commanded : (holds : Holds) (command : StandardCommand) (input : List ℕ) → NamespaceEvent
  Faulted : (holds : Holds) (zone : ℕ) (fault : FaultState) → NamespaceEvent

-- the namespace after an event
abbrev pub after : NamespaceEvent → ZonedNamespace → ZonedNamespace
after (Commanded holds command input) ns = (meaning ns holds command input).namespace
after (Faulted holds zone fault) ns = faulted ns holds zone fault

-- the namespace after one event after another
abbrev pub after_events : List NamespaceEvent → ZonedNamespace → ZonedNamespace
after_events events ns = fold (λ before event. after event before) ns events

-- what an entry and the bytes beside it can spell: a command that writes at least one block, and bytes
abbrev pub IsSpelled : NamespaceEvent → Type 0
IsSpelled (Commanded holds command input) = CanBeAsked (change_of command) input
IsSpelled (Faulted holds zone fault) = Unit {0}

-- a namespace stays one, its open and active zones within the limits, whatever commands that entries can spell, and
-- whatever faults, come (ZNS 1.1, 2.1.1)
abbrev pub EventsKeepNamespacesSound : Type 0
EventsKeepNamespacesSound =
    (events : List NamespaceEvent) (ns : ZonedNamespace) → IsNamespace ns → All IsSpelled events
    → IsNamespace (after_events events ns)

-- and so it does where blocks of bytes are put into an open zone that has room for them,
abbrev pub AddedBlocksKeepNamespacesSound : Type 0
AddedBlocksKeepNamespacesSound =
    (ns : ZonedNamespace) (z : ℕ) (bytes : List ℕ) → IsNamespace ns → TakesBlocks ns z bytes → AreBytes bytes
    → IsNamespace (appended ns z bytes)

-- as by an Append of them to that zone that meets no hold: it is not refused, where they are no more than a
-- transfer may be, and this is what it leaves
abbrev pub AddedBlocksAreAppended : Type 0
AddedBlocksAreAppended =
    (ns : ZonedNamespace) (z : ℕ) (bytes : List ℕ) → IsNamespace ns → TakesBlocks ns z bytes → length bytes ≤ MOST_TRANSFER
    → let done = meaning ns no_holds (Append (z * ns.size) (block_count ns.block bytes)) bytes in
    (done.status ≡ SUCCESS) × (appended ns z bytes ≡ done.namespace)

-- one of which nothing is written is a namespace
abbrev pub EmptyIsNamespace : Type 0
EmptyIsNamespace = (s : Shape) → IsShape s → IsNamespace (all_empty s)

-- the cases of a command: no check fails and it takes effect, or one fails, before which none does,
-- and it is refused with that one's status
pub data IsCase (ns : ZonedNamespace) (checks : List (Option Status)) (effect done : Effect) : Type 0 where
  TakesEffect : NoneFails checks → done ≡ effect → IsCase ns checks effect done
  IsRefused : (status : Status) → FailsFirst checks status → done ≡ refused_effect ns status → IsCase ns checks effect done

-- the meaning of a command is one of its cases, and there is no other effect in any of them
abbrev pub JustOneCase : Type 0
JustOneCase =
    (ns : ZonedNamespace) (holds : Holds) (command : StandardCommand) (input : List ℕ)
    → IsCase ns (checks_of ns holds command input) (effect_of ns holds command input) (meaning ns holds command input)
    × ((done : Effect) → IsCase ns (checks_of ns holds command input) (effect_of ns holds command input) done
    → done ≡ meaning ns holds command input)

-- an effect that leaves the namespace as it was, and gives nothing
pub record ChangesNothing (ns : ZonedNamespace) (done : Effect) : Type 0 where
  pub namespace : done.namespace ≡ ns
  pub dw0 : done.dw0 ≡ 0
  pub dw1 : done.dw1 ≡ 0
  pub output : done.output ≡ []

-- a command whose status isn't success leaves the namespace as it was, and gives nothing
abbrev pub RefusedCommandsChangeNothing : Type 0
RefusedCommandsChangeNothing =
    (ns : ZonedNamespace) (holds : Holds) (command : StandardCommand) (input : List ℕ)
    → (meaning ns holds command input).status ≢ SUCCESS
    → ChangesNothing ns (meaning ns holds command input)

-- a status of the standards, or Zone Held, which is profile; its code has 8 bits (NVMe Base 2.0, 3.3.3.2)
pub record IsStandardStatus (status : Status) : Type 0 where
  pub code : status.code < 2 ^ 8
  pub standard : (status.kind ≢ VendorSpecific) ⊎ (status ≡ ZONE_HELD)

-- a command of the standards ends with such a status
abbrev pub StatusesAreStandard : Type 0
StatusesAreStandard =
    (ns : ZonedNamespace) (holds : Holds) (command : StandardCommand) (input : List ℕ)
    → IsStandardStatus (meaning ns holds command input).status

-- after none of the events is the zone cleared
abbrev pub NoneClears : ℕ → List NamespaceEvent → ZonedNamespace → Type 0
NoneClears z [] ns = Unit {0}
NoneClears z (event ∷ events) ns = (is_cleared (zone_at (after event ns) z).state ≡ false) × NoneClears z events (after event ns)

-- these bytes are read, under any holds, of so many blocks from an address on
abbrev pub AreRead : ZonedNamespace → ℕ → ℕ → List ℕ → Type 0
AreRead ns lba blocks bytes = (holds : Holds) → meaning ns holds (Read lba blocks) [] ≡ success_effect ns 0 bytes

-- a block of a zone, by its offset; zeros, where it isn't written (profile)
abbrev pub block_or_zeros : ZonedNamespace → ℕ → ℕ → List ℕ
block_or_zeros ns z offset = get_or (zone_at ns z).blocks offset (replicate ns.block 0)

-- of what a Read that succeeds gives, each block is the zone's block of that offset where it is written, and zeros
-- where it isn't
abbrev pub EachBlockIsRead : Type 0
EachBlockIsRead =
    (ns : ZonedNamespace) (holds : Holds) (lba blocks : ℕ) (input : List ℕ) (i : ℕ)
    → IsNamespace ns → (meaning ns holds (Read lba blocks) input).status ≡ SUCCESS → i < blocks
    → take ns.block (drop (i * ns.block) (meaning ns holds (Read lba blocks) input).output)
    ≡ block_or_zeros ns (zone_number ns lba) (zone_offset ns lba + i)

-- so many blocks, one logical block after another from this one on
abbrev pub blocks_from : ZonedNamespace → ℕ → ℕ → List (List ℕ)
blocks_from ns lba zero = []
blocks_from ns lba (suc count) = block_at ns lba ∷ blocks_from ns (lba + 1) count

-- written blocks that follow one another in a zone are a part of its list
abbrev pub ConsecutiveBlocksAreAPart : Type 0
ConsecutiveBlocksAreAPart =
    (ns : ZonedNamespace) (lba count : ℕ) → IsNamespace ns
    → let blocks = (zone_at ns (zone_number ns lba)).blocks in
    zone_offset ns lba + count ≤ length blocks
    → blocks_from ns lba count ≡ take count (drop (zone_offset ns lba) blocks)

-- what an Append that succeeds put in is read from the address that its completion tells, whatever
-- commands and faults come in between, until the zone is reset or goes offline
abbrev pub AppendedBlocksReadBack : Type 0
AppendedBlocksReadBack =
    (ns : ZonedNamespace) (holds : Holds) (lba blocks : ℕ) (input : List ℕ) (events : List NamespaceEvent)
    → IsNamespace ns → 1 ≤ blocks → (meaning ns holds (Append lba blocks) input).status ≡ SUCCESS
    → let done = meaning ns holds (Append lba blocks) input in
    NoneClears (zone_number ns lba) events done.namespace
    → AreRead (after_events events done.namespace) (done.dw0 + done.dw1 * 2 ^ 32) blocks input

-- the same of a Write, which is read from its own address
abbrev pub WrittenBlocksReadBack : Type 0
WrittenBlocksReadBack =
    (ns : ZonedNamespace) (holds : Holds) (lba blocks : ℕ) (input : List ℕ) (events : List NamespaceEvent)
    → IsNamespace ns → 1 ≤ blocks → (meaning ns holds (Write lba blocks) input).status ≡ SUCCESS
    → let done = meaning ns holds (Write lba blocks) input in
    NoneClears (zone_number ns lba) events done.namespace
    → AreRead (after_events events done.namespace) lba blocks input

-- a report from any address of the namespace on, with any filter and room for its header at least, tells of the zones
-- that match, from the one that contains the address on: their descriptors, in order and none left out, as many as there
-- is room for
abbrev pub ReportsWhatMatches : Type 0
ReportsWhatMatches =
    (ns : ZonedNamespace) (holds : Holds) (lba dwords : ℕ) (filter : ZoneFilter) (partial : Bool)
    → IsNamespace ns → lba < block_total ns → REPORT_HEADER_BYTES ≤ 4 * dwords → 4 * dwords ≤ MOST_TRANSFER
    → let done = meaning ns holds (Receive lba dwords filter partial) [] in
    let found = matching (counted_zones ns) (zone_number ns lba) filter in
    (done.status ≡ SUCCESS) × ReportsZones done.output partial ns.size (min (descriptor_room (4 * dwords)) (length found)) found

-- the descriptors of all zones, in order
abbrev pub all_descriptors : ZonedNamespace → List (List ℕ)
all_descriptors ns = map (descriptor_at ns.size) (enumerate_from 0 (counted_zones ns))

-- what so many partial reports of all zones list, one after another: the first from this zone on, each later one
-- from the first zone on that the one before it left out
abbrev pub listed_by : ZonedNamespace → Holds → ℕ → ℕ → ℕ → List (List ℕ)
listed_by ns holds dwords zero z = []
listed_by ns holds dwords (suc reports) z =
    let bytes = (meaning ns holds (Receive (z * ns.size) dwords filters.All true) []).output in
    descriptors_in (number_in bytes) bytes ++ listed_by ns holds dwords reports (z + number_in bytes)

-- such reports from the first zone on list every zone once, in order, where together they have room for all
abbrev pub ReportsEveryZone : Type 0
ReportsEveryZone =
    (ns : ZonedNamespace) (holds : Holds) (dwords reports : ℕ)
    → IsNamespace ns → 4 * dwords ≤ MOST_TRANSFER → length ns.zones ≤ reports * descriptor_room (4 * dwords)
    → listed_by ns holds dwords reports 0 ≡ all_descriptors ns
