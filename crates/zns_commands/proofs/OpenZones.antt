-- That an open zone wants nothing, and takes blocks as by an Append.
use Rattle.std.proofs.Common.{◌≡◌, ℕ, ◌+◌, ◌*◌, ◌≤◌, ◌<◌, true, List, length, get_or, Option, None, Result, Ok, refl, ap, sym, subst, ◌∙◌, arith}
use Rattle.std.specs.Result.{result_err}
use Rattle.std.proofs.lemmas.Bool.{eq-eqb, le-leb, lt-ltb}
use Rattle.common_definitions.specs.Checks.{first_failed}
use Rattle.common_definitions.specs.FirstCheck.{NoneFails}
use Rattle.common_definitions.proofs.Proved.{met, no_fault_where_none_fails}
use Rattle.zone_state.specs.State.{is_open}
use Rattle.zone_state.specs.Zone.{write_check, write_refusal}
use Rattle.zone_state.specs.declared.state.ZoneState.{ZoneState}
use Rattle.zone_state.specs.declared.state.ZoneState.TheVariants.{Empty, ImplicitlyOpened, ExplicitlyOpened, Closed}
use Rattle.zone_resources.specs.Admission.{wanted_of}
use Rattle.zone_state.specs.declared.status.Status.{Status}
use Rattle.zone_state.specs.declared.status.TheConstants.Status.{SUCCESS}
use Rattle.zone_state.proofs.Proved.{allowed_passes}
use Rattle.zone_resources.specs.Holds.{no_holds}
use Rattle.zone_resources.specs.declared.admission.Wanted.{Wanted}
use Rattle.zone_resources.specs.declared.holds.Holds.{Holds}
use Rattle.image_store.specs.Blocks.{as_blocks, block_count}
use Rattle.image_store.specs.Namespace.{ZoneWithBlocks, ZonedNamespace, no_zone, zone_at, grown, appended, IsNamespace, IsWithinLimits}
use Rattle.image_store.proofs.Proved.{is_one_of}
use Rattle.nvme_entry.specs.declared.command.TheConstants.{MOST_TRANSFER}
use Rattle.zns_commands.specs.Address.{counted_zone_at, zone_number}
use Rattle.zns_commands.specs.Append.{TakesBlocks, append_checks, append_effect}
use Rattle.zns_commands.specs.Effect.{concluded}
use Rattle.zns_commands.specs.Laws.{AddedBlocksAreAppended, AddedBlocksKeepNamespacesSound}
use Rattle.zns_commands.specs.steps.Checks.{zone_write_checks}
use Rattle.zns_commands.specs.declared.write.WritePlan.{WritePlan}
use Rattle.zns_commands.specs.steps.Plans.{room_by, closing_of, write_plan, written_by}
use Rattle.zns_commands.proofs.FittingZones.{one_within, open_holds}
use Rattle.zns_commands.proofs.PassedChecks.{lowest_of}
use Rattle.zns_commands.proofs.WrittenZones.{written_sound}

open_wants_none : (s : ZoneState) → is_open s ≡ true → wanted_of s ≡ None
open_wants_none Empty is = cc
open_wants_none Closed is = cc
open_wants_none s is = refl

-- an open zone is one of the zones
pub open_is_there : (zones : List ZoneWithBlocks) (z : ℕ) → is_open (get_or zones z no_zone).state ≡ true → z < length zones
open_is_there zones z is = is_one_of (λ zone. is_open zone.state ≡ true) (λ off. cc) zones z is

-- no zone gives way to an open one
open_plan : (ns : ZonedNamespace) (holds : Holds) (z : ℕ) → IsNamespace ns → is_open (zone_at ns z).state ≡ true
    → write_plan ns holds (zone_number ns (z * ns.size)) ≡ record { zone = z; closing = None }
open_plan ns holds z sound is =
    ap (write_plan ns holds) (lowest_of ns z sound (open_is_there ns.zones z is)).named
    ∙ ap (λ (wanted : Option Wanted). let plan : WritePlan = record { zone = z; closing = closing_of (room_by ns holds wanted) } in plan)
    (open_wants_none (zone_at ns z).state is)

-- blocks that an open zone takes raise no count
pub open_within : (ns : ZonedNamespace) (z : ℕ) (bytes : List ℕ) → IsNamespace ns → is_open (zone_at ns z).state ≡ true
    → IsWithinLimits (appended ns z bytes)
open_within ns z bytes sound is =
    let zone = grown ns.capacity (zone_at ns z) (as_blocks ns.block bytes) in
    one_within ns z zone (open_is_there ns.zones z is) sound.within (open_holds zone.state (zone_at ns z).state is)

-- ---- an open zone takes blocks that it has room for

open_writable : (s : ZoneState) → is_open s ≡ true → write_refusal s ≡ None
open_writable ImplicitlyOpened is = refl
open_writable ExplicitlyOpened is = refl
open_writable s is = cc

open_takes : (ns : ZonedNamespace) (z n : ℕ) → is_open (zone_at ns z).state ≡ true → length (zone_at ns z).blocks + n ≤ ns.capacity
    → write_check (counted_zone_at ns z) (length (zone_at ns z).blocks) n ≡ Ok tt
open_takes ns z n is room =
    allowed_passes (counted_zone_at ns z) (length (zone_at ns z).blocks) n
    (record { writable = open_writable (zone_at ns z).state is; at_pointer = refl; has_room = room })

pub added_blocks_keep_namespaces_sound : AddedBlocksKeepNamespacesSound
added_blocks_keep_namespaces_sound ns z bytes sound takes are =
    let n = block_count ns.block bytes in
    written_sound ns no_holds z n None bytes sound (open_is_there ns.zones z takes.opened)
    takes.some takes.whole are (open_takes ns z n takes.opened takes.room)
    (ap (room_by ns no_holds) (open_wants_none (zone_at ns z).state takes.opened))

-- the effect of an Append to the zone puts blocks into it, without another's giving way
pub blocks_are_the_effect : (ns : ZonedNamespace) (z : ℕ) (bytes : List ℕ) → IsNamespace ns → TakesBlocks ns z bytes
    → appended ns z bytes ≡ (append_effect ns no_holds (z * ns.size) bytes).namespace
blocks_are_the_effect ns z bytes sound takes =
    ap (λ (plan : WritePlan). written_by ns plan bytes) (sym (open_plan ns no_holds z sound takes.opened))

-- ---- no check refuses that Append

-- none of the checks of that zone fails
zone_passes : (ns : ZonedNamespace) (z n : ℕ) → is_open (zone_at ns z).state ≡ true → length (zone_at ns z).blocks + n ≤ ns.capacity
    → NoneFails (zone_write_checks ns no_holds z (length (zone_at ns z).blocks) n)
zone_passes ns z n is room = (
  refl,
  (
    ap (λ (fits : Result Unit Status). result_err fits) (open_takes ns z n is room),
    (ap (λ (wanted : Option Wanted). result_err (room_by ns no_holds wanted)) (open_wants_none (zone_at ns z).state is), tt),
  ),
)

-- where a zone takes blocks, of which there are no more than a transfer may be, no check of an Append of them fails
pub taken_blocks_pass : (ns : ZonedNamespace) (z : ℕ) (bytes : List ℕ) → IsNamespace ns → TakesBlocks ns z bytes → length bytes ≤ MOST_TRANSFER
    → first_failed (append_checks ns no_holds (z * ns.size) (block_count ns.block bytes) bytes) ≡ None
taken_blocks_pass ns z bytes sound takes most =
    let size = ns.size in
    let n = block_count ns.block bytes in
    let lba = z * size in
    let lowest = lowest_of ns z sound (open_is_there ns.zones z takes.opened) in
    let few : n * ns.block ≤ MOST_TRANSFER = omega (arith, takes.whole, most) in
    let of_zone = subst (λ (k : ℕ). NoneFails (zone_write_checks ns no_holds k (length (zone_at ns k).blocks) n)) (sym lowest.named)
    (zone_passes ns z n takes.opened takes.room) in
    (no_fault_where_none_fails Status (append_checks ns no_holds lba n bytes)).1
    (met _ _ (le-leb _ _ few), (met _ _ (eq-eqb _ _ takes.whole), (met _ _ (lt-ltb _ _ lowest.inside), (met _ _ (eq-eqb _ _ lowest.first), of_zone))))

pub added_blocks_are_appended : AddedBlocksAreAppended
added_blocks_are_appended ns z bytes sound takes most =
    let none = taken_blocks_pass ns z bytes sound takes most in
    let effect = append_effect ns no_holds (z * ns.size) bytes in
    subst (λ (refusal : Option Status). let done = concluded refusal ns effect in (done.status ≡ SUCCESS) × (appended ns z bytes ≡ done.namespace))
    (sym none) (refl, blocks_are_the_effect ns z bytes sound takes)
