-- That commands and faults keep a namespace sound.
use Rattle.std.proofs.Common.{◌≡◌, ℕ, suc, ◌<◌, ◌≤◌, Bool, true, false, List, [], ◌∷◌, length, map, replicate, None, refl, ap, sym, subst, ◌∙◌, arith}
use lib.LanesLaws.{map-replicate}
use Rattle.std.specs.Prelude.{nat_lt}
use Rattle.std.proofs.lemmas.Bool.{ltb-true}
use Rattle.std.proofs.lemmas.List.{length-replicate, get_or-replicate}
use Rattle.std.proofs.lemmas.List.Folds.{sum_by-replicate}
use Rattle.zone_state.specs.State.{is_open, is_active}
use Rattle.zone_state.specs.Zone.{CountedZone}
use Rattle.zone_state.specs.declared.action.Action.{Action}
use Rattle.zone_state.specs.declared.state.ZoneState.{ZoneState}
use Rattle.zone_state.specs.declared.state.ZoneState.TheVariants.{Empty}
use Rattle.zone_resources.specs.Counts.{count_in, one_if}
use Rattle.zone_resources.specs.declared.holds.Holds.{Holds}
use Rattle.common_definitions.specs.Checks.{first_failed}
use Rattle.common_definitions.proofs.Proved.{demanded, passed}
use Rattle.common_definitions.specs.Bytes.{AreBytes}
use Rattle.image_store.specs.Geometry.{IsShape}
use Rattle.image_store.specs.Namespace.{ZoneWithBlocks, ZonedNamespace, no_zone, zone_at, counted, IsNamespace, all_empty}
use Rattle.image_store.proofs.Proved.{resized}
use Rattle.zns_commands.specs.Address.{zone_number, block_total}
use Rattle.zns_commands.specs.Change.{CanBeAsked, Change, Nothing, Writing, Moving, changed}
use Rattle.zns_commands.specs.Meaning.{change_of}
use Rattle.zns_commands.specs.Resources.{gives_way}
use Rattle.zns_commands.specs.steps.Plans.{closing_of}
use Rattle.zns_commands.specs.Send.{send_checks, send_effect, all_fit, room_of}
use Rattle.zns_commands.specs.Write.{with_written}
use Rattle.zns_commands.specs.Laws.{NamespaceEvent, Commanded, Faulted, after, IsSpelled, EventsKeepNamespacesSound, EmptyIsNamespace}
use Rattle.zns_commands.proofs.FittingZones.{FitsIn, namespace_of_zones, no_bytes}
use Rattle.zns_commands.proofs.WrittenZones.{written_sound}
use Rattle.zns_commands.proofs.MovedZones.{moved_sound, fault_sound}
use Rattle.zns_commands.proofs.SweptZones.{all_sound}
use Rattle.zns_commands.proofs.Meanings.{after_command}
use Rattle.zns_commands.proofs.PassedChecks.{IsPassed, Writes, unrefused, zone_inside}

written : (ns : ZonedNamespace) (holds : Holds) (z blocks : ℕ) (input : List ℕ) → IsNamespace ns → (1 ≤ blocks) × AreBytes input
    → Writes ns holds z blocks input → IsNamespace (with_written ns holds z input)
written ns holds z blocks input sound asked writes =
    written_sound ns holds z blocks (gives_way ns holds (zone_at ns z).state) input sound (writes.inside sound asked.0) asked.0 writes.size asked.1
    writes.fits writes.room

send_sound : (ns : ZonedNamespace) (holds : Holds) (lba : ℕ) (a : Action) (select_all : Bool) (input : List ℕ) → IsNamespace ns
    → first_failed (send_checks ns holds lba a select_all input) ≡ None → IsNamespace (send_effect ns holds lba a select_all)
send_sound ns holds lba a true input sound none =
    all_sound ns a sound (demanded (all_fit ns a) _ (passed (send_checks ns holds lba a true input) 2 none))
send_sound ns holds lba a false input sound none =
    let checks = send_checks ns holds lba a false input in
    let z = zone_number ns lba in
    let room = room_of ns holds a (zone_at ns z).state in
    let start = ltb-true lba (block_total ns) (demanded (nat_lt lba (block_total ns)) _ (passed checks 1 none)) in
    moved_sound ns holds z a (closing_of room) sound (zone_inside ns lba sound start) (unrefused room None (passed checks 5 none))

change_sound : (ns : ZonedNamespace) (holds : Holds) (change : Change) (input : List ℕ) → IsNamespace ns → CanBeAsked change input
    → IsPassed ns holds change input → IsNamespace (changed ns holds change input)
change_sound ns holds (Writing lba blocks) input sound asked passes = written ns holds (zone_number ns lba) blocks input sound asked passes
change_sound ns holds (Moving lba a select_all) input sound asked passes = send_sound ns holds lba a select_all input sound passes
change_sound ns holds Nothing input sound asked passes = sound

-- one event
event_sound : (event : NamespaceEvent) (ns : ZonedNamespace) → IsNamespace ns → IsSpelled event → IsNamespace (after event ns)
event_sound (Commanded holds command input) ns sound spelled =
    after_command IsNamespace ns holds command input sound (change_sound ns holds (change_of command) input sound spelled)
event_sound (Faulted holds z fault) ns sound spelled = fault_sound ns holds z fault sound

pub events_keep_namespaces_sound : EventsKeepNamespacesSound
events_keep_namespaces_sound [] ns sound some = sound
events_keep_namespaces_sound (event ∷ events) ns sound some =
    events_keep_namespaces_sound events (after event ns) (event_sound event ns sound (some 0 event (omega arith)))
    (λ k other in_list. some (suc k) other (omega arith))

empty_counts : (test : ZoneState → Bool) (c n : ℕ) → test Empty ≡ false
    → count_in test (map (counted c) (replicate n (record { state = Empty; blocks = [] }))) ≡ 0
empty_counts test c n none =
    let empty : ZoneWithBlocks = record { state = Empty; blocks = [] } in
    ap (count_in test) (map-replicate (counted c) n empty)
    ∙ sum_by-replicate (λ (z : CountedZone). one_if (test z.state)) n (counted c empty)
    ∙ rw none (omega arith)

pub empty_is_namespace : EmptyIsNamespace
empty_is_namespace s known =
    let empty : ZoneWithBlocks = record { state = Empty; blocks = [] } in
    let count : length (replicate s.zones empty) ≡ s.zones = length-replicate s.zones empty in
    namespace_of_zones (all_empty s) (replicate s.zones empty)
    (subst (λ (n : ℕ). IsShape (resized s n)) (sym count) known)
    refl
    (λ z h.
    let in_list : z < s.zones = omega arith in
    subst (FitsIn s.block s.capacity) (sym (get_or-replicate s.zones z empty no_zone in_list))
    (record { state = (known.capacity_some, refl); whole = λ i none. absurd (omega arith); bytes = λ i. no_bytes }))
    (record {
      opened = omega (arith, empty_counts is_open s.capacity s.zones refl);
      active = omega (arith, empty_counts is_active s.capacity s.zones refl);
    })
