-- What a command or a fault that names a tenant's own zone leaves of the zones of others.
use Rattle.std.proofs.Common.{◌≡◌, ◌≢◌, ℕ, zero, suc, ◌<◌, true, false, List, [], ◌∷◌, length, set, get_or, Option, Some, None, Result, Ok, Err, refl, ap, sym, subst, ◌∙◌, arith, inl, inr, get_or-set_other}
use Rattle.std.proofs.lemmas.List.{length-map, get_or-map}
use Rattle.std.proofs.lemmas.Option.{slice_get_within, get_or_from_slice_get}
use Rattle.zone_state.specs.Zone.{CountedZone, state_of_fault}
use Rattle.zone_state.specs.declared.action.Action.{Action}
use Rattle.zone_state.specs.declared.action.Action.TheVariants as action
use Rattle.zone_state.specs.declared.state.FaultState.{FaultState}
use Rattle.zone_state.specs.declared.state.ZoneState.{ZoneState}
use Rattle.zone_state.specs.declared.state.ZoneState.TheVariants.{Closed, ImplicitlyOpened}
use Rattle.zone_state.specs.declared.status.Status.{Status}
use Rattle.zone_state.specs.declared.zone.FaultRefused.{FaultRefused}
use Rattle.zone_resources.specs.Admission.{IsClosable, admission, wanted_of}
use Rattle.zone_resources.specs.declared.admission.Wanted.{Wanted}
use Rattle.zone_resources.specs.declared.holds.Holds.{Holds}
use Rattle.zone_resources.proofs.Proved.{admitted_closable}
use Rattle.nvme_entry.specs.declared.command.StandardCommand.{StandardCommand}
use Rattle.nvme_entry.specs.declared.command.StandardCommand.TheVariants.{Append, Read, Receive, Send, Write}
use Rattle.image_store.specs.Blocks.{as_blocks}
use Rattle.image_store.specs.Namespace.{ZoneWithBlocks, ZonedNamespace, arrived, counted, counted_zones, grown, no_zone, with_zone, zone_at}
use Rattle.zns_commands.specs.Address.{zone_number}
use Rattle.zns_commands.specs.Effect.{Effect, concluded}
use Rattle.zns_commands.specs.Fault.{faulted, faulted_by, zone_fault_refusal}
use Rattle.zns_commands.specs.Meaning.{effect_of, meaning, refusal_of}
use Rattle.zns_commands.specs.Resources.{closed, gives_way}
use Rattle.zns_commands.specs.steps.Plans.{closing_of, room_by}
use Rattle.zns_commands.specs.Send.{gives_way_to, led_to, zone_effect}
use Rattle.zns_commands.specs.Write.{with_written}
use Rattle.device_laws.specs.Tenants.{KeepsBlocks, Tenant, names_own_zone}

-- ---- zones that keep their blocks

pub kept_same : (zone : ZoneWithBlocks) → KeepsBlocks zone zone
kept_same zone = record { blocks = refl; state = inl refl }

pub kept_on : (a b c : ZoneWithBlocks) → KeepsBlocks a b → KeepsBlocks b c → KeepsBlocks a c
kept_on a b c first second = record {
  blocks = second.blocks ∙ first.blocks;
  state = elim first.state [
    | inl same ↦ elim second.state [
      | inl still ↦ inl (still ∙ same)
      | inr gave ↦ inr (sym same ∙ gave.0, gave.1)
    ]
    | inr gave ↦ elim second.state [
      | inl still ↦ inr (gave.0, still ∙ gave.1)
      | inr again ↦ absurd (let was = gave.1 in let is = again.0 in cc)
    ]
  ];
}

-- a zone that another one replaces which keeps its blocks
set_kept : (zones : List ZoneWithBlocks) (k d : ℕ) (zone : ZoneWithBlocks) → KeepsBlocks (get_or zones k no_zone) zone
    → KeepsBlocks (get_or zones d no_zone) (get_or (set zones k zone) d no_zone)
set_kept [] k d zone keeps = kept_same no_zone
set_kept (x ∷ xs) zero zero zone keeps = keeps
set_kept (x ∷ xs) zero (suc d) zone keeps = kept_same (get_or xs d no_zone)
set_kept (x ∷ xs) (suc k) zero zone keeps = kept_same x
set_kept (x ∷ xs) (suc k) (suc d) zone keeps = set_kept xs k d zone keeps

-- ---- the zone that gives way

-- a zone that gives way was implicitly opened
abbrev GivesWay : ZonedNamespace → Option ℕ → Type 0
GivesWay ns gives = (k : ℕ) → gives ≡ Some k → (zone_at ns k).state ≡ ImplicitlyOpened

closed_kept : (ns : ZonedNamespace) (gives : Option ℕ) → GivesWay ns gives → (d : ℕ) → KeepsBlocks (zone_at ns d) (zone_at (closed ns gives) d)
closed_kept ns None may d = kept_same (zone_at ns d)
closed_kept ns (Some k) may d =
    set_kept ns.zones k d (arrived Closed (zone_at ns k)) (record { blocks = refl; state = inr (may k refl, refl) })

closable_state : (ns : ZonedNamespace) (holds : Holds) (z : ℕ) → IsClosable holds (counted_zones ns) z → (zone_at ns z).state ≡ ImplicitlyOpened
closable_state ns holds z h =
    let within = slice_get_within (counted_zones ns) z h.zone h.there in
    let inside : z < length ns.zones = omega (arith, within, length-map ns.zones (counted ns.capacity)) in
    let read = get_or_from_slice_get (counted_zones ns) z h.zone (counted ns.capacity no_zone) h.there in
    let mapped = get_or-map (counted ns.capacity) ns.zones z no_zone (counted ns.capacity no_zone) inside in
    ap (λ (r : CountedZone). r.state) (sym mapped ∙ read) ∙ h.implicitly_opened

closing_is : (room : Result (Option ℕ) Status) (k : ℕ) → closing_of room ≡ Some k → room ≡ Ok (Some k)
closing_is (Ok gives) k is = ap (λ (o : Option ℕ). Ok o) is
closing_is (Err status) k is = absurd cc

room_gives : (ns : ZonedNamespace) (holds : Holds) (wanted : Option Wanted) → GivesWay ns (closing_of (room_by ns holds wanted))
room_gives ns holds None k is = absurd cc
room_gives ns holds (Some wanted) k is =
    let admitted = closing_is (admission (counted_zones ns) ns.limits holds wanted) k is in
    closable_state ns holds k (admitted_closable (counted_zones ns) ns.limits holds wanted (Some k) admitted k refl)

sent_gives : (ns : ZonedNamespace) (holds : Holds) (a : Action) (state : ZoneState) → GivesWay ns (gives_way_to ns holds a state)
sent_gives ns holds action.Open state = room_gives ns holds (wanted_of state)
sent_gives ns holds _ state = λ k is. absurd cc

-- ---- commands and faults

module _ (tenant : Tenant) (d : ℕ) (others : tenant.zones d ≡ false) where
  -- it isn't a zone of the tenant
  differs : (z : ℕ) → tenant.zones z ≡ true → d ≢ z
  differs z own same =
      let not_own : tenant.zones z ≡ false = subst (λ (n : ℕ). tenant.zones n ≡ false) same others in
      absurd cc

  module _ (ns : ZonedNamespace) where
    abbrev Kept : ZonedNamespace → Type 0
    Kept later = KeepsBlocks (zone_at ns d) (zone_at later d)

    own_set : (m : ZonedNamespace) (z : ℕ) (zone : ZoneWithBlocks) → tenant.zones z ≡ true → Kept m → Kept (with_zone m z zone)
    own_set m z zone own kept =
        subst (KeepsBlocks (zone_at ns d)) (sym (get_or-set_other m.zones z d zone no_zone (differs z own))) kept

    written_kept : (holds : Holds) (z : ℕ) (input : List ℕ) → tenant.zones z ≡ true → Kept (with_written ns holds z input)
    written_kept holds z input own =
        let gives = gives_way ns holds (zone_at ns z).state in
        let m = closed ns gives in
        own_set m z (grown m.capacity (zone_at m z) (as_blocks m.block input)) own
        (closed_kept ns gives (room_gives ns holds (wanted_of (zone_at ns z).state)) d)

    sent_kept : (holds : Holds) (lba : ℕ) (a : Action) → tenant.zones (zone_number ns lba) ≡ true → Kept (zone_effect ns holds lba a)
    sent_kept holds lba a own =
        let z = zone_number ns lba in
        let from = (zone_at ns z).state in
        let gives = gives_way_to ns holds a from in
        let m = closed ns gives in
        own_set m z (arrived (led_to a from) (zone_at m z)) own (closed_kept ns gives (sent_gives ns holds a from) d)

    effect_kept : (holds : Holds) (c : StandardCommand) (input : List ℕ) → names_own_zone tenant ns c ≡ true → Kept (effect_of ns holds c input).namespace
    effect_kept holds (Write lba blocks) input own = written_kept holds (zone_number ns lba) input own
    effect_kept holds (Read lba blocks) input own = kept_same (zone_at ns d)
    effect_kept holds (Send lba a true) input own = absurd cc
    effect_kept holds (Send lba a false) input own = sent_kept holds lba a own
    effect_kept holds (Receive lba dwords filter partial) input own = kept_same (zone_at ns d)
    effect_kept holds (Append lba blocks) input own = written_kept holds (zone_number ns lba) input own

    concluded_kept : (why : Option Status) (effect : Effect) → Kept effect.namespace → Kept (concluded why ns effect).namespace
    concluded_kept None effect kept = kept
    concluded_kept (Some status) effect kept = kept_same (zone_at ns d)

    pub command_kept : (holds : Holds) (c : StandardCommand) (input : List ℕ) → names_own_zone tenant ns c ≡ true
        → Kept (meaning ns holds c input).namespace
    command_kept holds c input own = concluded_kept (refusal_of ns holds c input) (effect_of ns holds c input) (effect_kept holds c input own)

    faulted_kept : (z : ℕ) (fault : FaultState) (result : Result (Unit {0}) FaultRefused) → tenant.zones z ≡ true → Kept (faulted_by result ns z fault)
    faulted_kept z fault (Ok done) own = own_set ns z (arrived (state_of_fault fault) (zone_at ns z)) own (kept_same (zone_at ns d))
    faulted_kept z fault (Err refused) own = kept_same (zone_at ns d)

    pub fault_kept : (holds : Holds) (z : ℕ) (fault : FaultState) → tenant.zones z ≡ true → Kept (faulted ns holds z fault)
    fault_kept holds z fault own = faulted_kept z fault (zone_fault_refusal ns holds z fault) own
