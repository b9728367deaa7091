-- That commands and faults leave the zones that they do not touch.
use Rattle.std.proofs.Common.{◌≡◌, ℕ, Bool, true, false, nat_eq, List, Option, Some, None, Result, Ok, Err, refl, subst, sym, ◌∙◌, get_or-set_other}
use Rattle.std.proofs.lemmas.Bool.{cond-false, eqb-false, or_parts}
use Rattle.zone_state.specs.Zone.{state_of_fault}
use Rattle.zone_state.specs.declared.action.Action.{Action}
use Rattle.zone_state.specs.declared.state.FaultState.{FaultState}
use Rattle.zone_state.specs.declared.state.ZoneState.{ZoneState}
use Rattle.zone_state.specs.declared.zone.FaultRefused.{FaultRefused}
use Rattle.zone_resources.specs.Holds.{names}
use Rattle.zone_resources.specs.declared.holds.Holds.{Holds}
use Rattle.image_store.specs.Blocks.{as_blocks}
use Rattle.image_store.specs.Namespace.{ZoneWithBlocks, ZonedNamespace, no_zone, zone_at, with_zone, grown, arrived, with_state}
use Rattle.zns_commands.specs.Address.{zone_number}
use Rattle.zns_commands.specs.Fault.{zone_fault_refusal, faulted_by}
use Rattle.zns_commands.specs.Left.{is_either, reaches, OtherZonesAreLeft}
use Rattle.zns_commands.specs.Laws.{Commanded, Faulted}
use Rattle.zns_commands.specs.Change.{Change, Nothing, Writing, Moving, changed}
use Rattle.zns_commands.specs.Meaning.{change_of}
use Rattle.zns_commands.specs.Resources.{closed}
use Rattle.zns_commands.specs.Send.{send_effect, takes, led_to}
use Rattle.zns_commands.specs.declared.write.WritePlan.{WritePlan}
use Rattle.zns_commands.specs.steps.Plans.{write_plan, written_by, zone_plan}
use Rattle.zns_commands.proofs.GivenWay.{closed_zone}
use Rattle.zns_commands.proofs.Meanings.{after_command}
use Rattle.zns_commands.proofs.Sweeps.{swept_at}

module _ (ns : ZonedNamespace) (d : ℕ) where
  abbrev Left : ZonedNamespace → Type 0
  Left m = zone_at m d ≡ zone_at ns d

  closed_left : (gives : Option ℕ) → names d gives ≡ false → Left (closed ns gives)
  closed_left gives other =
      closed_zone ns d gives
      (λ (is : gives ≡ Some d). let named : nat_eq d d ≡ false = subst (λ (one : Option ℕ). names d one ≡ false) is other in eqb-false d d named refl)

  set_left : (m : ZonedNamespace) (z : ℕ) (zone : ZoneWithBlocks) → nat_eq z d ≡ false → Left m → Left (with_zone m z zone)
  set_left m z zone other left = get_or-set_other m.zones z d zone no_zone (λ (same : d ≡ z). eqb-false z d other (sym same)) ∙ left

  written_left : (plan : WritePlan) (input : List ℕ) → is_either plan.zone plan.closing d ≡ false → Left (written_by ns plan input)
  written_left plan input other =
      let m = closed ns plan.closing in
      let none = or_parts (nat_eq plan.zone d) (names d plan.closing) other in
      set_left m plan.zone (grown m.capacity (zone_at m plan.zone) (as_blocks m.block input)) none.0 (closed_left plan.closing none.1)

  moved_left : (gives : Option ℕ) (z : ℕ) (to : ZoneState) → is_either z gives d ≡ false → Left (with_state (closed ns gives) z to)
  moved_left gives z to other =
      let m = closed ns gives in
      let none = or_parts (nat_eq z d) (names d gives) other in
      set_left m z (arrived to (zone_at m z)) none.0 (closed_left gives none.1)

  sent_left : (holds : Holds) (lba : ℕ) (a : Action) (select_all : Bool)
      → reaches ns holds (Moving lba a select_all) d ≡ false → Left (send_effect ns holds lba a select_all)
  sent_left holds lba a true other =
      let zone = zone_at ns d in swept_at a ns.zones d ∙ cond-false (takes a zone.state) (arrived (led_to a zone.state) zone) zone other
  sent_left holds lba a false other =
      let plan = zone_plan ns holds lba a in moved_left plan.closing plan.zone plan.to other

  pub change_left : (holds : Holds) (change : Change) (input : List ℕ) → reaches ns holds change d ≡ false → Left (changed ns holds change input)
  change_left holds (Writing lba blocks) input other = written_left (write_plan ns holds (zone_number ns lba)) input other
  change_left holds (Moving lba a select_all) input other = sent_left holds lba a select_all other
  change_left holds Nothing input other = refl

  either_none : (z : ℕ) → nat_eq z d ≡ false → is_either z None d ≡ false
  either_none z other = rw other refl

  pub faulted_left : (z : ℕ) (fault : FaultState) (result : Result Unit FaultRefused)
      → ((done : Unit {0}) → result ≡ Ok done → nat_eq z d ≡ false) → Left (faulted_by result ns z fault)
  faulted_left z fault (Err none) other = refl
  faulted_left z fault (Ok done) other = moved_left None z (state_of_fault fault) (either_none z (other done refl))

pub other_zones_are_left : OtherZonesAreLeft
other_zones_are_left (Commanded holds command input) ns z other =
    after_command (λ m. zone_at m z ≡ zone_at ns z) ns holds command input refl
    (λ passes. change_left ns z holds (change_of command) input other)
other_zones_are_left (Faulted holds y fault) ns z other = faulted_left ns z y fault (zone_fault_refusal ns holds y fault) (λ done e. other)
