-- That a zone which isn't cleared keeps its blocks through each event, and can be read; and that each event keeps the shape.
use Rattle.std.proofs.Common.{◌≡◌, ℕ, zero, suc, Bool, true, false, cond, List, [], ◌∷◌, ◌++◌, get_or, set, Option, Some, None, Result, Ok, Err, refl, ap, sym, subst, ◌∙◌, append_assoc}
use Rattle.std.proofs.lemmas.List.{append-nil, length-map, length-set}
use Rattle.zone_state.specs.Zone.{state_of_fault}
use Rattle.zone_state.specs.declared.action.Action.{Action}
use Rattle.zone_state.specs.declared.state.FaultState.{FaultState}
use Rattle.zone_state.specs.declared.state.ZoneState.{ZoneState}
use Rattle.zone_state.specs.declared.state.ZoneState.TheVariants.{Empty, Closed, Offline}
use Rattle.zone_state.specs.declared.zone.FaultRefused.{FaultRefused}
use Rattle.zone_resources.specs.declared.holds.Holds.{Holds}
use Rattle.image_store.specs.Blocks.{as_blocks}
use Rattle.image_store.specs.Namespace.{ZoneWithBlocks, ZonedNamespace, no_zone, zone_at, with_zone, grown, shape, arrived, with_state}
use Rattle.image_store.proofs.Proved.{resized}
use Rattle.zone_state.specs.State.{is_cleared}
use Rattle.zns_commands.specs.declared.write.WritePlan.{WritePlan}
use Rattle.zns_commands.specs.Address.{zone_number}
use Rattle.zns_commands.specs.Fault.{zone_fault_refusal, faulted_by}
use Rattle.zns_commands.specs.Change.{Change, Nothing, Writing, Moving, changed}
use Rattle.zns_commands.specs.Meaning.{change_of}
use Rattle.zns_commands.specs.Read.{read_refusal}
use Rattle.zns_commands.specs.Resources.{closed}
use Rattle.zns_commands.specs.Send.{send_effect, takes, swept, led_to}
use Rattle.zns_commands.specs.Left.{Grows}
use Rattle.zns_commands.specs.Laws.{NamespaceEvent, Commanded, Faulted, NoneClears, after, after_events}
use Rattle.zns_commands.specs.steps.Plans.{write_plan, written_by, zone_plan}
use Rattle.zns_commands.proofs.Meanings.{after_command}
use Rattle.zns_commands.proofs.Sweeps.{swept_at}

-- a list of blocks grows by none,
pub grows_by_none : (blocks : List (List ℕ)) → Grows blocks blocks
grows_by_none blocks = record { more = []; is = sym (append-nil blocks) }

-- and by more and then by more
pub grows_on : (before then after : List (List ℕ)) → Grows before then → Grows then after → Grows before after
grows_on a b c first second = record {
  more = first.more ++ second.more;
  is = second.is ∙ (ap (λ (blocks : List (List ℕ)). blocks ++ second.more) first.is ∙ append_assoc a first.more second.more);
}

-- where a zone is replaced by one that keeps its blocks, each zone keeps its blocks
pub replaced_grows : (zones : List ZoneWithBlocks) (y z : ℕ) (zone : ZoneWithBlocks)
    → (y ≡ z → get_or (set zones y zone) z no_zone ≡ zone → Grows (get_or zones z no_zone).blocks zone.blocks)
    → Grows (get_or zones z no_zone).blocks (get_or (set zones y zone) z no_zone).blocks
replaced_grows [] y z zone grows = grows_by_none (get_or [] z no_zone).blocks
replaced_grows (x ∷ xs) zero zero zone grows = grows refl refl
replaced_grows (x ∷ xs) zero (suc z) zone grows = grows_by_none (get_or xs z no_zone).blocks
replaced_grows (x ∷ xs) (suc y) zero zone grows = grows_by_none x.blocks
replaced_grows (x ∷ xs) (suc y) (suc z) zone grows = replaced_grows xs y z zone (λ same is. grows (ap suc same) is)

-- the same of one whose state may say that it keeps none
set_grows : (clears : ZoneState → Bool) (zones : List ZoneWithBlocks) (y z : ℕ) (zone : ZoneWithBlocks)
    → (clears zone.state ≡ false → Grows (get_or zones y no_zone).blocks zone.blocks)
    → clears (get_or (set zones y zone) z no_zone).state ≡ false
    → Grows (get_or zones z no_zone).blocks (get_or (set zones y zone) z no_zone).blocks
set_grows clears zones y z zone grows stays =
    replaced_grows zones y z zone
    (λ same is.
    subst (λ (n : ℕ). Grows (get_or zones n no_zone).blocks zone.blocks) same
    (grows (subst (λ (x : ZoneWithBlocks). clears x.state ≡ false) is stays)))

pub closed_grows : (ns : ZonedNamespace) (gives : Option ℕ) (z : ℕ) → Grows (zone_at ns z).blocks (zone_at (closed ns gives) z).blocks
closed_grows ns None z = grows_by_none (zone_at ns z).blocks
closed_grows ns (Some k) z =
    set_grows (λ s. false) ns.zones k z (arrived Closed (zone_at ns k)) (λ stays. grows_by_none (zone_at ns k).blocks) refl

pub written_grows : (ns : ZonedNamespace) (plan : WritePlan) (input : List ℕ) (z : ℕ)
    → Grows (zone_at ns z).blocks (zone_at (written_by ns plan input) z).blocks
written_grows ns plan input z =
    let m = closed ns plan.closing in
    let zone = grown m.capacity (zone_at m plan.zone) (as_blocks m.block input) in
    grows_on (zone_at ns z).blocks (zone_at m z).blocks (zone_at (with_zone m plan.zone zone) z).blocks
    (closed_grows ns plan.closing z)
    (set_grows (λ s. false) m.zones plan.zone z zone (λ stays. record { more = as_blocks m.block input; is = refl }) refl)

-- a zone that comes into a state keeps its blocks there, unless it is cleared
pub arrived_grows : (to : ZoneState) (zone : ZoneWithBlocks) → is_cleared to ≡ false → Grows zone.blocks (arrived to zone).blocks
arrived_grows Empty zone stays = cc
arrived_grows Offline zone stays = cc
arrived_grows to zone stays = grows_by_none zone.blocks

moved_grows : (ns : ZonedNamespace) (gives : Option ℕ) (y z : ℕ) (to : ZoneState)
    → is_cleared (zone_at (with_state (closed ns gives) y to) z).state ≡ false
    → Grows (zone_at ns z).blocks (zone_at (with_state (closed ns gives) y to) z).blocks
moved_grows ns gives y z to stays =
    let m = closed ns gives in
    let zone = arrived to (zone_at m y) in
    grows_on (zone_at ns z).blocks (zone_at m z).blocks (zone_at (with_zone m y zone) z).blocks
    (closed_grows ns gives z)
    (set_grows is_cleared m.zones y z zone (arrived_grows to (zone_at m y)) stays)

taken_grows : (taken : Bool) (to : ZoneState) (zone : ZoneWithBlocks)
    → is_cleared (cond taken (arrived to zone) zone).state ≡ false → Grows zone.blocks (cond taken (arrived to zone) zone).blocks
taken_grows true to zone stays = arrived_grows to zone stays
taken_grows false to zone stays = grows_by_none zone.blocks

send_grows : (ns : ZonedNamespace) (holds : Holds) (lba : ℕ) (a : Action) (select_all : Bool) (z : ℕ)
    → is_cleared (zone_at (send_effect ns holds lba a select_all) z).state ≡ false
    → Grows (zone_at ns z).blocks (zone_at (send_effect ns holds lba a select_all) z).blocks
send_grows ns holds lba a true z stays =
    let zone = zone_at ns z in
    subst (λ (swept_zone : ZoneWithBlocks). is_cleared swept_zone.state ≡ false → Grows zone.blocks swept_zone.blocks) (sym (swept_at a ns.zones z))
    (taken_grows (takes a zone.state) (led_to a zone.state) zone) stays
send_grows ns holds lba a false z stays =
    let plan = zone_plan ns holds lba a in moved_grows ns plan.closing plan.zone z plan.to stays

faulted_grows : (result : Result Unit FaultRefused) (ns : ZonedNamespace) (y z : ℕ) (fault : FaultState)
    → is_cleared (zone_at (faulted_by result ns y fault) z).state ≡ false
    → Grows (zone_at ns z).blocks (zone_at (faulted_by result ns y fault) z).blocks
faulted_grows (Ok done) ns y z fault stays = moved_grows ns None y z (state_of_fault fault) stays
faulted_grows (Err none) ns y z fault stays = grows_by_none (zone_at ns z).blocks

change_grows : (ns : ZonedNamespace) (holds : Holds) (change : Change) (input : List ℕ) (z : ℕ)
    → is_cleared (zone_at (changed ns holds change input) z).state ≡ false
    → Grows (zone_at ns z).blocks (zone_at (changed ns holds change input) z).blocks
change_grows ns holds (Writing lba blocks) input z stays = written_grows ns (write_plan ns holds (zone_number ns lba)) input z
change_grows ns holds (Moving lba a select_all) input z stays = send_grows ns holds lba a select_all z stays
change_grows ns holds Nothing input z stays = grows_by_none (zone_at ns z).blocks

event_grows : (event : NamespaceEvent) (ns : ZonedNamespace) (z : ℕ)
    → is_cleared (zone_at (after event ns) z).state ≡ false → Grows (zone_at ns z).blocks (zone_at (after event ns) z).blocks
event_grows (Commanded holds command input) ns z =
    after_command (λ m. is_cleared (zone_at m z).state ≡ false → Grows (zone_at ns z).blocks (zone_at m z).blocks) ns holds command input
    (λ stays. grows_by_none (zone_at ns z).blocks) (λ passes. change_grows ns holds (change_of command) input z)
event_grows (Faulted holds y fault) ns z = faulted_grows (zone_fault_refusal ns holds y fault) ns y z fault

-- another zone in a zone's place leaves the shape
pub with_zone_shape : (ns : ZonedNamespace) (z : ℕ) (zone : ZoneWithBlocks) → shape (with_zone ns z zone) ≡ shape ns
with_zone_shape ns z zone = ap (resized (shape ns)) (length-set ns.zones z zone)

closed_shape : (ns : ZonedNamespace) (gives : Option ℕ) → shape (closed ns gives) ≡ shape ns
closed_shape ns None = refl
closed_shape ns (Some k) = with_zone_shape ns k (arrived Closed (zone_at ns k))

pub written_shape : (ns : ZonedNamespace) (plan : WritePlan) (input : List ℕ) → shape (written_by ns plan input) ≡ shape ns
written_shape ns plan input =
    let m = closed ns plan.closing in
    with_zone_shape m plan.zone (grown m.capacity (zone_at m plan.zone) (as_blocks m.block input)) ∙ closed_shape ns plan.closing

moved_shape : (ns : ZonedNamespace) (gives : Option ℕ) (z : ℕ) (to : ZoneState) → shape (with_state (closed ns gives) z to) ≡ shape ns
moved_shape ns gives z to =
    let m = closed ns gives in with_zone_shape m z (arrived to (zone_at m z)) ∙ closed_shape ns gives

send_shape : (ns : ZonedNamespace) (holds : Holds) (lba : ℕ) (a : Action) (select_all : Bool)
    → shape (send_effect ns holds lba a select_all) ≡ shape ns
send_shape ns holds lba a true = ap (resized (shape ns)) (length-map ns.zones (swept a))
send_shape ns holds lba a false =
    let plan = zone_plan ns holds lba a in moved_shape ns plan.closing plan.zone plan.to

faulted_shape : (result : Result Unit FaultRefused) (ns : ZonedNamespace) (z : ℕ) (fault : FaultState) → shape (faulted_by result ns z fault) ≡ shape ns
faulted_shape (Ok done) ns z fault = moved_shape ns None z (state_of_fault fault)
faulted_shape (Err none) ns z fault = refl

change_shape : (ns : ZonedNamespace) (holds : Holds) (change : Change) (input : List ℕ) → shape (changed ns holds change input) ≡ shape ns
change_shape ns holds (Writing lba blocks) input = written_shape ns (write_plan ns holds (zone_number ns lba)) input
change_shape ns holds (Moving lba a select_all) input = send_shape ns holds lba a select_all
change_shape ns holds Nothing input = refl

pub event_shape : (event : NamespaceEvent) (ns : ZonedNamespace) → shape (after event ns) ≡ shape ns
event_shape (Commanded holds command input) ns =
    after_command (λ m. shape m ≡ shape ns) ns holds command input refl (λ passes. change_shape ns holds (change_of command) input)
event_shape (Faulted holds z fault) ns = faulted_shape (zone_fault_refusal ns holds z fault) ns z fault

-- a zone that isn't cleared can be read
pub uncleared_is_readable : (s : ZoneState) → is_cleared s ≡ false → read_refusal s ≡ None
uncleared_is_readable Offline stays = cc
uncleared_is_readable s stays = refl

-- what a later namespace has of a zone
pub record KeepsZone (ns m : ZonedNamespace) (z : ℕ) : Type 0 where
  pub same_shape : shape m ≡ shape ns
  pub blocks : Grows (zone_at ns z).blocks (zone_at m z).blocks
  pub readable : read_refusal (zone_at ns z).state ≡ None → read_refusal (zone_at m z).state ≡ None

-- events of which none clears a zone keep it
pub events_keep_zones : (events : List NamespaceEvent) (ns : ZonedNamespace) (z : ℕ) → NoneClears z events ns → KeepsZone ns (after_events events ns) z
events_keep_zones [] ns z none = record { same_shape = refl; blocks = grows_by_none (zone_at ns z).blocks; readable = λ known. known }
events_keep_zones (event ∷ events) ns z none =
    let m = after event ns in
    let later = events_keep_zones events m z none.1 in
    record {
      same_shape = later.same_shape ∙ event_shape event ns;
      blocks = grows_on (zone_at ns z).blocks (zone_at m z).blocks (zone_at (after_events events m) z).blocks (event_grows event ns z none.0) later.blocks;
      readable = λ known. later.readable (uncleared_is_readable (zone_at m z).state none.0);
    }
