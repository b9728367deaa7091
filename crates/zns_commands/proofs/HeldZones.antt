-- That a zone which a run appends to is touched by no command and no fault under the run's hold.
use Rattle.std.proofs.Common.{◌≡◌, ℕ, zero, suc, ◌+◌, Bool, true, false, nat_eq, List, [], ◌∷◌, map, get_or, Option, Some, None, Ok, refl, ap, subst, arith}
use Rattle.std.specs.Prelude.{not, ◌&&◌, ◌||◌}
use Rattle.std.specs.List.{list_any, enumerate_from}
use Rattle.std.specs.Option.{ForSome}
use Rattle.std.proofs.lemmas.Bool.{eqb-true, not-true, or_parts}
use Rattle.zone_state.specs.Zone.{CountedZone}
use Rattle.zone_state.specs.declared.action.Action.{Action}
use Rattle.zone_state.specs.declared.action.Action.TheVariants as action
use Rattle.zone_state.specs.declared.state.ZoneState.{ZoneState}
use Rattle.zone_state.specs.declared.status.TheConstants.Status.{ZONE_HELD}
use Rattle.zone_resources.specs.Admission.{wanted_of, IsClosable}
use Rattle.zone_resources.specs.Holds.{names, is_destination, is_source, refuses, forgets}
use Rattle.zone_resources.specs.declared.admission.Wanted.{Wanted}
use Rattle.zone_resources.specs.declared.holds.Holds.{Holds}
use Rattle.zone_resources.proofs.Proved.{admitted_closable}
use Rattle.common_definitions.specs.Checks.{first_failed}
use Rattle.common_definitions.proofs.Proved.{demanded, passed}
use Rattle.image_store.specs.Namespace.{ZoneWithBlocks, ZonedNamespace, no_zone, zone_at, counted, counted_zones}
use Rattle.zns_commands.specs.Address.{zone_number}
use Rattle.zns_commands.specs.Change.{Change, Nothing, Writing, Moving}
use Rattle.zns_commands.specs.Meaning.{change_of}
use Rattle.zns_commands.specs.Fault.{zone_fault_refusal}
use Rattle.zns_commands.specs.Left.{is_either, reaches, HeldDestinationsAreLeft}
use Rattle.zns_commands.specs.Laws.{Commanded, Faulted}
use Rattle.zns_commands.specs.Resources.{room_for, gives_way}
use Rattle.zns_commands.specs.Send.{send_checks, room_of, takes, held_among}
use Rattle.zns_commands.specs.steps.Plans.{room_by, closing_of, zone_plan}
use Rattle.zns_commands.proofs.Meanings.{after_command}
use Rattle.zns_commands.proofs.PassedChecks.{IsPassed, Writes, taken_fault, unrefused}
use Rattle.zns_commands.proofs.Sweeps.{none_offline}
use Rattle.zns_commands.proofs.Untouched.{change_left, faulted_left}

-- the zone that gives way may be closed
wanted_closable : (ns : ZonedNamespace) (holds : Holds) (wanted : Option Wanted) (gives : Option ℕ)
    → room_by ns holds wanted ≡ Ok gives → ForSome gives (IsClosable holds (counted_zones ns))
wanted_closable ns holds None gives e = λ k is. cc
wanted_closable ns holds (Some wanted) gives e = admitted_closable (counted_zones ns) ns.limits holds wanted gives e

room_closable : (ns : ZonedNamespace) (holds : Holds) (a : Action) (state : ZoneState)
    → room_of ns holds a state ≡ Ok (closing_of (room_of ns holds a state))
    → ForSome (closing_of (room_of ns holds a state)) (IsClosable holds (counted_zones ns))
room_closable ns holds action.Open state room = wanted_closable ns holds (wanted_of state) (closing_of (room_for ns holds state)) room
room_closable ns holds action.Close state room = λ k is. cc
room_closable ns holds action.Finish state room = λ k is. cc
room_closable ns holds action.Reset state room = λ k is. cc
room_closable ns holds action.Offline state room = λ k is. cc

not_both : (takes_it refuses_it more : Bool) → refuses_it ≡ true → ((takes_it && refuses_it) || more) ≡ false → takes_it ≡ false
not_both true true more held e = cc
not_both true false more held e = cc
not_both false refuses_it more held e = refl

-- is one of these zones, of which the first has this number, and which would be taken, held against the action?
abbrev pub held_from : Holds → ℕ → List CountedZone → Action → Bool
held_from holds n zones a = list_any (λ p. takes a p.1.state && refuses holds a p.0) (enumerate_from n zones)

not_taken_from : (holds : Holds) (a : Action) (c n at : ℕ) (zones : List ZoneWithBlocks) → refuses holds a (n + at) ≡ true
    → held_from holds n (map (counted c) zones) a ≡ false → takes a (get_or zones at no_zone).state ≡ false
not_taken_from holds a c n at [] held none = none_offline a
not_taken_from holds a c n zero (x ∷ xs) held none =
    let same : n + 0 ≡ n = omega arith in
    not_both (takes a x.state) (refuses holds a n) (held_from holds (n + 1) (map (counted c) xs) a)
    (subst (λ (k : ℕ). refuses holds a k ≡ true) same held) none
not_taken_from holds a c n (suc at) (x ∷ xs) held none =
    let same : n + suc at ≡ n + 1 + at = omega arith in
    not_taken_from holds a c (n + 1) at xs (subst (λ (k : ℕ). refuses holds a k ≡ true) same held)
    (or_parts (takes a x.state && refuses holds a n) (held_from holds (n + 1) (map (counted c) xs) a) none).1

-- where no zone that would be taken is held, one that is held would not be taken
pub held_is_left : (ns : ZonedNamespace) (holds : Holds) (a : Action) (z : ℕ) → held_among (counted_zones ns) holds a ≡ false
    → refuses holds a z ≡ true → takes a (zone_at ns z).state ≡ false
held_is_left ns holds a z none held =
    let same : z ≡ 0 + z = omega arith in
    not_taken_from holds a ns.capacity 0 z ns.zones (subst (λ (k : ℕ). refuses holds a k ≡ true) same held) none

-- Select All takes no zone that is held against it
pub not_taken : (ns : ZonedNamespace) (holds : Holds) (lba : ℕ) (a : Action) (input : List ℕ) (z : ℕ)
    → first_failed (send_checks ns holds lba a true input) ≡ None → refuses holds a z ≡ true → takes a (zone_at ns z).state ≡ false
not_taken ns holds lba a input z none held =
    held_is_left ns holds a z
    (not-true (held_among (counted_zones ns) holds a)
    (demanded (not (held_among (counted_zones ns) holds a)) ZONE_HELD (passed (send_checks ns holds lba a true input) 1 none)))
    held

-- an action on one zone is on one that isn't held against it
pub not_refused : (ns : ZonedNamespace) (holds : Holds) (lba : ℕ) (a : Action) (input : List ℕ)
    → first_failed (send_checks ns holds lba a false input) ≡ None → refuses holds a (zone_number ns lba) ≡ false
not_refused ns holds lba a input none =
    let z = zone_number ns lba in
    not-true (refuses holds a z) (demanded (not (refuses holds a z)) ZONE_HELD (passed (send_checks ns holds lba a false input) 3 none))

module _ (ns : ZonedNamespace) (holds : Holds) (d : ℕ) (held : is_destination holds d ≡ true) where
  -- a zone that is no destination is another
  other_by : (z : ℕ) (same : Bool) → nat_eq z d ≡ same → is_destination holds z ≡ false → same ≡ false
  other_by z true is free =
      let clash : is_destination holds d ≡ false = subst (λ (n : ℕ). is_destination holds n ≡ false) (eqb-true z d is) free in cc
  other_by z false is free = refl

  other : (z : ℕ) → is_destination holds z ≡ false → nat_eq z d ≡ false
  other z free = other_by z (nat_eq z d) refl free

  other_gives : (gives : Option ℕ) → ForSome gives (IsClosable holds (counted_zones ns)) → names d gives ≡ false
  other_gives None closable = refl
  other_gives (Some k) closable = other k (closable k refl).free

  neither_is : (z : ℕ) (gives : Option ℕ) → is_destination holds z ≡ false → ForSome gives (IsClosable holds (counted_zones ns)) → is_either z gives d ≡ false
  neither_is z gives free closable = rw (other z free, other_gives gives closable) refl

  written_free : (z blocks : ℕ) (input : List ℕ) → Writes ns holds z blocks input → is_either z (gives_way ns holds (zone_at ns z).state) d ≡ false
  written_free z blocks input writes =
      let state = (zone_at ns z).state in
      let gives = gives_way ns holds state in
      neither_is z gives writes.free (wanted_closable ns holds (wanted_of state) gives writes.room)

  sent_free : (lba : ℕ) (a : Action) (select_all : Bool) (input : List ℕ) → first_failed (send_checks ns holds lba a select_all input) ≡ None
      → reaches ns holds (Moving lba a select_all) d ≡ false
  sent_free lba a true input none =
      not_taken ns holds lba a input d none (ap (λ (b : Bool). b || (forgets a && is_source holds d)) held)
  sent_free lba a false input none =
      let z = zone_number ns lba in
      let plan = zone_plan ns holds lba a in
      let state = (zone_at ns z).state in
      let free = or_parts (is_destination holds z) (forgets a && is_source holds z) (not_refused ns holds lba a input none) in
      neither_is plan.zone plan.closing free.0
      (room_closable ns holds a state (unrefused (room_of ns holds a state) None (passed (send_checks ns holds lba a false input) 5 none)))

  free : (change : Change) (input : List ℕ) → IsPassed ns holds change input → reaches ns holds change d ≡ false
  free (Writing lba blocks) input passes = written_free (zone_number ns lba) blocks input passes
  free (Moving lba a select_all) input passes = sent_free lba a select_all input passes
  free Nothing input passes = refl

pub held_destinations_are_left : HeldDestinationsAreLeft
held_destinations_are_left (Commanded holds command input) ns d held =
    after_command (λ m. zone_at m d ≡ zone_at ns d) ns holds command input refl
    (λ passes. change_left ns d holds (change_of command) input (free ns holds d held (change_of command) input passes))
held_destinations_are_left (Faulted holds z fault) ns d held =
    faulted_left ns d z fault (zone_fault_refusal ns holds z fault)
    (λ done e.
    let no = (taken_fault ns holds z fault done e).1 in
    other ns holds d held z (or_parts (is_source holds z) (is_destination holds z) no).1)
