-- That Select All leaves each zone that it takes as the action on that zone alone does, and what refuses it.
use Rattle.std.proofs.Common.{◌≡◌, ℕ, suc, ◌+◌, ◌*◌, ◌%◌, ◌<◌, ◌≤◌, Bool, true, false, cond, List, [], ◌∷◌, length, get_or, map, Option, None, Result, Ok, refl, ap, sym, subst, ◌∙◌, arith}
use Rattle.std.specs.Prelude.{nat_eq, nat_le, nat_lt, not, ◌&&◌, ◌||◌}
use Rattle.std.specs.Result.{result_err, result_unwrap_or}
use Rattle.std.proofs.lemmas.Bool.{eq-eqb, leb-true, le-leb, lt-ltb}
use Rattle.std.proofs.lemmas.List.{get_or-map, get_or-set_same}
use Rattle.common_definitions.specs.Checks.{demand, first_failed}
use Rattle.zone_state.specs.Transition.{transition}
use Rattle.zone_state.specs.declared.action.Action.{Action}
use Rattle.zone_state.specs.declared.action.Action.TheVariants as action
use Rattle.zone_state.specs.declared.state.ZoneState.{ZoneState}
use Rattle.zone_state.specs.declared.state.ZoneState.TheVariants.{ImplicitlyOpened, ExplicitlyOpened, Closed, ReadOnly, Full}
use Rattle.zone_state.specs.declared.status.Status.{Status}
use Rattle.zone_state.specs.declared.status.TheConstants.Status.{SUCCESS, INVALID_FIELD_IN_COMMAND, LBA_OUT_OF_RANGE, TOO_MANY_OPEN_ZONES, ZONE_HELD}
use Rattle.zone_resources.specs.Counts.{open_count, one_if}
use Rattle.zone_resources.specs.Holds.{refuses}
use Rattle.zone_resources.specs.declared.holds.Holds.{Holds}
use Rattle.image_store.specs.Namespace.{ZoneWithBlocks, ZonedNamespace, no_zone, zone_at, arrived, counted, counted_zones, with_state, IsNamespace}
use Rattle.zns_commands.specs.Address.{block_total, counted_zone_at}
use Rattle.zns_commands.specs.Effect.{Effect, concluded, success_effect}
use Rattle.zns_commands.specs.Laws.{Commanded}
use Rattle.zns_commands.specs.Resources.{closed, room_for}
use Rattle.zns_commands.specs.steps.Plans.{closing_of}
use Rattle.zns_commands.specs.SelectAll.{EachHasRoom, NoneIsHeld, SelectAllIsEachAlone, SelectAllIsRefusedByHoldsAndLimits, TakenZonesMove, sent_to_all, sent_to_one}
use Rattle.zns_commands.specs.Send.{all_effect, all_fit, gives_way_to, held_among, led_to, room_of, swept, taken_among, takes}
use Rattle.nvme_entry.specs.declared.command.StandardCommand.TheVariants.{Send}
use Rattle.zone_resources.proofs.Proved.{one_if-le-count_in}
use Rattle.zns_commands.proofs.FittingZones.{counted_zone_there}
use Rattle.zns_commands.proofs.HeldZones.{held_from, held_is_left}
use Rattle.zns_commands.proofs.FailedChecks.{no_success}
use Rattle.zns_commands.proofs.PassedChecks.{lowest_of}
use Rattle.zns_commands.proofs.SweptZones.{opened_count}
use Rattle.zns_commands.proofs.Untouched.{other_zones_are_left}

pub taken_zones_move : TakenZonesMove
taken_zones_move action.Close ImplicitlyOpened is = (_, refl)
taken_zones_move action.Close ExplicitlyOpened is = (_, refl)
taken_zones_move action.Finish ImplicitlyOpened is = (_, refl)
taken_zones_move action.Finish ExplicitlyOpened is = (_, refl)
taken_zones_move action.Finish Closed is = (_, refl)
taken_zones_move action.Open Closed is = (_, refl)
taken_zones_move action.Reset ImplicitlyOpened is = (_, refl)
taken_zones_move action.Reset ExplicitlyOpened is = (_, refl)
taken_zones_move action.Reset Closed is = (_, refl)
taken_zones_move action.Reset Full is = (_, refl)
taken_zones_move action.Offline ReadOnly is = (_, refl)
taken_zones_move action state is = absurd cc

-- each that would be opened is counted, so it finds an open resource
free_for : (ns : ZonedNamespace) (holds : Holds) (state : ZoneState) → takes action.Open state ≡ true
    → nat_lt (open_count (counted_zones ns)) ns.limits.open_limit ≡ true → room_for ns holds state ≡ Ok None
free_for ns holds Closed is free = rw free refl
free_for ns holds state is free = absurd cc

room_is_free : (ns : ZonedNamespace) (holds : Holds) (a : Action) (z : ℕ) → z < length ns.zones → takes a (zone_at ns z).state ≡ true
    → all_fit ns a ≡ true → room_of ns holds a (zone_at ns z).state ≡ Ok None
room_is_free ns holds action.Open z inside is fit =
    let count = one_if-le-count_in (takes action.Open) (counted_zones ns) z (counted_zone_at ns z) (counted_zone_there ns z inside) in
    let one : one_if (takes action.Open (zone_at ns z).state) ≡ 1 = ap one_if is in
    let few = leb-true (open_count (counted_zones ns) + taken_among (counted_zones ns) action.Open) ns.limits.open_limit fit in
    free_for ns holds (zone_at ns z).state is (lt-ltb (open_count (counted_zones ns)) ns.limits.open_limit (omega (arith, count, one, few)))
room_is_free ns holds action.Close z inside is fit = refl
room_is_free ns holds action.Finish z inside is fit = refl
room_is_free ns holds action.Reset z inside is fit = refl
room_is_free ns holds action.Offline z inside is fit = refl

-- an action of which the hold, the transition and the room pass, without a zone that gives way
passes : (ns : ZonedNamespace) (z : ℕ) (refused : Bool) (moves : Result ZoneState Status) (room : Result (Option ℕ) Status) (from to : ZoneState)
    → refused ≡ false → moves ≡ Ok to → room ≡ Ok None
    → concluded (first_failed (demand (not refused) ZONE_HELD ∷ result_err moves ∷ result_err room ∷ [])) ns
    (success_effect (with_state (closed ns (closing_of room)) z (result_unwrap_or moves from)) 0 [])
    ≡ success_effect (with_state ns z to) 0 []
passes ns z refused moves room from to free leads none = rw (free, leads, none) refl

-- an action on one zone, by its number and whether its address is right
abbrev by_number : ZonedNamespace → Holds → Action → ℕ → Bool → Bool → Effect
by_number ns holds a k start lowest =
    let from = (zone_at ns k).state in
    concluded (first_failed (demand start LBA_OUT_OF_RANGE ∷ demand lowest INVALID_FIELD_IN_COMMAND
    ∷ demand (not (refuses holds a k)) ZONE_HELD ∷ result_err (transition a from) ∷ result_err (room_of ns holds a from) ∷ [])) ns
    (success_effect (with_state (closed ns (gives_way_to ns holds a from)) k (led_to a from)) 0 [])

-- a zone's own address names it
named : (ns : ZonedNamespace) (holds : Holds) (a : Action) (z : ℕ) → IsNamespace ns → z < length ns.zones
    → sent_to_one ns holds a z ≡ by_number ns holds a z true true
named ns holds a z sound inside =
    let size = ns.size in
    let lba = z * size in
    let lowest = lowest_of ns z sound inside in
    ap (λ (k : ℕ). by_number ns holds a k (nat_lt lba (block_total ns)) (nat_eq (lba % size) 0)) lowest.named
    ∙ (ap (λ (b : Bool). by_number ns holds a z b (nat_eq (lba % size) 0)) (lt-ltb lba (block_total ns) lowest.inside)
    ∙ ap (by_number ns holds a z true) (eq-eqb (lba % size) 0 lowest.first))

-- the action on one zone that all would take
done_alone : (ns : ZonedNamespace) (holds : Holds) (a : Action) (z : ℕ) (to : ZoneState) → IsNamespace ns → z < length ns.zones
    → takes a (zone_at ns z).state ≡ true → transition a (zone_at ns z).state ≡ Ok to → refuses holds a z ≡ false → all_fit ns a ≡ true
    → sent_to_one ns holds a z ≡ success_effect (with_state ns z to) 0 []
done_alone ns holds a z to sound inside is leads free fit =
    let from = (zone_at ns z).state in
    named ns holds a z sound inside
    ∙ passes ns z (refuses holds a z) (transition a from) (room_of ns holds a from) from to free leads (room_is_free ns holds a z inside is fit)

-- an action with Select All, by whether a zone is held and whether each has room
abbrev decided : ZonedNamespace → Action → Bool → Bool → Effect
decided ns a held fit =
    concluded (first_failed (demand (not held) ZONE_HELD ∷ demand fit TOO_MANY_OPEN_ZONES ∷ [])) ns (success_effect (all_effect ns a) 0 [])

succeeded : (ns : ZonedNamespace) (a : Action) (held fit : Bool) → (decided ns a held fit).status ≡ SUCCESS → (held ≡ false) × (fit ≡ true)
succeeded ns a false true is = (refl, refl)
succeeded ns a true fit is = absurd (no_success ZONE_HELD (omega arith) is)
succeeded ns a false false is = absurd (no_success TOO_MANY_OPEN_ZONES (omega arith) is)

-- a zone that is taken is not held, where none is
free_where : (taken refused : Bool) → (refused ≡ true → taken ≡ false) → taken ≡ true → refused ≡ false
free_where taken true none is =
    let not_taken : taken ≡ false = none refl in absurd cc
free_where taken false none is = refl

held_where : (taken held : Bool) → (held ≡ false → taken ≡ false) → taken ≡ true → held ≡ true
held_where taken true none is = refl
held_where taken false none is =
    let not_taken : taken ≡ false = none refl in absurd cc

moved_by : (taken : Bool) (moves : Result ZoneState Status) (zone : ZoneWithBlocks) (to : ZoneState) → taken ≡ true → moves ≡ Ok to
    → cond taken (arrived (result_unwrap_or moves zone.state) zone) zone ≡ arrived to zone
moved_by taken moves zone to is leads = rw (is, leads) refl

module _ (ns : ZonedNamespace) (holds : Holds) (a : Action) (z : ℕ) where
  swept_so : (to : ZoneState) → z < length ns.zones → takes a (zone_at ns z).state ≡ true → transition a (zone_at ns z).state ≡ Ok to
      → zone_at (all_effect ns a) z ≡ arrived to (zone_at ns z)
  swept_so to inside is leads =
      get_or-map (swept a) ns.zones z no_zone no_zone inside
      ∙ moved_by (takes a (zone_at ns z).state) (transition a (zone_at ns z).state) (zone_at ns z) to is leads

  taken_as_alone : (lba : ℕ) (to : ZoneState) → IsNamespace ns → z < length ns.zones → (sent_to_all ns holds a lba).status ≡ SUCCESS
      → takes a (zone_at ns z).state ≡ true → transition a (zone_at ns z).state ≡ Ok to
      → ((sent_to_one ns holds a z).status ≡ SUCCESS)
      × (zone_at (sent_to_all ns holds a lba).namespace z ≡ zone_at (sent_to_one ns holds a z).namespace z)
  taken_as_alone lba to sound inside success is leads =
      let held = held_among (counted_zones ns) holds a in
      let fit = all_fit ns a in
      let passed = succeeded ns a held fit success in
      let free = free_where (takes a (zone_at ns z).state) (refuses holds a z) (held_is_left ns holds a z passed.0) is in
      let one = done_alone ns holds a z to sound inside is leads free passed.1 in
      let all : sent_to_all ns holds a lba ≡ success_effect (all_effect ns a) 0 [] =
      ap (λ (b : Bool). decided ns a b fit) passed.0 ∙ ap (decided ns a false) passed.1 in (
        ap (λ (e : Effect). e.status) one,
        ap (λ (e : Effect). zone_at e.namespace z) all
            ∙ (swept_so to inside is leads
            ∙ (sym (get_or-set_same ns.zones z (arrived to (zone_at ns z)) no_zone inside)
            ∙ ap (λ (e : Effect). zone_at e.namespace z) (sym one))),
      )

pub select_all_is_each_alone : SelectAllIsEachAlone
select_all_is_each_alone ns holds a lba z sound inside success = record {
  alone = λ is.
      let to = taken_zones_move a (zone_at ns z).state is in
      (taken_as_alone ns holds a z lba to.0 sound inside success is to.1).0;
  taken = λ is.
      let to = taken_zones_move a (zone_at ns z).state is in
      (taken_as_alone ns holds a z lba to.0 sound inside success is to.1).1;
  other = λ is. other_zones_are_left (Commanded holds (Send lba a true) []) ns z is;
}

none_of_two : (taken refused more : Bool) → (taken ≡ true → refused ≡ false) → more ≡ false → ((taken && refused) || more) ≡ false
none_of_two true refused more free none = rw (free refl, none) refl
none_of_two false refused more free none = none

none_held_from : (holds : Holds) (a : Action) (c n : ℕ) (zones : List ZoneWithBlocks)
    → ((z : ℕ) → z < length zones → takes a (get_or zones z no_zone).state ≡ true → refuses holds a (n + z) ≡ false)
    → held_from holds n (map (counted c) zones) a ≡ false
none_held_from holds a c n [] free = refl
none_held_from holds a c n (x ∷ xs) free =
    let same : n + 0 ≡ n = omega arith in
    none_of_two (takes a x.state) (refuses holds a n) (held_from holds (n + 1) (map (counted c) xs) a)
    (λ is. subst (λ (k : ℕ). refuses holds a k ≡ false) same (free 0 (omega arith) is))
    (none_held_from holds a c (n + 1) xs
    (λ z inside is.
    let next : n + suc z ≡ n + 1 + z = omega arith in
    subst (λ (k : ℕ). refuses holds a k ≡ false) next (free (suc z) (omega (arith, inside)) is)))

none_is_held : (ns : ZonedNamespace) (holds : Holds) (a : Action) → NoneIsHeld ns holds a → held_among (counted_zones ns) holds a ≡ false
none_is_held ns holds a none =
    none_held_from holds a ns.capacity 0 ns.zones
    (λ z inside is.
    let same : z ≡ 0 + z = omega arith in
    subst (λ (k : ℕ). refuses holds a k ≡ false) same (none z inside is))

each_has_room : (ns : ZonedNamespace) (a : Action) → EachHasRoom ns a → all_fit ns a ≡ true
each_has_room ns action.Open room =
    le-leb (open_count (counted_zones ns) + taken_among (counted_zones ns) action.Open) ns.limits.open_limit
    (subst (λ (n : ℕ). n ≤ ns.limits.open_limit) (opened_count ns.capacity ns.zones) room)
each_has_room ns action.Close room = refl
each_has_room ns action.Finish room = refl
each_has_room ns action.Reset room = refl
each_has_room ns action.Offline room = refl

too_many : (x y : ℕ) (fit : Bool) → nat_le x y ≡ fit → ¬ (x ≤ y) → fit ≡ false
too_many x y true is none = absurd (none (leb-true x y is))
too_many x y false is none = refl

one_has_none : (ns : ZonedNamespace) (a : Action) → ¬ EachHasRoom ns a → all_fit ns a ≡ false
one_has_none ns action.Open none =
    too_many (open_count (counted_zones ns) + taken_among (counted_zones ns) action.Open) ns.limits.open_limit (all_fit ns action.Open) refl
    (λ fit. none (subst (λ (n : ℕ). n ≤ ns.limits.open_limit) (sym (opened_count ns.capacity ns.zones)) fit))
one_has_none ns action.Close none = absurd (none tt)
one_has_none ns action.Finish none = absurd (none tt)
one_has_none ns action.Reset none = absurd (none tt)
one_has_none ns action.Offline none = absurd (none tt)

status_of : (ns : ZonedNamespace) (a : Action) (held fit is_held is_fit : Bool) → held ≡ is_held → fit ≡ is_fit
    → (decided ns a held fit).status ≡ (decided ns a is_held is_fit).status
status_of ns a held fit is_held is_fit holds fits = rw (holds, fits) refl

pub select_all_is_refused_by_holds_and_limits : SelectAllIsRefusedByHoldsAndLimits
select_all_is_refused_by_holds_and_limits ns holds a lba = record {
  held = λ z inside is refused.
      let so = held_where (takes a (zone_at ns z).state) (held_among (counted_zones ns) holds a) (λ none. held_is_left ns holds a z none refused) is in
      status_of ns a (held_among (counted_zones ns) holds a) (all_fit ns a) true (all_fit ns a) so refl;
  crowded = λ none crowd.
      status_of ns a (held_among (counted_zones ns) holds a) (all_fit ns a) false false (none_is_held ns holds a none) (one_has_none ns a crowd);
  done = λ none room.
      status_of ns a (held_among (counted_zones ns) holds a) (all_fit ns a) false true (none_is_held ns holds a none) (each_has_room ns a room);
}
