-- The runs that a device may begin with are under way, so the machine goes on from there as it does from its start.
use Rattle.std.proofs.Common.{◌≡◌, ℕ, ◌/◌, ◌≤◌, List, length, Option, ap, sym, subst, arith, inl, inr}
use Rattle.std.proofs.lemmas.Bool.{cases_lt}
use Rattle.std.proofs.lemmas.List.{get_or_past}
use Rattle.image_store.specs.Namespace.{ZoneWithBlocks, no_zone, zone_at}
use Rattle.image_store.proofs.Proved.{written_is_within}
use Rattle.device_meaning.specs.Beginning.{MayBegin}
use Rattle.device_meaning.specs.Judging.{Judge}
use Rattle.device_meaning.specs.State.{Place, State}
use Rattle.turn_machine.specs.Laws.{FixedFromAnyBeginning, GoOnTheSame, TurnsMayWaitFromAnyBeginning, machine_from}
use Rattle.turn_machine.specs.Machine.{machine_after}
use Rattle.turn_machine.proofs.Machines.{after_under_way, go_on_the_same}
use Rattle.turn_machine.proofs.UnderWay.{AreUnderWay}
use Rattle.turn_machine.proofs.Waiting.{waits}
use Rattle.turn_machine.proofs.WithoutTurns.{viewed}

module _ (judge : Judge) (s : State) (begins : MayBegin judge s) where
  -- no zone has more blocks than its size
  written_inside : (z : ℕ) → length (zone_at s.namespace z).blocks ≤ s.namespace.size
  written_inside z = elim (cases_lt z (length s.namespace.zones)) [
    | inl there ↦
        let zone = zone_at s.namespace z in
        let within = written_is_within zone.state (length zone.blocks) s.namespace.capacity (begins.namespace.fits z there) in
        omega (arith, within, begins.namespace.shape.capacity_most)
    | inr past ↦
        subst (λ (zone : ZoneWithBlocks). length zone.blocks ≤ s.namespace.size) (sym (get_or_past s.namespace.zones z no_zone past))
        (omega arith)
  ]

  began_under_way : AreUnderWay (machine_from judge s begins)
  began_under_way run a at =
      let begun = (begins.going run a at).begun in
      let within = written_inside (a.command.lba / s.namespace.size) in
      record { left = omega (arith, begun.left); inside = omega (arith, begun.written, within); written = begun.written }

  began_is_viewed : viewed (machine_from judge s begins) ≡ s
  began_is_viewed =
      ap (λ (places : List (Option Place)). record { namespace = s.namespace; slots = s.slots; places = places }) (sym begins.places)

pub fixed_from_any_beginning : FixedFromAnyBeginning
fixed_from_any_beginning judge s begins events =
    subst (λ (t : State). GoOnTheSame judge (machine_from judge s begins) t events) (began_is_viewed judge s begins)
    (go_on_the_same judge (machine_from judge s begins) (began_under_way judge s begins) events)

pub turns_may_wait_from_any_beginning : TurnsMayWaitFromAnyBeginning
turns_may_wait_from_any_beginning judge s begins before after run a at others =
    let first = machine_from judge s begins in
    waits judge after (machine_after judge before first) (after_under_way judge before first (began_under_way judge s begins)) run a at others
