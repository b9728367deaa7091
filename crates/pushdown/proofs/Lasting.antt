-- What events keep of a zone that they don't clear, and that they keep the shape of the namespace.
use Rattle.std.proofs.Common.{◌≡◌, ℕ, Bool, false, List, [], ◌∷◌, refl, ◌∙◌}
use Rattle.device_meaning.specs.Judging.{Judge}
use Rattle.image_store.specs.Namespace.{ZonedNamespace, shape, zone_at}
use Rattle.zone_state.specs.State.{is_cleared}
use Rattle.zns_commands.specs.Laws.{NamespaceEvent, after}
use Rattle.zns_commands.proofs.Proved.{KeepsZone, events_keep_zones, grows_on, shapes_are_kept, uncleared_is_readable}
use Rattle.device_meaning.specs.Events.{Occurrence, state_after}
use Rattle.device_meaning.specs.Happenings.{added, happens}
use Rattle.pushdown.specs.ReadBack.{EventsKeepShapes, NoEventClears, UnclearedZonesKeepBlocks}
use Rattle.device_meaning.specs.State.{State}
use Rattle.device_events.specs.ToldEvents.{ToldEvent}
use Rattle.device_meaning.proofs.Proved.{added_grows, added_shape, after_event}

-- the state of a zone isn't that of one that was reset or lost
abbrev Uncleared : ZonedNamespace → ℕ → Type 0
Uncleared ns z = is_cleared (zone_at ns z).state ≡ false

keeps_itself : (ns : ZonedNamespace) (z : ℕ) → KeepsZone ns ns z
keeps_itself ns z = events_keep_zones [] ns z tt

keeps_on : (a b c : ZonedNamespace) (z : ℕ) → KeepsZone a b z → KeepsZone b c z → KeepsZone a c z
keeps_on a b c z first second = record {
  same_shape = second.same_shape ∙ first.same_shape;
  blocks = grows_on (zone_at a z).blocks (zone_at b z).blocks (zone_at c z).blocks first.blocks second.blocks;
  readable = λ known. second.readable (first.readable known);
}

step_keeps : (step : NamespaceEvent) (ns : ZonedNamespace) (z : ℕ) → Uncleared (after step ns) z → KeepsZone ns (after step ns) z
step_keeps step ns z stays = events_keep_zones (step ∷ []) ns z (stays, tt)

added_keeps : (ns : ZonedNamespace) (d z : ℕ) (blocks : List (List ℕ)) → Uncleared (added ns d blocks) z → KeepsZone ns (added ns d blocks) z
added_keeps ns d z [] stays = keeps_itself ns z
added_keeps ns d z (b ∷ bs) stays = record {
  same_shape = added_shape ns d (b ∷ bs);
  blocks = added_grows ns d z (b ∷ bs);
  readable = λ known. uncleared_is_readable (zone_at (added ns d (b ∷ bs)) z).state stays;
}

module _ (judge : Judge) where
  event_keeps : (s : State) (starved : Bool) (e : ToldEvent) (z : ℕ) → Uncleared (happens judge s starved e).state.namespace z
      → KeepsZone s.namespace (happens judge s starved e).state.namespace z
  event_keeps s starved e z =
      after_event judge (λ (t : State). Uncleared t.namespace z → KeepsZone s.namespace t.namespace z) s starved e (record {
        same = λ stays. keeps_itself s.namespace z;
        step = λ step same is stays. step_keeps step s.namespace z stays;
        load = λ sub load t are takes stays. keeps_itself s.namespace z;
        start = λ sub command run passed free some stays. keeps_itself s.namespace z;
        turn = λ run place turn later is at first stays. added_keeps s.namespace place.destination z turn.blocks stays;
      })

  pub events_keep : (events : List Occurrence) (s : State) (z : ℕ) → NoEventClears judge z events s
      → KeepsZone s.namespace (state_after judge events s).namespace z
  events_keep [] s z none = keeps_itself s.namespace z
  events_keep (o ∷ os) s z none =
      let next = (happens judge s o.starved o.event).state in
      keeps_on s.namespace next.namespace (state_after judge os next).namespace z
      (event_keeps s o.starved o.event z none.0) (events_keep os next z none.1)

  pub uncleared_zones_keep_blocks : UnclearedZonesKeepBlocks judge
  uncleared_zones_keep_blocks s events z none = (events_keep events s z none).blocks

  event_shape : (s : State) (starved : Bool) (e : ToldEvent) → shape (happens judge s starved e).state.namespace ≡ shape s.namespace
  event_shape s starved e = after_event judge (λ (t : State). shape t.namespace ≡ shape s.namespace) s starved e (record {
    same = refl;
    step = λ step same is. shapes_are_kept step s.namespace;
    load = λ sub load t are takes. refl;
    start = λ sub command run passed free some. refl;
    turn = λ run place turn later is at first. added_shape s.namespace place.destination turn.blocks;
  })

  pub events_keep_shapes : EventsKeepShapes judge
  events_keep_shapes s [] = refl
  events_keep_shapes s (o ∷ os) = events_keep_shapes (happens judge s o.starved o.event).state os ∙ event_shape s o.starved o.event
