-- What is left of each run fits into its destination.
use Rattle.std.proofs.Common.{◌≡◌, ℕ, List, ◌∷◌, set, get_or, Option, Some, None, refl, ap, sym, subst, ◌∙◌, inl, inr}
use Rattle.accepted_programs.proofs.Proved.{set_known}
use Rattle.image_store.specs.Namespace.{ZoneWithBlocks, ZonedNamespace, zone_at}
use Rattle.device_meaning.specs.Laws.{RoomIn}
use Rattle.device_meaning.specs.Happenings.{added, place_left}
use Rattle.device_meaning.specs.Outcome.{Ending, Turn}
use Rattle.device_meaning.specs.State.{Place, State, place_at}
use Rattle.device_meaning.proofs.Added.{added_capacity, added_leaves}
use Rattle.device_meaning.proofs.Places.{AreApart}
use Rattle.device_meaning.proofs.TurnsFit.{room_stays}

abbrev pub Rooms : State → Type 0
Rooms s = (j : ℕ) (p : Place) → place_at s j ≡ Some p → RoomIn s.namespace.capacity (zone_at s.namespace p.destination) p.turns

moved_room : (c c' : ℕ) (z z' : ZoneWithBlocks) (turns : List Turn) → c' ≡ c → z' ≡ z → RoomIn c z turns → RoomIn c' z' turns
moved_room c c' z z' turns same_c same_z h =
    subst (λ (n : ℕ). RoomIn n z' turns) (sym same_c) (subst (λ (x : ZoneWithBlocks). RoomIn c x turns) (sym same_z) h)

pub kept_rooms : (s t : State) → t.places ≡ s.places → t.namespace.capacity ≡ s.namespace.capacity
    → ((j : ℕ) (p : Place) → place_at s j ≡ Some p → zone_at t.namespace p.destination ≡ zone_at s.namespace p.destination) → Rooms s → Rooms t
kept_rooms s t places capacity zones rooms j p at_t =
    let at = ap (λ (ps : List (Option Place)). get_or ps j None) (sym places) ∙ at_t in
    moved_room s.namespace.capacity t.namespace.capacity (zone_at s.namespace p.destination) (zone_at t.namespace p.destination) p.turns
    capacity (zones j p at) (rooms j p at)

-- a turn of an active run
module _ (s : State) (run : ℕ) (place : Place) (turn : Turn) (later : List Turn) (apart : AreApart s.places) (rooms : Rooms s)
    (here : place_at s run ≡ Some place) (first : place.turns ≡ turn ∷ later) where
  abbrev next : ZonedNamespace
  next = added s.namespace place.destination turn.blocks

  pub now_room : RoomIn s.namespace.capacity (zone_at s.namespace place.destination) (turn ∷ later)
  now_room = subst (λ (turns : List Turn). RoomIn s.namespace.capacity (zone_at s.namespace place.destination) turns) first (rooms run place here)

  own_room : (ending : Option Ending) (p : Place) → place_left place later ending ≡ Some p → RoomIn next.capacity (zone_at next p.destination) p.turns
  own_room None p is =
      let same : record place { turns = later } ≡ p = cc in
      let room = moved_room s.namespace.capacity next.capacity (zone_at next place.destination) (zone_at next place.destination) later
      (added_capacity s.namespace place.destination turn.blocks) refl
      (room_stays s.namespace place.destination turn.blocks turn.ending later now_room) in
      subst (λ (q : Place). RoomIn next.capacity (zone_at next q.destination) q.turns) same room
  own_room (Some ending) p is = cc

  pub turn_rooms : (j : ℕ) (p : Place) → get_or (set s.places run (place_left place later turn.ending)) j None ≡ Some p
      → RoomIn next.capacity (zone_at next p.destination) p.turns
  turn_rooms j p at = elim (set_known s.places run j (place_left place later turn.ending) p at) [
    | inl is ↦ own_room turn.ending p is.1
    | inr other ↦
        moved_room s.namespace.capacity next.capacity (zone_at s.namespace p.destination) (zone_at next p.destination) p.turns
        (added_capacity s.namespace place.destination turn.blocks)
        (added_leaves s.namespace place.destination p.destination turn.blocks (λ same. other.0 (apart.apart j run p place other.1 here same)))
        (rooms j p other.1)
  ]
