-- What a turn appends fits into its destination.
use Rattle.std.proofs.Common.{◌≡◌, ◌≢◌, ℕ, ◌+◌, ◌*◌, ◌≤◌, Bool, true, false, cond, List, [], ◌∷◌, ◌++◌, length, Option, None, refl, ap, sym, subst, ◌∙◌, arith, inl, inr, length-append, get_or-set_same}
use Rattle.std.specs.Prelude.{◌⊎◌, nat_eq}
use Rattle.std.specs.List.{concat}
use Rattle.std.proofs.Math.Nat.{mul-le-mul_right}
use Rattle.std.proofs.lemmas.Bool.{eqb-true}
use Rattle.common_definitions.specs.Checks.{first_failed}
use Rattle.zone_state.specs.State.{is_open}
use Rattle.zone_state.specs.Zone.{written_state}
use Rattle.zone_state.specs.declared.state.ZoneState.{ZoneState}
use Rattle.zone_state.specs.declared.state.ZoneState.TheVariants.{ImplicitlyOpened, ExplicitlyOpened, Full}
use Rattle.zone_resources.specs.Holds.{no_holds}
use Rattle.nvme_entry.specs.declared.command.TheConstants.{MOST_TRANSFER}
use Rattle.image_store.specs.Namespace.{ZoneWithBlocks, ZonedNamespace, IsNamespace, appended, grown, no_zone, zone_at}
use Rattle.image_store.proofs.Proved.{block_most, block_some}
use Rattle.zns_commands.specs.Append.{TakesBlocks, append_checks}
use Rattle.zns_commands.proofs.Proved.{blocks_are_the_effect, added_blocks_keep_namespaces_sound, open_is_there, taken_blocks_pass}
use Rattle.device_meaning.specs.Laws.{IsAppended, RoomIn, RoomIsOpen, RoomStays}
use Rattle.device_meaning.specs.Happenings.{added}
use Rattle.device_meaning.specs.Outcome.{Ending, Turn, appended_by}
use Rattle.device_meaning.proofs.Added.{added_bytes, bytes_are, bytes_count, bytes_long}
use Rattle.device_meaning.proofs.Bytes.{AreBlocks}

pub room_is_open : RoomIsOpen
room_is_open capacity zone b bs ending later h = elim h.opened [
  | inl is ↦ is
  | inr filled ↦ absurd (omega (arith, h.room, filled))
]

open_stays : (s : ZoneState) → is_open s ≡ true → is_open (written_state s) ≡ true
open_stays ImplicitlyOpened is = refl
open_stays ExplicitlyOpened is = refl
open_stays s is = cc

-- an open zone with room takes blocks
module _ (ns : ZonedNamespace) (z : ℕ) (b : List ℕ) (bs : List (List ℕ)) (is : is_open (zone_at ns z).state ≡ true)
    (room : length (zone_at ns z).blocks + length (b ∷ bs) ≤ ns.capacity) where
  abbrev more : List (List ℕ)
  more = b ∷ bs

  abbrev before : ℕ
  before = length (zone_at ns z).blocks

  open_by : (filled : Bool) → filled ≡ nat_eq (before + length more) ns.capacity
      → (is_open (cond filled Full (written_state (zone_at ns z).state)) ≡ true) ⊎ (length ((zone_at ns z).blocks ++ more) ≡ ns.capacity)
  open_by true e = inr (length-append (zone_at ns z).blocks more ∙ eqb-true (before + length more) ns.capacity (sym e))
  open_by false e = inl (open_stays (zone_at ns z).state is)

  more_open : (is_open (grown ns.capacity (zone_at ns z) more).state ≡ true)
      ⊎ (length (grown ns.capacity (zone_at ns z) more).blocks ≡ ns.capacity)
  more_open = open_by (nat_eq (before + length more) ns.capacity) refl

  more_takes : IsNamespace ns → AreBlocks ns.block more → TakesBlocks ns z (concat more)
  more_takes sound new =
      let some : 1 ≤ ns.block = omega (arith, block_some sound.shape) in
      let count = bytes_count ns.block more some new in
      record {
        opened = is;
        some = omega (arith, count);
        whole = bytes_long ns.block more new ∙ ap (λ (n : ℕ). n * ns.block) (sym count);
        room = omega (arith, room, count);
      }

  more_added : IsNamespace ns → AreBlocks ns.block more → added ns z more ≡ appended ns z (concat more)
  more_added sound new = added_bytes ns z more (λ e. cc) (omega (arith, block_some sound.shape)) new

  more_sound : IsNamespace ns → AreBlocks ns.block more → IsNamespace (added ns z more)
  more_sound sound new =
      subst IsNamespace (sym (more_added sound new))
      (added_blocks_keep_namespaces_sound ns z (concat more) sound (more_takes sound new) (bytes_are ns.block more new))

  more_appended : IsNamespace ns → AreBlocks ns.block more → length more ≤ 2 → IsAppended ns z more
  more_appended sound new few =
      let takes = more_takes sound new in
      let product : length more * ns.block ≤ 2 * ns.block = mul-le-mul_right ns.block few in
      let long = bytes_long ns.block more new in
      let most : length (concat more) ≤ MOST_TRANSFER = omega (arith, long, product, block_most sound.shape) in
      let count = bytes_count ns.block more (omega (arith, block_some sound.shape)) new in
      record {
        takes = takes;
        passes =
            subst (λ (n : ℕ). first_failed (append_checks ns no_holds (z * ns.size) n (concat more)) ≡ None)
            count (taken_blocks_pass ns z (concat more) sound takes most);
        effect = more_added sound new ∙ blocks_are_the_effect ns z (concat more) sound takes;
      }

-- ---- a turn whose blocks fit

abbrev HasRoom : ZonedNamespace → ℕ → List (List ℕ) → Option Ending → List Turn → Type 0
HasRoom ns z blocks ending turns = RoomIn ns.capacity (zone_at ns z) (record { blocks = blocks; ending = ending } ∷ turns)

pub turn_sound : (ns : ZonedNamespace) (z : ℕ) (blocks : List (List ℕ)) (ending : Option Ending) (turns : List Turn) → IsNamespace ns
    → AreBlocks ns.block blocks → HasRoom ns z blocks ending turns → IsNamespace (added ns z blocks)
turn_sound ns z [] ending turns sound new h = sound
turn_sound ns z (b ∷ bs) ending turns sound new h =
    more_sound ns z b bs (room_is_open ns.capacity (zone_at ns z) b bs ending turns h)
    (omega (arith, h.room, length-append (b ∷ bs) (appended_by turns))) sound new

pub turn_appended : (ns : ZonedNamespace) (z : ℕ) (blocks : List (List ℕ)) (ending : Option Ending) (turns : List Turn) → IsNamespace ns
    → AreBlocks ns.block blocks → length blocks ≤ 2 → HasRoom ns z blocks ending turns → blocks ≢ [] → IsAppended ns z blocks
turn_appended ns z [] ending turns sound new few h some = absurd (some refl)
turn_appended ns z (b ∷ bs) ending turns sound new few h some =
    more_appended ns z b bs (room_is_open ns.capacity (zone_at ns z) b bs ending turns h)
    (omega (arith, h.room, length-append (b ∷ bs) (appended_by turns))) sound new few

pub room_stays : RoomStays
room_stays ns z [] ending turns h = record { room = h.room; opened = h.opened }
room_stays ns z (b ∷ bs) ending turns h =
    let is = room_is_open ns.capacity (zone_at ns z) b bs ending turns h in
    let more = length-append (b ∷ bs) (appended_by turns) in
    let fits : length (zone_at ns z).blocks + length (b ∷ bs) ≤ ns.capacity = omega (arith, h.room, more) in
    let zone = grown ns.capacity (zone_at ns z) (b ∷ bs) in
    let here : zone_at (added ns z (b ∷ bs)) z ≡ zone = get_or-set_same ns.zones z zone no_zone (open_is_there ns.zones z is) in
    let all = length-append (zone_at ns z).blocks (b ∷ bs) in
    subst (λ (x : ZoneWithBlocks). RoomIn ns.capacity x turns) (sym here)
    (record { room = omega (arith, h.room, more, all); opened = more_open ns z b bs is fits })
