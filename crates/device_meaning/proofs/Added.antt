-- What is added to a zone.
use Rattle.std.proofs.Common.{◌≡◌, ◌≢◌, ℕ, ◌+◌, ◌*◌, ◌<◌, ◌≤◌, Bool, true, false, cond, List, [], ◌∷◌, ◌++◌, length, get_or, refl, ap, sym, subst, ◌∙◌, get_or-set_other, get_or-set_same}
use Rattle.std.specs.Prelude.{nat_eq}
use Rattle.std.specs.List.{concat}
use Rattle.std.proofs.lemmas.List.{append-nil}
use Rattle.zone_state.specs.State.{is_open}
use Rattle.zone_state.specs.Zone.{written_state}
use Rattle.zone_state.specs.declared.state.ZoneState.{ZoneState}
use Rattle.zone_state.specs.declared.state.ZoneState.TheVariants.{Full, Offline}
use Rattle.common_definitions.proofs.Proved.{all_append}
use Rattle.emit_append.proofs.Proved.{AllBytes, FitsByte, by_place, by_recursion}
use Rattle.common_definitions.specs.Bytes.{AreBytes, pieces}
use Rattle.image_store.specs.Blocks.{as_blocks, block_count}
use Rattle.image_store.specs.Geometry.{Shape}
use Rattle.image_store.specs.Namespace.{ZoneWithBlocks, ZonedNamespace, appended, grown, no_zone, shape, with_zone, zone_at}
use Rattle.zns_commands.specs.Left.{Grows}
use Rattle.image_store.proofs.Proved.{blocks_are_cut_again, blocks_have_bytes, is_one_of}
use Rattle.zns_commands.proofs.Proved.{grows_by_none, replaced_grows, with_zone_shape, count_of}
use Rattle.device_meaning.specs.Laws.{BlocksLeaveOthers}
use Rattle.device_meaning.specs.Happenings.{added}
use Rattle.device_meaning.proofs.Bytes.{AreBlocks, whole_at}

-- a zone that isn't Offline is one of the namespace
inside : (zones : List ZoneWithBlocks) (z : ℕ) → (get_or zones z no_zone).state ≢ Offline → z < length zones
inside zones z is = is_one_of (λ zone. zone.state ≢ Offline) (λ on. on refl) zones z is

-- an open zone isn't Offline
pub open_on : (s : ZoneState) → is_open s ≡ true → s ≢ Offline
open_on s is off = let none = ap is_open off in cc

written_on : (s : ZoneState) → written_state s ≢ Offline
written_on Offline e = cc
written_on s e = cc

grown_on : (full : Bool) (s : ZoneState) → cond full Full (written_state s) ≢ Offline
grown_on true s = λ e. cc
grown_on false s = written_on s

pub record IsAdded (ns : ZonedNamespace) (z : ℕ) (blocks : List (List ℕ)) : Type 0 where
  pub blocks_is : (zone_at (added ns z blocks) z).blocks ≡ (zone_at ns z).blocks ++ blocks
  pub on : (zone_at (added ns z blocks) z).state ≢ Offline

-- blocks that are added to a zone which isn't Offline stand behind its own, and it still isn't Offline
pub is_added : (ns : ZonedNamespace) (z : ℕ) (blocks : List (List ℕ)) → (zone_at ns z).state ≢ Offline → IsAdded ns z blocks
is_added ns z [] on = record { blocks_is = sym (append-nil (zone_at ns z).blocks); on = on }
is_added ns z (b ∷ bs) on =
    let zone = grown ns.capacity (zone_at ns z) (b ∷ bs) in
    let here : zone_at (added ns z (b ∷ bs)) z ≡ zone = get_or-set_same ns.zones z zone no_zone (inside ns.zones z on) in
    record {
      blocks_is = ap (λ (x : ZoneWithBlocks). x.blocks) here;
      on = subst (λ (x : ZoneWithBlocks). x.state ≢ Offline) (sym here)
          (grown_on (nat_eq (length (zone_at ns z).blocks + length (b ∷ bs)) ns.capacity) (zone_at ns z).state);
    }

-- blocks that are added to a zone leave each other zone as it is
pub added_leaves : (ns : ZonedNamespace) (z other : ℕ) (blocks : List (List ℕ)) → other ≢ z → zone_at (added ns z blocks) other ≡ zone_at ns other
added_leaves ns z other [] differs = refl
added_leaves ns z other (b ∷ bs) differs = get_or-set_other ns.zones z other (grown ns.capacity (zone_at ns z) (b ∷ bs)) no_zone differs

-- blocks that are added to a zone leave the shape as it is
pub added_shape : (ns : ZonedNamespace) (z : ℕ) (blocks : List (List ℕ)) → shape (added ns z blocks) ≡ shape ns
added_shape ns z [] = refl
added_shape ns z (b ∷ bs) = with_zone_shape ns z (grown ns.capacity (zone_at ns z) (b ∷ bs))

pub added_block : (ns : ZonedNamespace) (z : ℕ) (blocks : List (List ℕ)) → (added ns z blocks).block ≡ ns.block
added_block ns z blocks = ap (λ (x : Shape). x.block) (added_shape ns z blocks)

pub added_capacity : (ns : ZonedNamespace) (z : ℕ) (blocks : List (List ℕ)) → (added ns z blocks).capacity ≡ ns.capacity
added_capacity ns z blocks = ap (λ (x : Shape). x.capacity) (added_shape ns z blocks)

-- where blocks are added to a zone, each zone has those of before, and perhaps some behind them
pub added_grows : (ns : ZonedNamespace) (z other : ℕ) (blocks : List (List ℕ)) → Grows (zone_at ns other).blocks (zone_at (added ns z blocks) other).blocks
added_grows ns z other [] = grows_by_none (zone_at ns other).blocks
added_grows ns z other (b ∷ bs) =
    replaced_grows ns.zones z other (grown ns.capacity (zone_at ns z) (b ∷ bs))
    (λ same is. record { more = b ∷ bs; is = ap (λ (n : ℕ). (get_or ns.zones n no_zone).blocks ++ b ∷ bs) same })

-- ---- whole blocks, and their bytes

module _ (block : ℕ) where
  pub bytes_long : (blocks : List (List ℕ)) → AreBlocks block blocks → length (concat blocks) ≡ length blocks * block
  bytes_long blocks h = blocks_have_bytes block blocks (whole_at block blocks h)

  all_bytes : (blocks : List (List ℕ)) → AreBlocks block blocks → AllBytes (concat blocks)
  all_bytes [] h = tt
  all_bytes (b ∷ bs) h = all_append FitsByte b (concat bs) (by_recursion b h.0.are) (all_bytes bs h.1)

  pub bytes_are : (blocks : List (List ℕ)) → AreBlocks block blocks → AreBytes (concat blocks)
  bytes_are blocks h = by_place (concat blocks) (all_bytes blocks h)

  pub bytes_count : (blocks : List (List ℕ)) → 1 ≤ block → AreBlocks block blocks → block_count block (concat blocks) ≡ length blocks
  bytes_count blocks some h = count_of (length blocks) block (concat blocks) some (bytes_long blocks h)

  bytes_cut : (blocks : List (List ℕ)) → 1 ≤ block → AreBlocks block blocks → as_blocks block (concat blocks) ≡ blocks
  bytes_cut blocks some h =
      ap (λ (n : ℕ). pieces block n (concat blocks)) (bytes_count blocks some h) ∙ blocks_are_cut_again block blocks (whole_at block blocks h)

-- blocks that are added are written as their bytes
pub added_bytes : (ns : ZonedNamespace) (z : ℕ) (blocks : List (List ℕ)) → blocks ≢ [] → 1 ≤ ns.block → AreBlocks ns.block blocks
    → added ns z blocks ≡ appended ns z (concat blocks)
added_bytes ns z [] some one h = absurd (some refl)
added_bytes ns z (b ∷ bs) some one h =
    ap (λ (more : List (List ℕ)). with_zone ns z (grown ns.capacity (zone_at ns z) more)) (sym (bytes_cut ns.block (b ∷ bs) one h))

pub blocks_leave_others : BlocksLeaveOthers
blocks_leave_others ns z blocks = record { same_shape = added_shape ns z blocks; others = λ other differs. added_leaves ns z other blocks differs }
