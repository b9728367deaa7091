-- That a write keeps a namespace sound.
use Rattle.std.proofs.Common.{◌≡◌, ℕ, ◌+◌, ◌*◌, ◌/◌, ◌<◌, ◌≤◌, Bool, true, false, cond, List, [], ◌++◌, length, get_or, Option, None, Ok, ap, sym, subst, ◌∙◌, arith, length-append}
use Rattle.std.specs.Prelude.{nat_eq}
use Rattle.std.proofs.Math.Nat.{mul-div_cancel}
use Rattle.std.proofs.lemmas.List.Elements.{All-append, All-from_get_or}
use Rattle.zone_state.specs.Zone.{IsZone, write_check, write_refusal, after_write, written_state}
use Rattle.zone_state.specs.declared.state.ZoneState.{ZoneState}
use Rattle.zone_state.specs.declared.state.ZoneState.TheVariants.{Empty, ImplicitlyOpened, ExplicitlyOpened, Closed, ReadOnly, Full, Offline}
use Rattle.zone_state.proofs.Proved.{is_allowed}
use Rattle.zone_resources.specs.Admission.{wanted_of, HoldsNoMore}
use Rattle.zone_resources.specs.declared.holds.Holds.{Holds}
use Rattle.common_definitions.specs.Bytes.{AreBytes}
use Rattle.common_definitions.proofs.Proved.{each_behind}
use Rattle.image_store.specs.Blocks.{as_blocks, block_count}
use Rattle.image_store.specs.Namespace.{ZoneWithBlocks, ZonedNamespace, zone_at, counted, grown, IsNamespace, IsWithinLimits}
use Rattle.image_store.proofs.Proved.{block_some, blocks_are_bytes, blocks_are_counted, blocks_are_whole, writes_keep_zones}
use Rattle.zns_commands.specs.Address.{counted_zone_at}
use Rattle.zns_commands.specs.Resources.{room_for}
use Rattle.zns_commands.specs.steps.Plans.{written_by}
use Rattle.zns_commands.proofs.FittingZones.{FitsIn, zone_fits}
use Rattle.zns_commands.proofs.GivenWay.{HasRoom, has_room, room_sound, written_is}

-- blocks behind blocks
each_append : (P : List ℕ → Type 0) (xs ys : List (List ℕ))
    → ((i : ℕ) → i < length xs → P (get_or xs i [])) → ((i : ℕ) → i < length ys → P (get_or ys i []))
    → (i : ℕ) → i < length (xs ++ ys) → P (get_or (xs ++ ys) i [])
each_append P xs ys front back i h = All-append P xs ys (All-from_get_or P xs [] front) (All-from_get_or P ys [] back) i [] h

-- so many blocks are counted as so many
pub count_of : (n block : ℕ) (bytes : List ℕ) → 1 ≤ block → length bytes ≡ n * block → block_count block bytes ≡ n
count_of n block bytes some whole = ap (λ (m : ℕ). m / block) whole ∙ mul-div_cancel n (omega arith)

-- the blocks that a write brings
pub record Brings (block blocks : ℕ) (more : List (List ℕ)) : Type 0 where
  pub count : length more ≡ blocks
  pub whole : (i : ℕ) → i < length more → length (get_or more i []) ≡ block

pub brings : (block blocks : ℕ) (input : List ℕ) → 1 ≤ block → length input ≡ blocks * block → Brings block blocks (as_blocks block input)
brings block blocks input some size =
    let n = block_count block input in
    let is = count_of blocks block input some size in
    let long : n * block ≤ length input = subst (λ (m : ℕ). m * block ≤ length input) (sym is) (omega arith) in
    let count = blocks_are_counted block n input in
    record { count = count ∙ is; whole = λ i h. blocks_are_whole block n i input (omega arith) long }

grown_fits : (b c : ℕ) (zone : ZoneWithBlocks) (more : List (List ℕ)) (n : ℕ)
    → FitsIn b c zone → 1 ≤ n → Brings b n more → ((i : ℕ) → AreBytes (get_or more i [])) → write_check (counted c zone) (length zone.blocks) n ≡ Ok tt
    → FitsIn b c (grown c zone more)
grown_fits b c zone more n fits some bring are allowed =
    let long : length zone.blocks + n ≡ length (zone.blocks ++ more) = omega (arith, length-append zone.blocks more, bring.count) in
    record {
      state =
          subst (λ (k : ℕ). IsZone (after_write (counted c zone) (length more)).state k c) long
          (subst (λ (k : ℕ). IsZone (after_write (counted c zone) k).state (length zone.blocks + n) c) (sym bring.count)
          (writes_keep_zones (counted c zone) n some allowed));
      whole = each_append (λ block. length block ≡ b) zone.blocks more fits.whole bring.whole;
      bytes = each_behind AreBytes [] zone.blocks more fits.bytes are;
    }

-- a write opens no zone that wants nothing
write_takes_none : (s : ZoneState) (full : Bool) → write_refusal s ≡ None → wanted_of s ≡ None → HoldsNoMore (cond full Full (written_state s)) s
write_takes_none Empty full fits none = cc
write_takes_none Closed full fits none = cc
write_takes_none ReadOnly full fits none = cc
write_takes_none Full full fits none = cc
write_takes_none Offline full fits none = cc
write_takes_none ImplicitlyOpened true fits none = record { opened = omega arith; active = omega arith }
write_takes_none ImplicitlyOpened false fits none = record { opened = omega arith; active = omega arith }
write_takes_none ExplicitlyOpened true fits none = record { opened = omega arith; active = omega arith }
write_takes_none ExplicitlyOpened false fits none = record { opened = omega arith; active = omega arith }

-- the limits allow a write that isn't refused, whatever is written
pub written_within : (ns : ZonedNamespace) (z at blocks : ℕ) (gives : Option ℕ) (input : List ℕ) → HasRoom ns z gives
    → write_check (counted_zone_at ns z) at blocks ≡ Ok tt → IsWithinLimits (written_by ns (record { zone = z; closing = gives }) input)
written_within ns z at blocks gives input has allowed =
    let zone = zone_at ns z in
    let more = as_blocks ns.block input in
    subst IsWithinLimits (sym (written_is ns z gives input has.give.other))
    (has.limits (grown ns.capacity zone more)
    (write_takes_none zone.state (nat_eq (length zone.blocks + length more) ns.capacity) (is_allowed (counted_zone_at ns z) at blocks allowed).writable))

pub written_sound : (ns : ZonedNamespace) (holds : Holds) (z blocks : ℕ) (gives : Option ℕ) (input : List ℕ)
    → IsNamespace ns → z < length ns.zones → 1 ≤ blocks → length input ≡ blocks * ns.block → AreBytes input
    → write_check (counted_zone_at ns z) (length (zone_at ns z).blocks) blocks ≡ Ok tt → room_for ns holds (zone_at ns z).state ≡ Ok gives
    → IsNamespace (written_by ns (record { zone = z; closing = gives }) input)
written_sound ns holds z blocks gives input sound inside some size are allowed room =
    let has = has_room ns holds z gives sound inside room in
    let wide : 1 ≤ ns.block = omega (arith, block_some sound.shape) in
    let bring = brings ns.block blocks input wide size in
    let zone = zone_at ns z in
    let more = as_blocks ns.block input in
    subst IsNamespace (sym (written_is ns z gives input has.give.other))
    (room_sound ns z gives (grown ns.capacity zone more) sound has
    (grown_fits ns.block ns.capacity zone more blocks (zone_fits ns z sound inside) some bring
    (blocks_are_bytes ns.block (block_count ns.block input) input are) allowed)
    (write_takes_none zone.state (nat_eq (length zone.blocks + length more) ns.capacity) (is_allowed (counted_zone_at ns z) (length zone.blocks) blocks allowed).writable))
