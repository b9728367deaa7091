-- Blocks that are written to a zone one after another.
use Rattle.std.proofs.Common.{◌≡◌, ℕ, ◌+◌, ◌<◌, ◌≤◌, Bool, false, cond, List, [], ◌∷◌, ◌++◌, length, ap, ◌∙◌, arith, length-append, get_or-set_same, append_assoc}
use Rattle.std.specs.Prelude.{nat_eq}
use Rattle.std.proofs.lemmas.List.{take_all, set-set}
use Rattle.std.proofs.lemmas.Bool.{ne_eqb}
use Rattle.zone_state.specs.Zone.{written_state}
use Rattle.zone_state.proofs.Proved.{written_twice}
use Rattle.zone_state.specs.declared.state.ZoneState.{ZoneState}
use Rattle.zone_state.specs.declared.state.ZoneState.TheVariants.{Full}
use Rattle.common_definitions.specs.Bytes.{pieces}
use Rattle.image_store.specs.Blocks.{as_blocks}
use Rattle.image_store.specs.Namespace.{ZoneWithBlocks, ZonedNamespace, appended, grown, no_zone, with_zone, zone_at}
use Rattle.zns_commands.proofs.Proved.{count_of}
use Rattle.device_meaning.specs.Happenings.{added}

-- ---- one block

one_block : (block : ℕ) (bytes : List ℕ) → 1 ≤ block → length bytes ≡ block → as_blocks block bytes ≡ bytes ∷ []
one_block block bytes some same =
    ap (λ (n : ℕ). pieces block n bytes) (count_of 1 block bytes some (omega (arith, same)))
    ∙ ap (λ (b : List ℕ). b ∷ []) (take_all block bytes (omega (arith, same)))

pub one_appended : (ns : ZonedNamespace) (z : ℕ) (bytes : List ℕ) → 1 ≤ ns.block → length bytes ≡ ns.block → appended ns z bytes ≡ added ns z (bytes ∷ [])
one_appended ns z bytes some same =
    ap (λ (blocks : List (List ℕ)). with_zone ns z (grown ns.capacity (zone_at ns z) blocks)) (one_block ns.block bytes some same)

-- ---- some blocks and then others

pub added_both : (ns : ZonedNamespace) (z : ℕ) (b c : List ℕ) (bs cs : List (List ℕ)) → z < length ns.zones
    → length (zone_at ns z).blocks + length ((b ∷ bs) ++ (c ∷ cs)) ≤ ns.capacity
    → added (added ns z (b ∷ bs)) z (c ∷ cs) ≡ added ns z ((b ∷ bs) ++ (c ∷ cs))
added_both ns z b c bs cs inside room =
    let zone = zone_at ns z in
    let n = length zone.blocks in
    let first = grown ns.capacity zone (b ∷ bs) in
    let second = grown ns.capacity first (c ∷ cs) in
    let both = length-append (b ∷ bs) (c ∷ cs) in
    let size : length (zone.blocks ++ (b ∷ bs)) + length (c ∷ cs) ≡ n + length ((b ∷ bs) ++ (c ∷ cs)) = omega (arith, length-append zone.blocks (b ∷ bs), both) in
    let part : nat_eq (n + length (b ∷ bs)) ns.capacity ≡ false =
    ne_eqb (n + length (b ∷ bs)) ns.capacity (λ same. omega (arith, room, both)) in
    let whole = nat_eq (n + length ((b ∷ bs) ++ (c ∷ cs))) ns.capacity in
    let state : second.state ≡ (grown ns.capacity zone ((b ∷ bs) ++ (c ∷ cs))).state =
    ap (λ (k : ℕ). cond (nat_eq k ns.capacity) Full (written_state first.state)) size
    ∙ ap (λ (full : Bool). cond whole Full (written_state (cond full Full (written_state zone.state)))) part
    ∙ ap (cond whole Full) (written_twice zone.state) in
    let zones_with : List ZoneWithBlocks → ZonedNamespace = λ zones. record { block = ns.block; size = ns.size; capacity = ns.capacity; limits = ns.limits; zones = zones } in
    ap (λ (x : ZoneWithBlocks). with_zone (with_zone ns z first) z (grown ns.capacity x (c ∷ cs))) (get_or-set_same ns.zones z first no_zone inside)
    ∙ ap zones_with (set-set ns.zones z first second)
    ∙ ap (λ (s : ZoneState). with_zone ns z (record { state = s; blocks = second.blocks })) state
    ∙ ap (λ (blocks : List (List ℕ)). with_zone ns z (record { state = (grown ns.capacity zone ((b ∷ bs) ++ (c ∷ cs))).state; blocks = blocks }))
    (append_assoc zone.blocks (b ∷ bs) (c ∷ cs))
