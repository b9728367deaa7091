-- That written blocks which follow one another in a zone are a part of its list.
use Rattle.std.proofs.Common.{◌≡◌, ℕ, zero, suc, ◌+◌, ◌*◌, ◌/◌, ◌%◌, ◌<◌, ◌≤◌, List, [], ◌∷◌, length, get_or, take, drop, refl, ap, sym, ◌∙◌, arith, drop-cons, add-one}
use Rattle.std.proofs.lemmas.Nat.{div-mul-add, mod-mul-add}
use Rattle.std.proofs.Math.Nat.{mod-add-div'}
use Rattle.image_store.specs.Namespace.{ZonedNamespace, zone_at, block_at, IsNamespace}
use Rattle.image_store.proofs.Proved.{blocks_lie_in_zones, written_is_within}
use Rattle.zns_commands.specs.Laws.{ConsecutiveBlocksAreAPart, blocks_from}

-- the block of a zone that lies so many blocks from its lowest one
block_there : (ns : ZonedNamespace) (z o : ℕ) → o < ns.size → block_at ns (z * ns.size + o) ≡ get_or (zone_at ns z).blocks o []
block_there ns z o inside =
    ap (λ (k : ℕ). get_or (zone_at ns k).blocks ((z * ns.size + o) % ns.size) []) (div-mul-add z ns.size o inside)
    ∙ ap (λ (k : ℕ). get_or (zone_at ns z).blocks k []) (mod-mul-add z ns.size o inside)

parts_from : (ns : ZonedNamespace) (z o count : ℕ) → length (zone_at ns z).blocks ≤ ns.size
    → o + count ≤ length (zone_at ns z).blocks → blocks_from ns (z * ns.size + o) count ≡ take count (drop o (zone_at ns z).blocks)
parts_from ns z o zero small written = refl
parts_from ns z o (suc count) small written =
    let blocks = (zone_at ns z).blocks in
    let in_list : o < length blocks = omega arith in
    let next : z * ns.size + o + 1 ≡ z * ns.size + (o + 1) = omega arith in
    let rest : blocks_from ns (z * ns.size + o + 1) count ≡ take count (drop (o + 1) blocks) =
    ap (λ (k : ℕ). blocks_from ns k count) next ∙ parts_from ns z (o + 1) count small (omega arith) in
    let one : drop o blocks ≡ get_or blocks o [] ∷ drop (o + 1) blocks = rw (add-one, drop-cons blocks o []) refl in
    ap (λ (block : List ℕ). block ∷ blocks_from ns (z * ns.size + o + 1) count) (block_there ns z o (omega arith))
    ∙ (ap (λ (others : List (List ℕ)). get_or blocks o [] ∷ others) rest ∙ ap (take (suc count)) (sym one))

some_parts : (ns : ZonedNamespace) (z o count : ℕ) → IsNamespace ns → o + count ≤ length (zone_at ns z).blocks
    → blocks_from ns (z * ns.size + o) count ≡ take count (drop o (zone_at ns z).blocks)
some_parts ns z o zero sound written = refl
some_parts ns z o (suc count) sound written =
    let inside = blocks_lie_in_zones ns.zones z o (omega arith) in
    let most = written_is_within (zone_at ns z).state (length (zone_at ns z).blocks) ns.capacity (sound.fits z inside) in
    parts_from ns z o (suc count) (omega (arith, most, sound.shape.capacity_most)) written

pub consecutive_blocks_are_a_part : ConsecutiveBlocksAreAPart
consecutive_blocks_are_a_part ns lba count sound written =
    let address : lba / ns.size * ns.size + lba % ns.size ≡ lba = omega (arith, mod-add-div' lba ns.size) in
    ap (λ (k : ℕ). blocks_from ns k count) (sym address) ∙ some_parts ns (lba / ns.size) (lba % ns.size) count sound written
