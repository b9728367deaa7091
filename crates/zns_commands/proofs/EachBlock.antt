-- That each block that a Read gives is the zone's, or zeros where it isn't written.
use Rattle.std.proofs.Common.{◌≡◌, ℕ, zero, suc, ◌+◌, ◌*◌, ◌<◌, List, [], ◌∷◌, ◌++◌, length, get_or, take, drop, replicate, Option, refl, ap, sym, subst, ◌∙◌, arith, length-append}
use Rattle.std.specs.List.{concat}
use Rattle.std.proofs.lemmas.List.{get_or-take, get_or-drop, get_or-replicate, length-take, length-replicate}
use Rattle.zone_state.specs.declared.status.Status.{Status}
use Rattle.nvme_entry.specs.declared.command.StandardCommand.TheVariants.{Read}
use Rattle.image_store.specs.Namespace.{ZonedNamespace, zone_at, IsNamespace}
use Rattle.image_store.proofs.Proved.{blocks_are_cut_again, blocks_are_parts}
use Rattle.zns_commands.specs.Address.{zone_number, zone_offset}
use Rattle.zns_commands.specs.Effect.{concluded}
use Rattle.zns_commands.specs.Read.{blocks_read, read_effect}
use Rattle.zns_commands.specs.Laws.{EachBlockIsRead, block_or_zeros}
use Rattle.zns_commands.proofs.Refusals.{success_passes}

-- in a list with others of one kind behind it
padded_at : {X : Type 0} (xs : List X) (more i : ℕ) (other none : X) → i < more → get_or (xs ++ replicate more other) i none ≡ get_or xs i other
padded_at [] more i other none inside = get_or-replicate more i other none inside
padded_at (x ∷ xs) more zero other none inside = refl
padded_at (x ∷ xs) more (suc i) other none inside = padded_at xs more i other none (omega arith)

-- one of the blocks that are read
read_at : (block : ℕ) (written : List (List ℕ)) (first count i : ℕ) → i < count
    → get_or (blocks_read block written first count) i [] ≡ get_or written (first + i) (replicate block 0)
read_at block written first count i inside =
    get_or-take count (drop first written ++ replicate count (replicate block 0)) i [] inside
    ∙ (padded_at (drop first written) count i (replicate block 0) [] inside ∙ get_or-drop first written i (replicate block 0))

-- as many are read as are asked for
read_count : (block : ℕ) (written : List (List ℕ)) (first count : ℕ) → length (blocks_read block written first count) ≡ count
read_count block written first count =
    omega (arith, length-take count (drop first written ++ replicate count (replicate block 0)), length-append (drop first written) (replicate count (replicate block 0)), length-replicate {A = List ℕ} count (replicate block 0))

-- each of a list is a whole block
abbrev AreBlocks : ℕ → List (List ℕ) → Type 0
AreBlocks block xs = (k : ℕ) → k < length xs → length (get_or xs k []) ≡ block

whole_or_zeros : (block : ℕ) (xs : List (List ℕ)) (i : ℕ) → AreBlocks block xs → length (get_or xs i (replicate block 0)) ≡ block
whole_or_zeros block [] i whole = length-replicate {A = ℕ} block 0
whole_or_zeros block (x ∷ xs) zero whole = whole 0 (omega arith)
whole_or_zeros block (x ∷ xs) (suc i) whole = whole_or_zeros block xs i (λ k below. whole (suc k) (omega arith))

-- one of whole blocks, in their bytes
block_in_bytes : (block i : ℕ) (xs : List (List ℕ)) → AreBlocks block xs → i < length xs → take block (drop (i * block) (concat xs)) ≡ get_or xs i []
block_in_bytes block i xs whole inside =
    sym (blocks_are_parts block (length xs) i (concat xs) inside) ∙ ap (λ (all : List (List ℕ)). get_or all i []) (blocks_are_cut_again block xs whole)

each_block : (ns : ZonedNamespace) (z first count i : ℕ) → IsNamespace ns → i < count
    → take ns.block (drop (i * ns.block) (concat (blocks_read ns.block (zone_at ns z).blocks first count))) ≡ block_or_zeros ns z (first + i)
each_block ns z first count i sound inside =
    let written = (zone_at ns z).blocks in
    let all = read_count ns.block written first count in
    block_in_bytes ns.block i (blocks_read ns.block written first count)
    (λ k below. ap length (read_at ns.block written first count k (omega (arith, all))) ∙ whole_or_zeros ns.block written (first + k) (sound.whole z))
    (omega (arith, all))
    ∙ read_at ns.block written first count i inside

pub each_block_is_read : EachBlockIsRead
each_block_is_read ns holds lba blocks input i sound done inside =
    let read = read_effect ns lba blocks in
    subst (λ (r : Option Status). take ns.block (drop (i * ns.block) (concluded r ns read).output) ≡ block_or_zeros ns (zone_number ns lba) (zone_offset ns lba + i))
    (sym (success_passes ns holds (Read lba blocks) input done))
    (each_block ns (zone_number ns lba) (zone_offset ns lba) blocks i sound inside)
