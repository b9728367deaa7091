-- A text of a namespace is read as that namespace.
use Rattle.std.proofs.Common.{◌≡◌, ℕ, ◌+◌, ◌*◌, ◌^◌, ◌<◌, ◌≤◌, suc, Bool, cond, List, [], ◌∷◌, ◌++◌, length, get_or, map, Result, Ok, Err, refl, ap, sym, subst, ◌∙◌, append_assoc, arith}
use Rattle.std.specs.List.{concat}
use Rattle.std.proofs.lemmas.Bool.{eq-eqb, le-leb}
use Rattle.std.proofs.lemmas.List.{append-nil, get_or-map, length-map}
use Rattle.std.proofs.lemmas.List.Elements.{All-from_get_or}
use Rattle.std.proofs.lemmas.List.Sums.{sum_by-le}
use Rattle.std.proofs.Math.Nat.{mul-le-mul}
use Rattle.byteorder.specs.Numbers.{little_number-reads_back}
use Rattle.zone_state.specs.State.{code_of, state_of}
use Rattle.zone_state.specs.Zone.{CountedZone, IsZone}
use Rattle.zone_state.proofs.Proved.{codes_are_distinct}
use Rattle.zone_resources.specs.Admission.{IsWithin}
use Rattle.zone_resources.specs.Counts.{open_count, active_count}
use Rattle.zone_resources.specs.declared.admission.Limits.{Limits}
use Rattle.common_definitions.proofs.Proved.{length-flat_map-each}
use Rattle.image_text.specs.declared.fault.LoadFault.{LoadFault}
use Rattle.image_text.specs.declared.fault.LoadFault.TheVariants as fault
use Rattle.image_text.specs.declared.fault.ZoneRowFault.TheVariants as row_fault
use Rattle.image_store.specs.ImageInMemory.{no_counted_zone, zone_seen}
use Rattle.image_store.specs.declared.geometry.TheConstants.{MOST_ZONES}
use Rattle.image_text.specs.declared.header.Header.{Header}
use Rattle.image_text.specs.declared.version.Version.{Version}
use Rattle.image_text.specs.declared.version.Version.TheVariants.{One, Two}
use Rattle.image_store.specs.Geometry.{Shape}
use Rattle.image_text.specs.Laws.{EachVersionLoads, SavedTextsLoad}
use Rattle.image_store.specs.Namespace.{ZoneWithBlocks, ZonedNamespace, no_zone, counted, counted_zones, shape, IsNamespace}
use Rattle.common_definitions.specs.Readings.{◌>>=◌}
use Rattle.image_text.specs.Reading.{zone_told, zone_in, zones_in, zone_rows_in, total_kept, limits_kept, blocks_in, namespace_in}
use Rattle.image_text.specs.Text.{header, written_blocks, zone_row, zone_rows, blocks_text}
use Rattle.image_text.specs.Version.{HasText}
use Rattle.image_text.proofs.FilledBuffers.{Split, bytes_whole}
use Rattle.image_text.proofs.Headers.{header_read, header_seen, total_in}
use Rattle.image_store.proofs.Proved.{blocks_are_cut_again, blocks_have_bytes, written_is_within}
use Rattle.image_text.proofs.Versions.{last_version_has_all}
use Rattle.image_text.specs.steps.LoadStages.{after_limits}
use Rattle.image_text.proofs.LoadStages.{past_header, past_rows, past_total, past_limits, past_blocks, past_end}

-- a zone that a row can spell
pub record CanSpell (capacity : ℕ) (z : CountedZone) : Type 0 where
  pub same : z.capacity ≡ capacity
  pub fits : IsZone z.state z.written capacity
  pub small : capacity < 2 ^ 32

row_again : (zone capacity : ℕ) (z : CountedZone) → CanSpell capacity z → zone_in zone capacity (zone_row z) ≡ Ok z
row_again zone capacity z can =
    let most = written_is_within z.state z.written capacity can.fits in
    let small = can.small in
    let number = little_number-reads_back 4 z.written [] (omega arith) in
    ap (λ (n : ℕ). zone_told zone (code_of z.state) (state_of (code_of z.state)) n capacity) number
    ∙ (ap (λ state. zone_told zone (code_of z.state) state z.written capacity) (codes_are_distinct.there z.state)
    ∙ (ap (λ (test : Bool). let r : Result CountedZone LoadFault = cond test (Ok (record { state = z.state; written = z.written; capacity = capacity })) (Err (fault.ZoneRow zone (row_fault.Blocks z.state z.written capacity))) in r) can.fits.1
    ∙ ap (λ (n : ℕ). let same : CountedZone = record { state = z.state; written = z.written; capacity = n } in let r : Result CountedZone LoadFault = Ok same in r) (sym can.same)))

rows_again : (zone capacity : ℕ) (zs : List CountedZone) → ((k : ℕ) → k < length zs → CanSpell capacity (get_or zs k no_counted_zone)) → zones_in zone capacity (length zs) (zone_rows zs) ≡ Ok zs
rows_again zone capacity [] can = refl
rows_again zone capacity (z ∷ zs) can =
    ap (λ (r : Result CountedZone LoadFault). r >>= λ first. zones_in (zone + 1) capacity (length zs) (zone_rows zs) >>= λ more. Ok (first ∷ more)) (row_again zone capacity z (can 0 (omega arith)))
    ∙ ap (λ (r : Result (List CountedZone) LoadFault). r >>= λ more. Ok (z ∷ more)) (rows_again (zone + 1) capacity zs (λ k h. can (suc k) (omega arith)))

pub length-rows : (zs : List CountedZone) → length (zone_rows zs) ≡ length zs * 8
length-rows zs = length-flat_map-each zone_row 8 zs (λ k d h. refl)

rows_read : (s : Shape) (zs : List CountedZone) (rest : List ℕ) → length zs ≡ s.zones → ((k : ℕ) → k < length zs → CanSpell s.capacity (get_or zs k no_counted_zone))
    → zone_rows_in s (zone_rows zs ++ rest) ≡ Ok (zs, rest)
rows_read s zs rest count can =
    ap (λ (r : Result Split LoadFault). r >>= λ front. zones_in 0 s.capacity s.zones front.0 >>= λ all. Ok (all, front.1)) (bytes_whole (s.zones * 8) (zone_rows zs) rest (length-rows zs ∙ ap (λ (n : ℕ). n * 8) count))
    ∙ (ap (λ (n : ℕ). zones_in 0 s.capacity n (zone_rows zs) >>= λ all. Ok (all, rest)) (sym count)
    ∙ ap (λ (r : Result (List CountedZone) LoadFault). r >>= λ all. Ok (all, rest)) (rows_again 0 s.capacity zs can))

limits_read : (limits : Limits) (zs : List CountedZone) → IsWithin zs limits → limits_kept limits zs ≡ Ok tt
limits_read limits zs within = rw (le-leb (open_count zs) limits.open_limit within.opened, le-leb (active_count zs) limits.active_limit within.active) refl

pub blocks_read : (b c : ℕ) (zones : List ZoneWithBlocks) (rest : List ℕ) → ((z i : ℕ) → i < length (get_or zones z no_zone).blocks → length (get_or (get_or zones z no_zone).blocks i []) ≡ b)
    → blocks_in b (map (counted c) zones) (blocks_text zones ++ rest) ≡ Ok (zones, rest)
blocks_read b c [] rest whole = refl
blocks_read b c (zone ∷ zones) rest whole =
    let size = blocks_have_bytes b zone.blocks (whole 0) in
    let parts = append_assoc (concat zone.blocks) (blocks_text zones) rest in
    ap (blocks_in b (map (counted c) (zone ∷ zones))) parts
    ∙ (ap (λ (r : Result Split LoadFault). r >>= λ front. blocks_in b (map (counted c) zones) front.1 >>= λ more. Ok (zone_seen b (counted c zone) front.0 ∷ more.0, more.1)) (bytes_whole (length zone.blocks * b) (concat zone.blocks) (blocks_text zones ++ rest) size)
    ∙ (ap (λ (r : Result (List ZoneWithBlocks × List ℕ) LoadFault). r >>= λ more. Ok (zone_seen b (counted c zone) (concat zone.blocks) ∷ more.0, more.1)) (blocks_read b c zones rest (λ z i h. whole (suc z) i h))
    ∙ ap (λ (bs : List (List ℕ)). let seen : ZoneWithBlocks = record { state = zone.state; blocks = bs } in let r : Result (List ZoneWithBlocks × List ℕ) LoadFault = Ok (seen ∷ zones, rest) in r) (blocks_are_cut_again b zone.blocks (whole 0))))

can_spell : (ns : ZonedNamespace) → IsNamespace ns → (k : ℕ) → k < length (counted_zones ns) → CanSpell ns.capacity (get_or (counted_zones ns) k no_counted_zone)
can_spell ns sound k h =
    let there : k < length ns.zones = omega (arith, length-map ns.zones (counted ns.capacity)) in
    let most = sound.shape.capacity_most in
    let size = sound.shape.size_most in
    subst (CanSpell ns.capacity) (sym (get_or-map (counted ns.capacity) ns.zones k no_zone no_counted_zone there)) (record { same = refl; fits = sound.fits k there; small = omega arith })

-- no namespace has more written blocks than can be told
pub total_small : (ns : ZonedNamespace) → IsNamespace ns → written_blocks (counted_zones ns) < 2 ^ 64
total_small ns sound =
    let each : (k : ℕ) → k < length (counted_zones ns) → (get_or (counted_zones ns) k no_counted_zone).written ≤ ns.capacity =
    λ k h. let z = get_or (counted_zones ns) k no_counted_zone in written_is_within z.state z.written ns.capacity (can_spell ns sound k h).fits in
    let most = sum_by-le (λ z. z.written) ns.capacity (counted_zones ns) (All-from_get_or (λ (z : CountedZone). z.written ≤ ns.capacity) (counted_zones ns) no_counted_zone each) in
    let known = sound.shape in
    let zones : length (counted_zones ns) ≤ MOST_ZONES = let count = length-map ns.zones (counted ns.capacity) in let few = known.zones_most in omega arith in
    let capacity : ns.capacity ≤ 2 ^ 24 = let some = known.capacity_most in let few = known.size_most in omega arith in
    let product : length (counted_zones ns) * ns.capacity ≤ MOST_ZONES * 2 ^ 24 = mul-le-mul zones capacity in
    omega arith

-- the number of written blocks that the header tells is that of the rows
total_read : (version : Version) (zs : List CountedZone) → total_kept (total_in version (written_blocks zs)) zs ≡ Ok tt
total_read One zs = refl
total_read Two zs =
    let total = written_blocks zs in
    ap (λ (test : Bool). let r : Result (Unit {0}) LoadFault = cond test (Ok tt) (Err (fault.Total total total)) in r) (eq-eqb total total refl)

-- what the header of a namespace tells
abbrev pub told_of : Version → ZonedNamespace → Header
told_of version ns = header_seen version (shape ns) (written_blocks (counted_zones ns))

-- header and rows are read, whatever is behind them
pub front_read : (version : Version) (ns : ZonedNamespace) (rest : List ℕ) → IsNamespace ns → HasText version (shape ns)
    → namespace_in (header version (shape ns) (written_blocks (counted_zones ns)) ++ (zone_rows (counted_zones ns) ++ rest)) ≡ after_limits (shape ns) (counted_zones ns) rest
front_read version ns rest sound has =
    let s = shape ns in
    let zs = counted_zones ns in
    let total = written_blocks zs in
    let h = told_of version ns in
    let bytes = zone_rows zs ++ rest in
    past_header (header version s total ++ bytes) bytes h (header_read version s total bytes sound.shape has (total_small ns sound))
    ∙ (past_rows h bytes rest zs (rows_read s zs rest (length-map ns.zones (counted ns.capacity)) (can_spell ns sound))
    ∙ (past_total h zs rest (total_read version zs)
    ∙ past_limits s zs rest (limits_read ns.limits zs sound.within)))

pub each_version_loads : EachVersionLoads
each_version_loads version ns sound has =
    let s = shape ns in
    let zs = counted_zones ns in
    let last = blocks_text ns.zones in
    let blocks : blocks_in ns.block zs last ≡ Ok (ns.zones, []) = ap (blocks_in ns.block zs) (sym (append-nil last)) ∙ blocks_read ns.block ns.capacity ns.zones [] sound.whole in
    front_read version ns last sound has ∙ (past_blocks s zs last [] ns.zones blocks ∙ past_end s ns.zones [] refl)

-- what is saved is read as what it was saved of
pub saved_texts_load : SavedTextsLoad
saved_texts_load ns sound = each_version_loads Two ns sound (last_version_has_all (shape ns) sound.shape)
