-- The text of a namespace, part by part.
use Rattle.std.proofs.Common.{◌≡◌, ℕ, ◌+◌, ◌<◌, List, ◌++◌, length, get_or, take, drop, ap, sym, subst, ◌∙◌, arith}
use Rattle.std.specs.List.{concat}
use Rattle.std.proofs.lemmas.List.{take_all, at_drop_more}
use Rattle.zone_state.specs.Zone.{CountedZone}
use Rattle.image_store.specs.Geometry.{Shape}
use Rattle.image_store.specs.Namespace.{ZonedNamespace, no_zone, zone_at, counted, counted_zones, shape}
use Rattle.image_text.specs.declared.version.Version.TheVariants.{Two}
use Rattle.image_text.specs.Streams.{IsBegun}
use Rattle.image_text.specs.Text.{header, written_blocks, zone_row, zone_rows, blocks_text, text}
use Rattle.image_text.proofs.Sinks.{begins}

-- its header, as a call gave it, the rows of its zones, and their blocks
pub text_parts : (ns : ZonedNamespace) (zs : List CountedZone) (front : List ℕ) → zs ≡ counted_zones ns
    → front ≡ header Two (shape ns) (written_blocks zs) → text ns ≡ front ++ (zone_rows zs ++ blocks_text ns.zones)
text_parts ns zs front are is =
    let blocks = blocks_text ns.zones in
    ap (λ (all : List CountedZone). header Two (shape ns) (written_blocks all) ++ (zone_rows all ++ blocks)) (sym are)
    ∙ ap (λ (first : List ℕ). first ++ (zone_rows zs ++ blocks)) (sym is)

-- of that text nothing is taken yet
pub text_begun : (ns : ZonedNamespace) (zs : List CountedZone) (before front : List ℕ) → zs ≡ counted_zones ns → front ≡ header Two (shape ns) (written_blocks zs)
    → IsBegun before before (text ns) (front ++ (zone_rows zs ++ blocks_text ns.zones))
text_begun ns zs before front are is = subst (IsBegun before before (text ns)) (text_parts ns zs front are is) (begins before (text ns))

-- the row of one zone, as a call gave it, and those of the zones behind it
pub rows_step : (zones : List CountedZone) (i : ℕ) (zone : CountedZone) (row : List ℕ) → i < length zones → zone ≡ get_or zones i zone
    → row ≡ zone_row zone → zone_rows (drop i zones) ≡ row ++ zone_rows (drop (i + 1) zones)
rows_step zones i zone row inside is given =
    let left = zone_rows (drop (i + 1) zones) in
    at_drop_more zone_rows zones i zone inside
    ∙ (ap (λ (z : CountedZone). zone_row z ++ left) (sym is) ∙ ap (λ (first : List ℕ). first ++ left) (sym given))

-- the blocks of one zone, as calls gave them, and those of the zones behind it
pub blocks_step : {end w : ℕ} {s : Shape} {zone : CountedZone} (ns : ZonedNamespace) (i : ℕ) (piece : List ℕ)
    → i < end → end ≡ s.zones → s ≡ shape ns → zone ≡ counted ns.capacity (zone_at ns i) → w ≡ zone.written
    → piece ≡ concat (take w (drop 0 (zone_at ns i).blocks)) → blocks_text (drop i ns.zones) ≡ piece ++ blocks_text (drop (i + 1) ns.zones)
blocks_step {end} {w} {s} {zone} ns i piece before ends is zone_is written given =
    let blocks = (zone_at ns i).blocks in
    let zones : end ≡ length ns.zones = ends ∙ ap (λ (s : Shape). s.zones) is in
    let count : w ≡ length blocks = written ∙ ap (λ (z : CountedZone). z.written) zone_is in
    let whole : take w blocks ≡ blocks = take_all w blocks (omega (arith, count)) in
    let all : concat blocks ≡ piece = ap concat (sym whole) ∙ sym given in
    at_drop_more blocks_text ns.zones i no_zone (omega (arith, before, zones))
    ∙ ap (λ (front : List ℕ). front ++ blocks_text (drop (i + 1) ns.zones)) all
