-- The lines of zones.
use Rattle.std.proofs.Common.{◌≡◌, ℕ, zero, suc, ◌+◌, ◌<◌, List, [], ◌∷◌, ◌++◌, length, take, get_or, Option, Result, Ok, Err, OnOk, OnErr, sym, ap, ◌∙◌, arith, subst, append-nil, append_assoc, add-zero, add-one}
use Rattle.std.specs.Io.KnownBytes.{Appends}
use Rattle.image_store.specs.Geometry.{Shape}
use Rattle.zone_state.specs.Zone.{CountedZone}
use Rattle.command_files.specs.declared.failure.Failure.{Failure}
use Rattle.command_files.specs.declared.failure.Failure.TheVariants.{CannotPrint}
use Rattle.command_images.specs.Devices.{TellTable}
use Rattle.command_images.specs.Zones.{PrintsZones, zone_line, zone_lines_from}

-- the lines of one zone more
more : (first : ℕ) (zones : List CountedZone) (i : ℕ) (other : CountedZone) → i < length zones
    → zone_lines_from first (take (suc i) zones) ≡ zone_lines_from first (take i zones) ++ zone_line (first + i) (get_or zones i other)
more first [] i other lt = absurd (omega (arith, lt))
more first (zone ∷ rest) zero other lt = append-nil (zone_line first zone) ∙ ap (λ n. zone_line n zone) (sym (add-zero first))
more first (zone ∷ rest) (suc i) other lt =
    let shifted : first + 1 + i ≡ first + suc i = omega arith in
    ap (λ lines. zone_line first zone ++ lines) (more (first + 1) rest i other (omega (arith, lt)))
    ∙ ap (λ n. zone_line first zone ++ (zone_lines_from (first + 1) (take i rest) ++ zone_line n (get_or rest i other))) shifted
    ∙ sym (append_assoc (zone_line first zone) (zone_lines_from (first + 1) (take i rest)) (zone_line (first + suc i) (get_or rest i other)))

pub one_line_more : (zones : List CountedZone) (i : ℕ) (other : CountedZone) → i < length zones
    → zone_lines_from 0 (take (i + 1) zones) ≡ zone_lines_from 0 (take i zones) ++ zone_line i (get_or zones i other)
one_line_more zones i other lt =
    let first : 0 + i ≡ i = omega arith in
    ap (λ n. zone_lines_from 0 (take n zones)) (add-one i) ∙ more 0 zones i other lt
    ∙ ap (λ n. zone_lines_from 0 (take i zones) ++ zone_line n (get_or zones i other)) first

-- a table was loaded of the file that is asked for, and its zones were printed
pub prints_zones : {T E : Type 0} (reads : Type 0) (result : Result T E) (contents : List ℕ → Option (List ℕ)) (s : Shape)
    (path wanted : List ℕ) (zones list : List CountedZone) (before after : Option (List ℕ)) → path ≡ wanted → list ≡ zones
    → (reads → TellTable (contents path) s zones) → OnOk result (Appends before after (zone_lines_from 0 list))
    → OnOk result (PrintsZones reads (contents wanted) before after)
prints_zones reads (Err error) contents s path wanted zones list before after is are held printed = tt
prints_zones reads (Ok done) contents s path wanted zones list before after is are held printed = record {
  shape = s;
  zones = zones;
  held = λ read. subst (λ (p : List ℕ). TellTable (contents p) s zones) is (held read);
  printed = subst (λ (those : List CountedZone). Appends before after (zone_lines_from 0 those)) are printed;
}

-- what holds where printing succeeded holds where the command succeeds, which fails where printing failed
pub after_printing : {T U E : Type 0} (written : Result T E) (result : Result U Failure) (fact : Type 0) → OnErr written (result ≡ Err CannotPrint)
    → OnOk written fact → OnOk result fact
after_printing written (Err failure) fact failed holds = tt
after_printing (Ok done) (Ok value) fact failed holds = holds
after_printing (Err error) (Ok value) fact failed holds = subst (λ r. OnOk r fact) (sym failed) tt
