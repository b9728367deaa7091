-- What each header that is read has passed.
use Rattle.std.proofs.Common.{◌≡◌, ℕ, Bool, true, List, [], ◌∷◌, drop, Option, Some, None, Result, Ok, refl, ap, subst}
use Rattle.std.proofs.lemmas.Bool.{leb-true}
use Rattle.std.specs.List.{starts_with}
use Rattle.std.specs.Option.{ok_or}
use Rattle.std.specs.Prelude.{◌==◌, nat_le}
use Rattle.image_text.specs.declared.fault.LoadFault.{LoadFault}
use Rattle.image_text.specs.declared.fault.LoadFault.TheVariants as fault
use Rattle.image_text.specs.declared.fault.HeaderFault.TheVariants as header_fault
use Rattle.image_store.specs.declared.geometry.GeometryRefusal.{GeometryRefusal}
use Rattle.image_text.specs.declared.header.Header.{Header}
use Rattle.image_text.specs.declared.version.Version.{Version}
use Rattle.image_text.specs.declared.version.Version.TheVariants.{One, Two}
use Rattle.common_definitions.specs.Checks.{first_failed, unless_failed}
use Rattle.common_definitions.proofs.Proved.{demanded, none_failed, passed}
use Rattle.image_store.specs.Geometry.{Shape, IsShape, shape_checks}
use Rattle.common_definitions.specs.Readings.{◌>>=◌}
use Rattle.common_definitions.proofs.Proved.{found_passes, found_where_ok}
use Rattle.image_text.specs.Reading.{are_zeros, numbers_in, numbers_tested, shape_told, version_in, version_checks, version_kept, zeros_kept, total_told, header_of, header_told}
use Rattle.image_text.specs.Version.{HasText, has_block, numbers_of_version}
use Rattle.image_text.proofs.ReadingCalls.{bind_ok, ok_is, chosen}
use Rattle.image_store.proofs.Proved.{shape_is}

-- do bytes begin with a version's magic?
abbrev pub begins : List ℕ → Version → Bool
begins bytes version = starts_with (λ a b. a == b) bytes (numbers_of_version version).magic

pub version_begins : (bytes : List ℕ) (version : Version) → version_in bytes ≡ Some version → begins bytes version ≡ true
version_begins bytes version e = found_passes (begins bytes) (One ∷ Two ∷ []) version e

-- numbers that pass the tests are those of their shape
pub record ArePassed (told s : Shape) : Type 0 where
  pub same : told ≡ s
  pub known : IsShape told

passed_by : (told s : Shape) (check : Option GeometryRefusal) → numbers_tested (unless_failed check told) ≡ Ok s → (check ≡ None) × (told ≡ s)
passed_by told s None e = (refl, ok_is told s e)
passed_by told s (Some first) e = absurd cc

pub numbers_passed : (told s : Shape) → numbers_in told ≡ Ok s → ArePassed told s
numbers_passed told s e =
    let p = passed_by told s (first_failed (shape_checks told)) e in
    record { same = p.1; known = shape_is told told (ap (λ (check : Option GeometryRefusal). unless_failed check told) p.0) }

pub version_has : (version : Version) (s : Shape) (done : Unit {0}) → version_kept version s ≡ Ok done → HasText version s
version_has version s done e =
    let checks = version_checks version s in
    let none = none_failed (first_failed checks) tt done e in
    let most = (numbers_of_version version).most_zones in
    record {
      block = demanded (has_block version s.block) (fault.Header (header_fault.VersionBlock version s.block)) (passed checks 0 none);
      zones = leb-true s.zones most (demanded (nat_le s.zones most) (fault.Header (header_fault.VersionZones version s.zones)) (passed checks 1 none));
    }

-- what 64 bytes that tell a header have: the magic of a version, a shape that it has, zeros behind what it tells, and the
-- number of written blocks
pub record IsHeader (bytes : List ℕ) (header : Header) : Type 0 where
  pub version : Version
  pub begins : begins bytes version ≡ true
  pub same : shape_told bytes ≡ header.geometry
  pub known : IsShape header.geometry
  pub has : HasText version header.geometry
  pub zeros : are_zeros (drop (numbers_of_version version).zeros_from bytes) ≡ true
  pub total : header.total ≡ total_told version bytes

pub header_parts : (bytes : List ℕ) (header : Header) → header_told bytes ≡ Ok header → IsHeader bytes header
header_parts bytes header e =
    let v = bind_ok (ok_or (version_in bytes) fault.Magic) (header_of bytes) header e in
    let version = v.0 in
    let made : Shape → Header = λ s. record { geometry = s; total = total_told version bytes } in
    let zeros : Shape → Result Header LoadFault = λ s. zeros_kept version bytes >>= λ z. Ok (made s) in
    let s = bind_ok (numbers_in (shape_told bytes)) (λ s. version_kept version s >>= λ k. zeros s) header v.2 in
    let k = bind_ok (version_kept version s.0) (λ k. zeros s.0) header s.2 in
    let z = bind_ok (zeros_kept version bytes) (λ z. Ok (made s.0)) header k.2 in
    let pass = numbers_passed (shape_told bytes) s.0 s.1 in
    subst (IsHeader bytes) (ok_is (made s.0) header z.2) (record {
      version = version;
      begins = version_begins bytes version (found_where_ok (version_in bytes) fault.Magic version v.1);
      same = pass.same;
      known = subst IsShape pass.same pass.known;
      has = version_has version s.0 k.0 k.1;
      zeros = (chosen (are_zeros (drop (numbers_of_version version).zeros_from bytes)) tt z.0 (fault.Header (header_fault.Reserved version)) z.1).0;
      total = refl;
    })
