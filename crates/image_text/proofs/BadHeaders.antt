-- What is wrong with a header that is refused, behind the magic of its version.
use Rattle.std.proofs.Common.{◌≡◌, nat_le, Bool, true, false, List, [], ◌∷◌, drop, Option, Some, None, Result, Ok, Err, refl, sym, subst, ℕ}
use Rattle.std.proofs.lemmas.Bool.{leb-false}
use Rattle.common_definitions.proofs.Proved.{first_failed_is_first}
use Rattle.common_definitions.specs.Checks.{demand, first_failed, unless_failed}
use Rattle.image_text.specs.declared.fault.LoadFault.{LoadFault}
use Rattle.image_text.specs.declared.fault.LoadFault.TheVariants.{Header as BadHeader}
use Rattle.image_text.specs.declared.fault.HeaderFault.{HeaderFault}
use Rattle.image_text.specs.declared.fault.HeaderFault.TheVariants.{Numbers, VersionBlock, VersionZones, Reserved}
use Rattle.image_store.specs.declared.geometry.GeometryRefusal.{GeometryRefusal}
use Rattle.image_text.specs.declared.header.Header.{Header}
use Rattle.image_text.specs.declared.version.Version.{Version}
use Rattle.common_definitions.specs.Readings.{◌>>=◌}
use Rattle.image_text.specs.FirstFault.{IsHeaderFault}
use Rattle.image_store.specs.Geometry.{Shape, IsShape, shape_checks}
use Rattle.image_text.specs.Reading.{are_zeros, header_of, numbers_fault, numbers_in, numbers_tested, shape_told, total_told, version_kept, zeros_kept}
use Rattle.image_text.specs.Version.{has_block, numbers_of_version}
use Rattle.image_text.proofs.HeaderParts.{numbers_passed, version_has}
use Rattle.image_text.proofs.ReadingCalls.{bind_fails, is_this, wrong}

-- what is wrong with the 64 bytes of a header
pub record IsBadHeader (version : Version) (front : List ℕ) (fault : LoadFault) : Type 0 where
  pub why : HeaderFault
  pub is : fault ≡ BadHeader why
  pub wrong : IsHeaderFault version front (shape_told front) why

module _ (version : Version) (front : List ℕ) where
  abbrev s : Shape
  s = shape_told front

  numbers_wrong : (check : Option GeometryRefusal) (fault : LoadFault) → first_failed (shape_checks s) ≡ check → numbers_tested (unless_failed check s) ≡ Err fault → IsBadHeader version front fault
  numbers_wrong None fault is e = absurd cc
  numbers_wrong (Some first) fault is e = record {
    why = Numbers first;
    is = sym (is_this {X = Shape} (numbers_fault first) fault e);
    wrong = (first_failed_is_first GeometryRefusal (shape_checks s) first).0 is;
  }

  version_wrong : (a b : Bool) (fault : LoadFault) → IsShape s → has_block version s.block ≡ a → nat_le s.zones (numbers_of_version version).most_zones ≡ b
      → (let r : Result (Unit {0}) LoadFault = unless_failed (first_failed (demand a (BadHeader (VersionBlock version s.block)) ∷ demand b (BadHeader (VersionZones version s.zones)) ∷ [])) tt in r) ≡ Err fault
      → IsBadHeader version front fault
  version_wrong true true fault known block zones e = absurd cc
  version_wrong true false fault known block zones e = record {
    why = VersionZones version s.zones;
    is = sym (is_this {X = Unit {0}} (BadHeader (VersionZones version s.zones)) fault e);
    wrong = (refl, refl, known, block, leb-false s.zones (numbers_of_version version).most_zones zones);
  }
  version_wrong false b fault known block zones e = record {
    why = VersionBlock version s.block;
    is = sym (is_this {X = Unit {0}} (BadHeader (VersionBlock version s.block)) fault e);
    wrong = (refl, refl, known, block);
  }

  pub header_wrong : (fault : LoadFault) → header_of front version ≡ Err fault → IsBadHeader version front fault
  header_wrong fault e =
      let made : Shape → Header = λ t. record { geometry = t; total = total_told version front } in
      let zeros : Shape → Result Header LoadFault = λ t. zeros_kept version front >>= λ z. Ok (made t) in
      bind_fails (IsBadHeader version front) (numbers_in s) (λ t. version_kept version t >>= λ k. zeros t) fault e (λ first. numbers_wrong (first_failed (shape_checks s)) first refl) (λ t told later.
      let pass = numbers_passed s t told in
      let known = pass.known in
      let later_s : (version_kept version s >>= λ k. zeros s) ≡ Err fault = subst (λ (t : Shape). (version_kept version t >>= λ k. zeros t) ≡ Err fault) (sym pass.same) later in
      bind_fails (IsBadHeader version front) (version_kept version s) (λ k. zeros s) fault later_s
      (λ first. version_wrong (has_block version s.block) (nat_le s.zones (numbers_of_version version).most_zones) first known refl refl) (λ k kept last.
      bind_fails (IsBadHeader version front) (zeros_kept version front) (λ z. Ok (made s)) fault last
      (λ first bad.
      let p = wrong (are_zeros (drop (numbers_of_version version).zeros_from front)) tt (BadHeader (Reserved version)) first bad in
      record { why = Reserved version; is = sym p.1; wrong = (refl, known, version_has version s k kept, p.0) })
      (λ z fine none. absurd cc)))
