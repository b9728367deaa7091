-- The fault that a header is refused with is the first of its text.
use Rattle.std.proofs.Common.{◌≡◌, ◌≢◌, ℕ, ◌≤◌, ◌==◌, Bool, true, false, cond, List, length, take, Some, None, Ok, Err, refl, ap, sym, subst, ◌∙◌, arith}
use Rattle.std.specs.Cmp.Lexicographic.{pointwise}
use Rattle.std.specs.Option.{ok_or}
use Rattle.std.proofs.lemmas.List.{take-take}
use Rattle.std.proofs.lemmas.Slice.Eq.{bytes_eq-Decides}
use Rattle.image_text.specs.declared.fault.LoadFault.{LoadFault}
use Rattle.image_text.specs.declared.fault.LoadFault.TheVariants.{Magic}
use Rattle.image_text.specs.declared.header.Header.{Header}
use Rattle.image_text.specs.declared.version.Version.{Version}
use Rattle.image_text.specs.declared.version.Version.TheVariants.{One, Two}
use Rattle.common_definitions.proofs.Proved.{found_where_ok}
use Rattle.image_text.specs.FirstFault.{HasMagic, HasHeader, IsFirstFault}
use Rattle.image_store.specs.Geometry.{IsShape}
use Rattle.image_text.specs.Reading.{shape_in, version_in, total_told, header_of, header_told}
use Rattle.image_text.specs.Version.{HasText, numbers_of_version}
use Rattle.image_text.proofs.BadHeaders.{header_wrong}
use Rattle.image_text.proofs.FaultPlaces.{unknown}
use Rattle.image_text.proofs.HeaderParts.{begins, header_parts, version_begins}
use Rattle.image_text.proofs.ReadingCalls.{bind_fails}

-- ---- the magic

begins_by : (version : Version) (bytes : List ℕ) → take 8 bytes ≡ (numbers_of_version version).magic → begins (take 64 bytes) version ≡ true
begins_by One bytes e = ap (λ (front : List ℕ). pointwise (λ a b. a == b) (numbers_of_version One).magic front) (take-take 8 64 bytes (omega arith) ∙ e)
begins_by Two bytes e = ap (λ (front : List ℕ). pointwise (λ a b. a == b) (numbers_of_version Two).magic front) (take-take 8 64 bytes (omega arith) ∙ e)

magic_of : (version : Version) (bytes : List ℕ) → begins (take 64 bytes) version ≡ true → take 8 bytes ≡ (numbers_of_version version).magic
magic_of One bytes e = sym (take-take 8 64 bytes (omega arith)) ∙ sym ((bytes_eq-Decides (numbers_of_version One).magic (take 8 (take 64 bytes))).0 e)
magic_of Two bytes e = sym (take-take 8 64 bytes (omega arith)) ∙ sym ((bytes_eq-Decides (numbers_of_version Two).magic (take 8 (take 64 bytes))).0 e)

neither : (test : Version → Bool) (a b : Bool) → test One ≡ a → test Two ≡ b → cond a (Some One) (cond b (Some Two) None) ≡ None → (version : Version) → test version ≡ false
neither test true b first second e version = absurd cc
neither test false true first second e version = absurd cc
neither test false false first second e One = first
neither test false false first second e Two = second

no_magic : (bytes : List ℕ) → version_in (take 64 bytes) ≡ None → (version : Version) → take 8 bytes ≢ (numbers_of_version version).magic
no_magic bytes none version e =
    let yes = begins_by version bytes e in
    let no = neither (begins (take 64 bytes)) (begins (take 64 bytes) One) (begins (take 64 bytes) Two) refl refl none version in
    let bad : true ≡ false = sym yes ∙ no in
    cc

-- ---- the header

begun_by : (bytes : List ℕ) (version : Version) → 64 ≤ length bytes → begins (take 64 bytes) version ≡ true → HasMagic version bytes
begun_by bytes version there e = record { whole = there; magic = magic_of version bytes e }

pub header_first : (bytes : List ℕ) (fault : LoadFault) → 64 ≤ length bytes → header_told (take 64 bytes) ≡ Err fault → IsFirstFault bytes fault
header_first bytes fault there e =
    bind_fails (IsFirstFault bytes) (ok_or (version_in (take 64 bytes)) Magic) (header_of (take 64 bytes)) fault e
    (λ first none. let p = unknown (version_in (take 64 bytes)) first none in subst (IsFirstFault bytes) p.1 (there, no_magic bytes p.0))
    (λ version told later.
    let begun = begun_by bytes version there (version_begins (take 64 bytes) version (found_where_ok (version_in (take 64 bytes)) Magic version told)) in
    let bad = header_wrong version (take 64 bytes) fault later in
    subst (IsFirstFault bytes) (sym bad.is) (version, begun, bad.wrong))

-- a header that is read
pub record IsReadHeader (bytes : List ℕ) (h : Header) : Type 0 where
  pub version : Version
  pub header : HasHeader version bytes
  pub same : shape_in bytes ≡ h.geometry
  pub total : h.total ≡ total_told version (take 64 bytes)

pub header_is_read : (bytes : List ℕ) (h : Header) → 64 ≤ length bytes → header_told (take 64 bytes) ≡ Ok h → IsReadHeader bytes h
header_is_read bytes h there told =
    let parts = header_parts (take 64 bytes) h told in
    record {
      version = parts.version;
      header = record {
        begins = begun_by bytes parts.version there parts.begins;
        shape = subst IsShape (sym parts.same) parts.known;
        has = subst (HasText parts.version) (sym parts.same) parts.has;
        zeros = parts.zeros;
      };
      same = parts.same;
      total = parts.total;
    }
