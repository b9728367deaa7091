-- The header of a shape, in each version, is read as that shape.
use Rattle.std.proofs.Common.{◌≡◌, ℕ, ◌^◌, ◌<◌, List, ◌∷◌, ◌++◌, length, drop, replicate, Option, Some, None, Result, Ok, refl, ap, ◌∙◌, arith}
use Rattle.std.proofs.lemmas.Bool.{le-leb}
use Rattle.std.specs.List.{flat_map}
use Rattle.std.specs.Prelude.{codes}
use Rattle.byteorder.specs.Endian.{little_bytes, little_number}
use Rattle.byteorder.specs.Numbers.{little_number-reads_back}
use Rattle.image_text.specs.declared.fault.LoadFault.{LoadFault}
use Rattle.image_text.specs.declared.header.Header.{Header}
use Rattle.image_text.specs.declared.version.Version.{Version}
use Rattle.image_text.specs.declared.version.Version.TheVariants.{One, Two}
use Rattle.image_store.specs.Geometry.{Shape, IsShape, shape_of}
use Rattle.common_definitions.specs.Readings.{◌>>=◌}
use Rattle.image_text.specs.Reading.{numbers_in, numbers_tested, shape_told, version_kept, zeros_kept, total_told, header_of, header_told, header_in}
use Rattle.image_text.specs.Text.{numbers_of, header_end, header}
use Rattle.image_text.specs.Version.{HasText, numbers_of_version}
use Rattle.image_text.proofs.FilledBuffers.{Split, bytes_whole}
use Rattle.image_store.proofs.Proved.{block_most, shape_passes}

abbrev shape_with : ℕ → ℕ → ℕ → ℕ → ℕ → ℕ → Shape
shape_with block zones size capacity opened active = shape_of block zones size capacity (record { open_limit = opened; active_limit = active })

-- 64 bytes of a version with this digit
abbrev with_digit : ℕ → Shape → List ℕ → List ℕ
with_digit digit s last = codes "ZNSIMG0" ++ (digit ∷ (flat_map (little_bytes 4) (numbers_of s) ++ last))

numbers_again : (digit : ℕ) (s : Shape) (last : List ℕ) → IsShape s → shape_told (with_digit digit s last) ≡ s
numbers_again digit s last known =
    let bytes = with_digit digit s last in
    let most : s.zones < 2 ^ 32 = let h = known.zones_most in omega arith in
    let e1 : little_number 4 (drop 8 bytes) ≡ s.block = let h = block_most known in little_number-reads_back 4 s.block (drop 12 bytes) (omega arith) in
    let e2 : little_number 4 (drop 12 bytes) ≡ s.zones = little_number-reads_back 4 s.zones (drop 16 bytes) most in
    let e3 : little_number 4 (drop 16 bytes) ≡ s.size = let h = known.size_most in little_number-reads_back 4 s.size (drop 20 bytes) (omega arith) in
    let e4 : little_number 4 (drop 20 bytes) ≡ s.capacity = let h = known.size_most in let k = known.capacity_most in little_number-reads_back 4 s.capacity (drop 24 bytes) (omega arith) in
    let e5 : little_number 4 (drop 24 bytes) ≡ s.limits.open_limit = let h = known.open_most in let k = known.active_most in little_number-reads_back 4 s.limits.open_limit (drop 28 bytes) (omega arith) in
    let e6 : little_number 4 (drop 28 bytes) ≡ s.limits.active_limit = let h = known.active_most in little_number-reads_back 4 s.limits.active_limit last (omega arith) in
    ap (λ (n : ℕ). shape_with n (little_number 4 (drop 12 bytes)) (little_number 4 (drop 16 bytes)) (little_number 4 (drop 20 bytes)) (little_number 4 (drop 24 bytes)) (little_number 4 (drop 28 bytes))) e1
    ∙ (ap (λ (n : ℕ). shape_with s.block n (little_number 4 (drop 16 bytes)) (little_number 4 (drop 20 bytes)) (little_number 4 (drop 24 bytes)) (little_number 4 (drop 28 bytes))) e2
    ∙ (ap (λ (n : ℕ). shape_with s.block s.zones n (little_number 4 (drop 20 bytes)) (little_number 4 (drop 24 bytes)) (little_number 4 (drop 28 bytes))) e3
    ∙ (ap (λ (n : ℕ). shape_with s.block s.zones s.size n (little_number 4 (drop 24 bytes)) (little_number 4 (drop 28 bytes))) e4
    ∙ (ap (λ (n : ℕ). shape_with s.block s.zones s.size s.capacity n (little_number 4 (drop 28 bytes))) e5
    ∙ ap (λ (n : ℕ). shape_with s.block s.zones s.size s.capacity s.limits.open_limit n) e6))))

told : (version : Version) (s : Shape) (total : ℕ) → IsShape s → shape_told (header version s total) ≡ s
told One s total known = numbers_again 49 s (header_end One total) known
told Two s total known = numbers_again 50 s (header_end Two total) known

numbers_pass : (s : Shape) → IsShape s → numbers_in s ≡ Ok s
numbers_pass s known =
    ap numbers_tested (shape_passes s known)

version_passes : (version : Version) (s : Shape) → HasText version s → version_kept version s ≡ Ok tt
version_passes version s has = rw (has.block, le-leb s.zones (numbers_of_version version).most_zones has.zones) refl

zeros_pass : (version : Version) (s : Shape) (total : ℕ) → zeros_kept version (header version s total) ≡ Ok tt
zeros_pass One s total = refl
zeros_pass Two s total = refl

-- the number of all written blocks, where a version tells it
abbrev pub total_in : Version → ℕ → Option ℕ
total_in One total = None
total_in Two total = Some total

total_again : (version : Version) (s : Shape) (total : ℕ) → total < 2 ^ 64 → total_told version (header version s total) ≡ total_in version total
total_again One s total small = refl
total_again Two s total small = ap (λ (n : ℕ). Some n) (little_number-reads_back 8 total (replicate 24 0) (omega arith))

-- what the header of a shape tells
abbrev pub header_seen : Version → Shape → ℕ → Header
header_seen version s total = record { geometry = s; total = total_in version total }

version_again : (version : Version) (s : Shape) (total : ℕ) → header_told (header version s total) ≡ header_of (header version s total) version
version_again One s total = refl
version_again Two s total = refl

header_again : (version : Version) (s : Shape) (total : ℕ) → IsShape s → HasText version s → total < 2 ^ 64 → header_told (header version s total) ≡ Ok (header_seen version s total)
header_again version s total known has small =
    let bytes = header version s total in
    let made : Shape → Option ℕ → Result Header LoadFault = λ s n. Ok (record { geometry = s; total = n }) in
    let zeros : Shape → Result Header LoadFault = λ s. zeros_kept version bytes >>= λ z. made s (total_told version bytes) in
    version_again version s total
    ∙ (ap (λ (x : Shape). numbers_in x >>= λ s. version_kept version s >>= λ k. zeros s) (told version s total known)
    ∙ (ap (λ (r : Result Shape LoadFault). r >>= λ s. version_kept version s >>= λ k. zeros s) (numbers_pass s known)
    ∙ (ap (λ (r : Result (Unit {0}) LoadFault). r >>= λ k. zeros s) (version_passes version s has)
    ∙ (ap (λ (r : Result (Unit {0}) LoadFault). r >>= λ z. made s (total_told version bytes)) (zeros_pass version s total)
    ∙ ap (made s) (total_again version s total small)))))

pub header_length : (version : Version) (s : Shape) (total : ℕ) → length (header version s total) ≡ 64
header_length One s total = refl
header_length Two s total = refl

-- the header in front is read
pub header_read : (version : Version) (s : Shape) (total : ℕ) (rest : List ℕ) → IsShape s → HasText version s → total < 2 ^ 64
    → header_in (header version s total ++ rest) ≡ Ok (header_seen version s total, rest)
header_read version s total rest known has small =
    ap (λ (r : Result Split LoadFault). r >>= λ front. header_told front.0 >>= λ told. Ok (told, front.1)) (bytes_whole 64 (header version s total) rest (header_length version s total))
    ∙ ap (λ (r : Result Header LoadFault). r >>= λ told. let all : Result (Header × List ℕ) LoadFault = Ok (told, rest) in all) (header_again version s total known has small)
