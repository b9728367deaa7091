-- The bytes of slots.
use Rattle.std.proofs.Common.{◌≡◌, ℕ, zero, suc, ℤ, ◌+◌, ◌*◌, ◌%◌, ◌/◌, ◌^◌, ◌<◌, FitsSigned, List, [], ◌∷◌, ◌++◌, length, drop, refl, ap, ◌∙◌, arith}
use Rattle.std.specs.Int.{w16, w32, cast_signed, cast_unsigned}
use Rattle.std.specs.List.{AllByRecursion, flat_map}
use Rattle.std.proofs.lemmas.Int.{ints, of_z-to_z, to_z-of_z}
use Rattle.std.proofs.lemmas.Nat.{le_bytes_2, le_bytes_4}
use Rattle.byteorder.specs.Endian.{little_bytes, little_number}
use Rattle.instruction_set.specs.declared.fields.Fields.{Fields}
use Rattle.common_definitions.specs.Bytes.{AreBytes}
use Rattle.common_definitions.proofs.Proved.{bytes_from, front_fit, length-flat_map-each, rest_fit}
use Rattle.ebpf_decode.specs.Reading.{fields_at, slots_at}
use Rattle.instruction_set.specs.Spelling.{slot_bytes}
use Rattle.ebpf_decode.proofs.ReadAreSpelled.{AreFields, below-32}

fits-16 : (n : ℕ) → n < 2 ^ 16 → FitsSigned w16 (cast_signed w16 n)
fits-16 n h = omega (arith, ints)

-- a number of 32 bits, taken as a signed one, fits these
pub fits-32 : (n : ℕ) → n < 2 ^ 32 → FitsSigned w32 (cast_signed w32 n)
fits-32 n h = omega (arith, ints)

-- the slots of bytes are spelled by them
pub slots-bytes : (count : ℕ) (bytes : List ℕ) → AreBytes bytes → length bytes ≡ 8 * count → flat_map slot_bytes (slots_at count bytes) ≡ bytes
slots-bytes zero [] fits h = refl
slots-bytes zero (b ∷ bytes) fits h = absurd (omega arith)
slots-bytes (suc count) (a ∷ b ∷ c ∷ d ∷ e ∷ f ∷ g ∷ h ∷ bytes) fits len =
    let registers : b % 16 + 16 * (b / 16) ≡ b = omega arith in
    let m = little_number 2 (c ∷ d ∷ []) in
    let n = little_number 4 (e ∷ f ∷ g ∷ h ∷ []) in
    let behind = rest_fit (a ∷ b ∷ []) (c ∷ d ∷ e ∷ f ∷ g ∷ h ∷ bytes) fits in
    let two = front_fit (c ∷ d ∷ []) (e ∷ f ∷ g ∷ h ∷ bytes) behind in
    let four = front_fit (e ∷ f ∷ g ∷ h ∷ []) bytes (rest_fit (c ∷ d ∷ []) (e ∷ f ∷ g ∷ h ∷ bytes) behind) in
    let offset : little_bytes 2 (cast_unsigned w16 (cast_signed w16 m)) ≡ c ∷ d ∷ [] =
    ap (little_bytes 2) (of_z-to_z w16 m (omega (arith, fits 2, fits 3))) ∙ le_bytes_2 (c ∷ d ∷ []) m refl two (omega arith) in
    let immediate : little_bytes 4 (cast_unsigned w32 (cast_signed w32 n)) ≡ e ∷ f ∷ g ∷ h ∷ [] =
    ap (little_bytes 4) (of_z-to_z w32 n (omega (arith, fits 4, fits 5, fits 6, fits 7))) ∙ le_bytes_4 (e ∷ f ∷ g ∷ h ∷ []) n refl four (omega arith) in
    let slot : slot_bytes (fields_at (a ∷ b ∷ c ∷ d ∷ e ∷ f ∷ g ∷ h ∷ bytes)) ≡ a ∷ b ∷ c ∷ d ∷ e ∷ f ∷ g ∷ h ∷ [] =
    ap (λ k. a ∷ k ∷ (little_bytes 2 (cast_unsigned w16 (cast_signed w16 m)) ++ little_bytes 4 (cast_unsigned w32 (cast_signed w32 n)))) registers
    ∙ ap (λ xs. a ∷ b ∷ (xs ++ little_bytes 4 (cast_unsigned w32 (cast_signed w32 n)))) offset
    ∙ ap (λ xs. a ∷ b ∷ c ∷ d ∷ xs) immediate in
    ap (λ xs. xs ++ flat_map slot_bytes (slots_at count bytes)) slot
    ∙ ap (λ xs. a ∷ b ∷ c ∷ d ∷ e ∷ f ∷ g ∷ h ∷ xs) (slots-bytes count bytes (rest_fit (a ∷ b ∷ c ∷ d ∷ e ∷ f ∷ g ∷ h ∷ []) bytes fits) (omega arith))
slots-bytes (suc count) bytes fits len = absurd (omega arith)

-- numbers below 256 make fields
pub slots-fields : (count : ℕ) (bytes : List ℕ) → AreBytes bytes → AllByRecursion AreFields (slots_at count bytes)
slots-fields zero bytes fits = tt
slots-fields (suc count) bytes fits =
    let two = bytes_from 2 bytes fits in
    let four = bytes_from 4 bytes fits in (
      record {
        opcode = fits 0;
        offset = fits-16 _ (omega (arith, two 0, two 1));
        immediate = fits-32 _ (omega (arith, four 0, four 1, four 2, four 3));
      },
      slots-fields count (drop 8 bytes) (bytes_from 8 bytes fits),
    )

-- ---- the slots that bytes spell

-- fields that fit their places
pub record FitSlot (f : Fields) : Type 0 where
  pub dst : f.dst < 16
  pub offset : FitsSigned w16 f.offset
  pub immediate : FitsSigned w32 f.immediate

low-16 : (z : ℤ) → FitsSigned w16 z → cast_unsigned w16 z < 2 ^ 16
low-16 z fits = omega (arith, ints)

fields-slot : (f : Fields) (bytes : List ℕ) → FitSlot f → fields_at (slot_bytes f ++ bytes) ≡ f
fields-slot f bytes fits =
    let m = cast_unsigned w16 f.offset in
    let n = cast_unsigned w32 f.immediate in
    let dst : (f.dst + 16 * f.src) % 16 ≡ f.dst = omega (arith, fits.dst) in
    let src : (f.dst + 16 * f.src) / 16 ≡ f.src = omega (arith, fits.dst) in
    let offset : cast_signed w16 (little_number 2 (little_bytes 2 m)) ≡ f.offset =
    let whole : little_number 2 (little_bytes 2 m) ≡ m = omega (arith, low-16 f.offset fits.offset) in
    ap (cast_signed w16) whole ∙ to_z-of_z w16 f.offset fits.offset in
    let immediate : cast_signed w32 (little_number 4 (little_bytes 4 n)) ≡ f.immediate =
    let whole : little_number 4 (little_bytes 4 n) ≡ n = omega (arith, below-32 f.immediate fits.immediate) in
    ap (cast_signed w32) whole ∙ to_z-of_z w32 f.immediate fits.immediate in
    rw (dst, src, offset, immediate) refl

pub length-slots_bytes : (fs : List Fields) → length (flat_map slot_bytes fs) ≡ 8 * length fs
length-slots_bytes fs = omega (arith, length-flat_map-each slot_bytes 8 fs (λ k d h. refl))

-- the slots of the bytes of slots
pub slots-again : (fs : List Fields) → AllByRecursion FitSlot fs → slots_at (length fs) (flat_map slot_bytes fs) ≡ fs
slots-again [] fits = refl
slots-again (f ∷ fs) fits =
    ap (λ x. x ∷ slots_at (length fs) (flat_map slot_bytes fs)) (fields-slot f (flat_map slot_bytes fs) fits.0)
    ∙ ap (λ xs. f ∷ xs) (slots-again fs fits.1)
