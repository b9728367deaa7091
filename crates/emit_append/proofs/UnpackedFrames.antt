-- What reads as records is blocks of their frames and zeros.
use Rattle.std.proofs.Common.{◌≡◌, ℕ, zero, suc, ◌+◌, ◌-◌, ◌*◌, ◌/◌, ◌≤◌, ◌<◌, List, [], ◌∷◌, ◌++◌, length, map, take, drop, replicate, Ok, Err, refl, ap, sym, subst, ◌∙◌, arith, length-append, length-drop, append_assoc, take-append-drop, inl, inr, ⊎_elim}
use Rattle.std.specs.List.{AllByRecursion, concat}
use Rattle.std.proofs.Math.Nat.{div-add-mod', suc-mul}
use Rattle.std.proofs.lemmas.Bool.{cases_lt}
use Rattle.std.proofs.lemmas.Bool.Decides.{eqb_tells}
use Rattle.std.proofs.lemmas.List.{drop-drop, length-replicate, length-take-le}
use Rattle.byteorder.specs.Endian.{little_bytes}
use Rattle.common_definitions.specs.Readings.{◌>>=◌, with_front}
use Rattle.common_definitions.specs.Bytes.{padded}
use Rattle.common_definitions.proofs.Proved.{all_drop, all_take, front_spelled}
use Rattle.program_interface.specs.Frame.{frame, frames}
use Rattle.emit_append.proofs.ByteLists.{AllBytes, FitsByte, by_place, by_recursion}
use Rattle.emit_append.specs.Unpacking.{AreFrames, Reading, UnpackedIsFrames, after_frame, frame_length, frame_record, frames_at, output_blocks_at, zeros_at}
use Rattle.emit_append.proofs.FramesRead.{step-frame, step-short, step-zeros}
use Rattle.emit_append.proofs.ReadBack.{frames-read, front_two}

-- records that none is without bytes, whose frames stand in front of zeros
pub record IsFrames (rest : List ℕ) (records : List (List ℕ)) : Type 0 where
  pub some : AllByRecursion (λ bytes. 0 < length bytes) records
  pub fits : length (frames records) ≤ length rest
  pub is : rest ≡ padded (length rest) (frames records)

-- zeros are a block with no frame
pub no_frames : (count : ℕ) (rest : List ℕ) → rest ≡ replicate count 0 → IsFrames rest []
no_frames count rest is =
    let size : length rest ≡ count = ap length is ∙ length-replicate count 0 in
    let left : count ≡ length rest - 0 = omega (arith, size) in
    record { some = tt; fits = omega arith; is = is ∙ ap (λ n. replicate n 0) left }

pub frame_before : (bytes after : List ℕ) (more : List (List ℕ)) → 0 < length bytes → IsFrames after more → IsFrames (frame bytes ++ after) (bytes ∷ more)
frame_before bytes after more some d =
    let whole : length (frame bytes ++ after) ≡ 2 + length bytes + length after = omega (arith, length-append bytes after) in
    let front : length (frame bytes ++ frames more) ≡ 2 + length bytes + length (frames more) = omega (arith, length-append bytes (frames more)) in
    let count : length after - length (frames more) ≡ length (frame bytes ++ after) - length (frame bytes ++ frames more) = omega (arith, whole, front) in
    record {
      some = (some, d.some);
      fits = omega (arith, whole, front, d.fits);
      is =
          ap (λ rest. frame bytes ++ rest) d.is
          ∙ sym (append_assoc (frame bytes) (frames more) (replicate (length after - length (frames more)) 0))
          ∙ ap (λ c. (frame bytes ++ frames more) ++ replicate c 0) count;
    }

-- a block of frames, and the blocks behind it
pub block_before : (block : ℕ) (bytes behind : List ℕ) (front more : List (List ℕ)) → length bytes ≡ block → IsFrames bytes front → AreFrames block more behind → AreFrames block (front ++ more) (bytes ++ behind)
block_before block bytes behind front more size first others = record {
  parts = front ∷ others.parts;
  in_order = ap (λ records. front ++ records) others.in_order;
  some = (first.some, others.some);
  fits = (omega (arith, size, first.fits), others.fits);
  rest_is_zeros =
      ap (λ rest. bytes ++ rest) others.rest_is_zeros
      ∙ ap (λ whole. whole ++ concat (map (padded block) (map frames others.parts))) (first.is ∙ ap (λ n. padded n (frames front)) size);
}

pub no_blocks : (block : ℕ) → AreFrames block [] []
no_blocks block = record { parts = []; in_order = refl; some = tt; fits = tt; rest_is_zeros = refl }

-- zeros alone are read to the end
zeros-only : (at : ℕ) (rest : List ℕ) (records : List (List ℕ)) → zeros_at at rest ≡ Ok records → (records ≡ []) × (rest ≡ replicate (length rest) 0)
zeros-only at [] records is = (cc, refl)
zeros-only at (byte ∷ rest) records is = elim (eqb_tells byte 0) [
  | inl none ↦
      let next = zeros-only (at + 1) rest records (rw none.0 at is) in
      (next.0, ap (λ first. first ∷ rest) none.1 ∙ ap (λ others. 0 ∷ others) next.1)
  | inr other ↦ let fault : Err at ≡ Ok records = rw other.0 at is in absurd cc
]

only-zeros : (at : ℕ) (rest : List ℕ) (records : List (List ℕ)) → zeros_at at rest ≡ Ok records → IsFrames rest records
only-zeros at rest records is =
    let only = zeros-only at rest records is in
    rw only.0 (no_frames (length rest) rest only.1)

pub record_length : (rest : List ℕ) → 2 + frame_length rest ≤ length rest → length (frame_record rest) ≡ frame_length rest
record_length rest long = length-take-le (frame_length rest) (drop 2 rest) (omega (arith, long, length-drop 2 rest))

-- a frame and what is behind it
pub framed : (rest : List ℕ) → AllBytes rest → 2 + frame_length rest ≤ length rest → rest ≡ frame (frame_record rest) ++ after_frame rest
framed [] are long = absurd (omega (arith, long))
framed (low ∷ []) are long = absurd (omega (arith, long))
framed (low ∷ high ∷ more) are long =
    let rest = low ∷ high ∷ more in
    let n = frame_length rest in
    let front : little_bytes 2 (length (frame_record rest)) ≡ low ∷ high ∷ [] =
    ap (little_bytes 2) (record_length rest long ∙ front_two low high more) ∙ front_spelled 2 rest (omega arith) (by_place rest are) in
    let left : after_frame rest ≡ drop n more = sym (drop-drop n 2 rest) in
    ap (λ bytes. low ∷ high ∷ bytes) (sym (take-append-drop n more))
    ∙ ap (λ bytes. low ∷ high ∷ (take n more ++ bytes)) (sym left)
    ∙ ap (λ bytes. (bytes ++ take n more) ++ after_frame rest) (sym front)

after-frame : (rest : List ℕ) (records : List (List ℕ)) (reading : Reading) → AllBytes rest → 0 < frame_length rest → 2 + frame_length rest ≤ length rest →
    with_front (frame_record rest ∷ []) reading ≡ Ok records → ((more : List (List ℕ)) → reading ≡ Ok more → IsFrames (after_frame rest) more) → IsFrames rest records
after-frame rest records (Ok more) are some long is behind =
    let all : records ≡ frame_record rest ∷ more = cc in
    let front : 0 < length (frame_record rest) = omega (arith, record_length rest long, some) in
    rw all (subst (λ bytes. IsFrames bytes (frame_record rest ∷ more)) (sym (framed rest are long)) (frame_before (frame_record rest) (after_frame rest) more front (behind more refl)))
after-frame rest records (Err at) are some long is behind = absurd cc

pub only-frames : (steps at : ℕ) (rest : List ℕ) (records : List (List ℕ)) → length rest ≤ steps → AllBytes rest → frames_at steps at rest ≡ Ok records → IsFrames rest records
unfolding frames_at
only-frames zero at [] records few are is = only-zeros at [] records is
only-frames zero at (x ∷ xs) records few are is = absurd (omega (arith, few))
only-frames (suc steps) at rest records few are is =
    ⊎_elim
    (λ some.
    ⊎_elim
    (λ short. let fault : Err at ≡ Ok records = sym (step-short steps at rest some short) ∙ is in absurd cc)
    (λ long.
    let left = length-drop (2 + frame_length rest) rest in
    after-frame rest records _ are some long (sym (step-frame steps at rest some long) ∙ is)
    (λ more. only-frames steps (at + (2 + frame_length rest)) (after_frame rest) more (omega (arith, few, long, left)) (all_drop FitsByte (2 + frame_length rest) rest are)))
    (cases_lt (length rest) (2 + frame_length rest)))
    (λ none. only-zeros at rest records (sym (step-zeros steps at rest (omega arith)) ∙ is))
    (cases_lt 0 (frame_length rest))

after-block : (block : ℕ) (bytes : List ℕ) (records : List (List ℕ)) (first others : Reading) → block ≤ length bytes → (first >>= λ front. with_front front others) ≡ Ok records →
    ((front : List (List ℕ)) → first ≡ Ok front → IsFrames (take block bytes) front) →
    ((more : List (List ℕ)) → others ≡ Ok more → AreFrames block more (drop block bytes)) → AreFrames block records bytes
after-block block bytes records (Ok front) (Ok more) long is here behind =
    let all : records ≡ front ++ more = cc in
    let size = length-take-le block bytes long in
    let blocks = block_before block (take block bytes) (drop block bytes) front more size (here front refl) (behind more refl) in
    rw all (subst (AreFrames block (front ++ more)) (take-append-drop block bytes) blocks)
after-block block bytes records (Ok front) (Err at) long is here behind = absurd cc
after-block block bytes records (Err at) others long is here behind = absurd cc

only-blocks : (count block at : ℕ) (bytes : List ℕ) (records : List (List ℕ)) → count * block ≤ length bytes → AllBytes bytes → output_blocks_at count block at bytes ≡ Ok records → AreFrames block records bytes
unfolding output_blocks_at
only-blocks zero block at [] records long are is =
    let none : records ≡ [] = cc in
    rw none (no_blocks block)
only-blocks zero block at (x ∷ xs) records long are is = absurd cc
only-blocks (suc count) block at bytes records long are is =
    let blocks = suc-mul count block in
    after-block block bytes records _ _ (omega (arith, long, blocks)) is
    (λ front. only-frames (length (take block bytes)) at (take block bytes) front (omega arith) (all_take FitsByte block bytes are))
    (λ more. only-blocks count block (at + block) (drop block bytes) more (omega (arith, long, blocks, length-drop block bytes)) (all_drop FitsByte block bytes are))

pub unpacked_is_frames : UnpackedIsFrames
unpacked_is_frames block bytes records positive small are = (
  only-blocks (length bytes / block) block 0 bytes records (omega (arith, div-add-mod' (length bytes) block)) (by_recursion bytes are),
  frames-read block bytes records positive small,
)
