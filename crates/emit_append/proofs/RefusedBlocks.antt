-- The place that one block is refused at.
use Rattle.std.proofs.Common.{◌≡◌, ℕ, zero, suc, ◌+◌, ◌-◌, ◌≤◌, ◌<◌, List, [], ◌∷◌, ◌++◌, length, take, drop, replicate, Err, refl, ap, sym, ◌∙◌, arith, length-append, length-drop, append_assoc, inl, inr, subst, ⊎_elim}
use Rattle.std.specs.Prelude.{◌==◌, false}
use Rattle.std.proofs.Math.Seq.{take-append-add}
use Rattle.std.proofs.lemmas.Bool.{cases_lt}
use Rattle.std.proofs.lemmas.Bool.Decides.{eqb_tells}
use Rattle.std.proofs.lemmas.List.{length-replicate, length-take-le, replicate-append-replicate}
use Rattle.byteorder.specs.Endian.{little_number}
use Rattle.common_definitions.specs.Readings.{with_front}
use Rattle.common_definitions.proofs.Proved.{agree_before, agree_behind, all_drop, fault_behind}
use Rattle.program_interface.specs.Frame.{frame}
use Rattle.emit_append.proofs.ByteLists.{AllBytes, FitsByte}
use Rattle.emit_append.specs.Unpacking.{after_frame, frame_length, frame_record, frames_at, zeros_at}
use Rattle.emit_append.proofs.FramesRead.{step-frame, step-short, step-zeros}
use Rattle.emit_append.proofs.UnpackedFrames.{IsFrames, frame_before, framed, no_frames, record_length}
use Rattle.emit_append.proofs.ReadBack.{front_two}

-- ---- lists

pub cut_twice : (n m : ℕ) (xs : List ℕ) → take n (take m xs) ≡ take m (take n xs)
cut_twice zero zero xs = refl
cut_twice zero (suc m) xs = refl
cut_twice (suc n) zero xs = refl
cut_twice (suc n) (suc m) [] = refl
cut_twice (suc n) (suc m) (x ∷ xs) = ap (λ rest. x ∷ rest) (cut_twice n m xs)

abbrev pub zeros_of : ℕ → List ℕ
zeros_of count = replicate count 0

-- the first bytes of a block, and zeros in place of the others
abbrev pub cut_off : ℕ → List ℕ → List ℕ
cut_off offset rest = take offset rest ++ replicate (length rest - offset) 0

pub length_cut_off : (offset : ℕ) (rest : List ℕ) → offset ≤ length rest → length (cut_off offset rest) ≡ length rest
length_cut_off offset rest inside =
    omega (arith, inside, length-append (take offset rest) (replicate (length rest - offset) 0), length-take-le offset rest inside, length-replicate {A = ℕ} (length rest - offset) 0)

-- behind a frame
cut_off_behind : (rest : List ℕ) (offset : ℕ) → AllBytes rest → 2 + frame_length rest ≤ length rest →
    cut_off (2 + frame_length rest + offset) rest ≡ frame (frame_record rest) ++ cut_off offset (after_frame rest)
cut_off_behind rest offset are long =
    let n = frame_length rest in
    let front = frame (frame_record rest) in
    let after = after_frame rest in
    let size : length front ≡ 2 + n = omega (arith, record_length rest long) in
    let left : length after ≡ length rest - (2 + n) = length-drop (2 + n) rest in
    let count : length rest - (2 + n + offset) ≡ length after - offset = omega (arith, left) in
    let first : take (2 + n + offset) rest ≡ front ++ take offset after =
    ap (take (2 + n + offset)) (framed rest are long) ∙ ap (λ k. take (k + offset) (front ++ after)) (sym size) ∙ take-append-add front after offset in
    ap (λ c. take (2 + n + offset) rest ++ replicate c 0) count
    ∙ ap (λ bytes. bytes ++ replicate (length after - offset) 0) first
    ∙ append_assoc front (take offset after) (replicate (length after - offset) 0)

-- ---- where no frame follows

-- The byte that is refused: zeros stand before it, and other bytes with the same ones up to it are refused there too.
record IsByte (place : ℕ) (rest : List ℕ) (at : ℕ) : Type 0 where
  offset : ℕ
  is : at ≡ place + offset
  inside : offset < length rest
  zeros : take offset rest ≡ replicate offset 0
  there : (other : List ℕ) (upto : ℕ) → offset < upto → take upto other ≡ take upto rest → zeros_at place other ≡ Err at

byte_here : (place byte : ℕ) (rest other : List ℕ) (upto : ℕ) → (byte == 0) ≡ false → 0 < upto → take upto other ≡ take upto (byte ∷ rest) → zeros_at place other ≡ Err place
byte_here place byte rest other zero some far same = absurd (omega (arith, far))
byte_here place byte rest [] (suc upto) some far same = let none : [] ≡ byte ∷ take upto rest = same in absurd cc
byte_here place byte rest (o ∷ os) (suc upto) some far same =
    let both : o ∷ take upto os ≡ byte ∷ take upto rest = same in
    let first : o ≡ byte = cc in
    rw (first, some) refl

byte_behind : (place byte at : ℕ) (rest other : List ℕ) (upto : ℕ) (next : IsByte (place + 1) rest at) → byte ≡ 0 → suc next.offset < upto →
    take upto other ≡ take upto (byte ∷ rest) → zeros_at place other ≡ Err at
byte_behind place byte at rest other zero next none far same = absurd (omega (arith, far))
byte_behind place byte at rest [] (suc upto) next none far same = let empty : [] ≡ byte ∷ take upto rest = same in absurd cc
byte_behind place byte at rest (o ∷ os) (suc upto) next none far same =
    let both : o ∷ take upto os ≡ byte ∷ take upto rest = same in
    let first : o ≡ 0 = cc in
    let behind : take upto os ≡ take upto rest = cc in
    rw first (next.there os upto (omega (arith, far)) behind)

is_byte : (place : ℕ) (rest : List ℕ) (at : ℕ) → zeros_at place rest ≡ Err at → IsByte place rest at
is_byte place [] at is = absurd cc
is_byte place (byte ∷ rest) at is = elim (eqb_tells byte 0) [
  | inl none ↦
      let next = is_byte (place + 1) rest at (rw none.0 at is) in
      record {
        offset = suc next.offset;
        is = omega (arith, next.is);
        inside = omega (arith, next.inside);
        zeros = ap (λ first. first ∷ take next.offset rest) none.1 ∙ ap (λ others. 0 ∷ others) next.zeros;
        there = λ other upto far same. byte_behind place byte at rest other upto next none.1 far same;
      }
  | inr some ↦
      let here : Err place ≡ Err at = rw some.0 at is in
      let same_place : at ≡ place = cc in
      record {
        offset = 0;
        is = omega (arith, same_place);
        inside = omega arith;
        zeros = refl;
        there = λ other upto far same. byte_here place byte rest other upto some.0 far same ∙ here;
      }
]

-- ---- one block

front_same : (rest other : List ℕ) (upto : ℕ) → 2 ≤ upto → length other ≡ length rest → take upto other ≡ take upto rest → frame_length other ≡ frame_length rest
front_same [] [] upto far size same = refl
front_same [] (o ∷ os) upto far size same = absurd (omega (arith, size))
front_same (x ∷ xs) [] upto far size same = absurd (omega (arith, size))
front_same (x ∷ []) (o ∷ []) upto far size same = refl
front_same (x ∷ []) (o ∷ p ∷ os) upto far size same = absurd (omega (arith, size))
front_same (x ∷ y ∷ xs) (o ∷ []) upto far size same = absurd (omega (arith, size))
front_same (x ∷ y ∷ xs) (o ∷ p ∷ os) upto far size same =
    let two : o ∷ p ∷ [] ≡ x ∷ y ∷ [] = agree_before 2 upto (o ∷ p ∷ os) (x ∷ y ∷ xs) far same in
    let low : o ≡ x = cc in
    let high : p ≡ y = cc in
    let number : little_number 2 (o ∷ p ∷ os) ≡ little_number 2 (x ∷ y ∷ xs) = rw (low, high) refl in
    front_two o p os ∙ number ∙ sym (front_two x y xs)

-- The place that a block is refused at: with zeros from there on it is a block, and another block with the same bytes up to the
-- next place is refused there too.
pub record IsRefused (steps place : ℕ) (rest : List ℕ) (at : ℕ) : Type 0 where
  pub offset : ℕ
  pub is : at ≡ place + offset
  pub inside : offset < length rest
  pub records : List (List ℕ)
  pub before : IsFrames (cut_off offset rest) records
  pub there : (other : List ℕ) (upto : ℕ) → offset + 2 ≤ upto → length other ≡ length rest → take upto other ≡ take upto rest → frames_at steps place other ≡ Err at

byte_refused : (steps place : ℕ) (rest : List ℕ) (at : ℕ) → frame_length rest ≡ 0 → zeros_at place rest ≡ Err at → IsRefused (suc steps) place rest at
byte_refused steps place rest at none is =
    let d = is_byte place rest at is in
    let size : d.offset + (length rest - d.offset) ≡ length rest = omega (arith, d.inside) in
    let all : cut_off d.offset rest ≡ replicate (length rest) 0 =
    ap (λ front. front ++ replicate (length rest - d.offset) 0) d.zeros ∙ replicate-append-replicate d.offset (length rest - d.offset) 0 ∙ ap zeros_of size in
    record {
      offset = d.offset;
      is = d.is;
      inside = d.inside;
      records = [];
      before = no_frames (length rest) (cut_off d.offset rest) all;
      there = λ other upto far size same.
          step-zeros steps place other (front_same rest other upto (omega (arith, far)) size same ∙ none)
          ∙ d.there other upto (omega (arith, far)) same;
    }

refused_length : (steps place : ℕ) (rest : List ℕ) (at : ℕ) → 0 < frame_length rest → length rest < 2 + frame_length rest → 0 < length rest → at ≡ place → IsRefused (suc steps) place rest at
refused_length steps place rest at some short inside here =
    let left : length rest - 0 ≡ length rest = omega arith in
    record {
      offset = 0;
      is = omega (arith, here);
      inside = inside;
      records = [];
      before = no_frames (length rest) (cut_off 0 rest) (ap zeros_of left);
      there = λ other upto far size same.
          let front = front_same rest other upto (omega (arith, far)) size same in
          step-short steps place other (omega (arith, front, some)) (omega (arith, front, size, short)) ∙ ap Err (sym here);
    }

refused_behind : (steps place : ℕ) (rest : List ℕ) (at : ℕ) → AllBytes rest → 0 < frame_length rest → 2 + frame_length rest ≤ length rest →
    IsRefused steps (place + (2 + frame_length rest)) (after_frame rest) at → IsRefused (suc steps) place rest at
refused_behind steps place rest at are some long next =
    let n = frame_length rest in
    let left : length (after_frame rest) ≡ length rest - (2 + n) = length-drop (2 + n) rest in
    let size = record_length rest long in
    record {
      offset = 2 + n + next.offset;
      is = omega (arith, next.is);
      inside = omega (arith, next.inside, left);
      records = frame_record rest ∷ next.records;
      before =
          subst (λ bytes. IsFrames bytes (frame_record rest ∷ next.records)) (sym (cut_off_behind rest next.offset are long))
          (frame_before (frame_record rest) (cut_off next.offset (after_frame rest)) next.records (omega (arith, size, some)) next.before);
      there = λ other upto far sizes same.
          let front : frame_length other ≡ n = front_same rest other upto (omega (arith, far)) sizes same in
          let behind : frames_at steps (place + (2 + n)) (drop (2 + n) other) ≡ Err at =
          next.there (drop (2 + n) other) (upto - (2 + n)) (omega (arith, far)) (omega (arith, sizes, left, length-drop (2 + n) other))
          (agree_behind (2 + n) (upto - (2 + n)) upto other rest (omega (arith, far)) same) in
          step-frame steps place other (omega (arith, front, some)) (omega (arith, front, sizes, long))
          ∙ ap (λ m. with_front (take m (drop 2 other) ∷ []) (frames_at steps (place + (2 + m)) (drop (2 + m) other))) front
          ∙ ap (with_front (take n (drop 2 other) ∷ [])) behind;
    }

some_bytes : (rest : List ℕ) → 0 < frame_length rest → 0 < length rest
some_bytes [] some = absurd (omega (arith, some))
some_bytes (x ∷ xs) some = omega arith

pub is_refused : (steps place : ℕ) (rest : List ℕ) (at : ℕ) → length rest ≤ steps → AllBytes rest → frames_at steps place rest ≡ Err at → IsRefused steps place rest at
unfolding frames_at
is_refused zero place rest at few are is = absurd cc
is_refused (suc steps) place rest at few are is =
    ⊎_elim
    (λ some.
    ⊎_elim
    (λ short.
    let here : Err place ≡ Err at = sym (step-short steps place rest some short) ∙ is in
    let same_place : at ≡ place = cc in
    refused_length steps place rest at some short (some_bytes rest some) same_place)
    (λ long.
    let left = length-drop (2 + frame_length rest) rest in
    let behind = fault_behind (frame_record rest ∷ []) _ at (sym (step-frame steps place rest some long) ∙ is) in
    refused_behind steps place rest at are some long
    (is_refused steps (place + (2 + frame_length rest)) (after_frame rest) at (omega (arith, few, long, left)) (all_drop FitsByte (2 + frame_length rest) rest are) behind))
    (cases_lt (length rest) (2 + frame_length rest)))
    (λ none. let zero_length : frame_length rest ≡ 0 = omega arith in byte_refused steps place rest at zero_length (sym (step-zeros steps place rest zero_length) ∙ is))
    (cases_lt 0 (frame_length rest))
