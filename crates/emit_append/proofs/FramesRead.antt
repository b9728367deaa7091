-- Reading a block frame by frame, and blocks one after another.
use Rattle.std.proofs.Common.{◌≡◌, ℕ, zero, suc, ◌+◌, ◌-◌, ◌/◌, ◌≤◌, ◌<◌, List, [], ◌∷◌, ◌++◌, length, take, drop, Ok, Err, refl, ap, sym, ◌∙◌, arith, rules, add-one, length-drop, ⊎_elim}
use Rattle.std.proofs.Math.Nat.{add-div_right}
use Rattle.std.proofs.lemmas.Bool.{cases_lt}
use Rattle.std.proofs.lemmas.Bool.Decides.{nat_tests}
use Rattle.std.proofs.lemmas.List.{drop-take, length-take-le, take-take}
use Rattle.common_definitions.specs.Readings.{◌>>=◌, with_front}
use Rattle.common_definitions.proofs.Proved.{with_front-more}
use Rattle.emit_append.specs.Unpacking.{Reading, after_frame, output_block_at, output_blocks_at, frame_length, frame_record, frames_at, zeros_at}

-- one step, by what stands in front
module _ (steps at : ℕ) (rest : List ℕ) where
  pub step-zeros : frame_length rest ≡ 0 → frames_at (suc steps) at rest ≡ zeros_at at rest
  unfolding frames_at
  step-zeros none = search (rules, nat_tests)

  pub step-short : 0 < frame_length rest → length rest < 2 + frame_length rest → frames_at (suc steps) at rest ≡ Err at
  unfolding frames_at
  step-short some short = search (rules, nat_tests)

  pub step-frame : 0 < frame_length rest → 2 + frame_length rest ≤ length rest → frames_at (suc steps) at rest ≡ with_front (frame_record rest ∷ []) (frames_at steps (at + (2 + frame_length rest)) (after_frame rest))
  unfolding frames_at
  step-frame some long = search (rules, nat_tests)

-- enough steps are as good as any
same_steps : (first second at : ℕ) (rest : List ℕ) → length rest ≤ first → length rest ≤ second → frames_at first at rest ≡ frames_at second at rest
unfolding frames_at
same_steps zero zero at rest few more = refl
same_steps zero (suc second) at [] few more = sym (step-zeros second at [] refl)
same_steps zero (suc second) at (x ∷ xs) few more = absurd (omega arith)
same_steps (suc first) zero at [] few more = step-zeros first at [] refl
same_steps (suc first) zero at (x ∷ xs) few more = absurd (omega arith)
same_steps (suc first) (suc second) at rest few more =
    ⊎_elim
    (λ some.
    ⊎_elim
    (λ short. step-short first at rest some short ∙ sym (step-short second at rest some short))
    (λ long.
    let left = length-drop (2 + frame_length rest) rest in
    step-frame first at rest some long
    ∙ ap (with_front (frame_record rest ∷ [])) (same_steps first second (at + (2 + frame_length rest)) (after_frame rest) (omega arith) (omega arith))
    ∙ sym (step-frame second at rest some long))
    (cases_lt (length rest) (2 + frame_length rest)))
    (λ none. let zero_length : frame_length rest ≡ 0 = omega arith in step-zeros first at rest zero_length ∙ sym (step-zeros second at rest zero_length))
    (cases_lt 0 (frame_length rest))

-- what is left of a block, by what stands in front
pub block-zeros : (at : ℕ) (rest : List ℕ) → frame_length rest ≡ 0 → output_block_at at rest ≡ zeros_at at rest
unfolding frames_at
block-zeros at [] none = refl
block-zeros at (x ∷ xs) none = step-zeros (length xs) at (x ∷ xs) none

block-short : (at : ℕ) (rest : List ℕ) → 0 < frame_length rest → length rest < 2 + frame_length rest → output_block_at at rest ≡ Err at
block-short at [] some short = absurd (omega arith)
block-short at (x ∷ xs) some short = step-short (length xs) at (x ∷ xs) some short

pub block-frame : (at : ℕ) (rest : List ℕ) → 0 < frame_length rest → 2 + frame_length rest ≤ length rest →
    output_block_at at rest ≡ with_front (frame_record rest ∷ []) (output_block_at (at + (2 + frame_length rest)) (after_frame rest))
block-frame at [] some long = absurd (omega arith)
block-frame at (x ∷ xs) some long =
    let left = length-drop (2 + frame_length (x ∷ xs)) (x ∷ xs) in
    step-frame (length xs) at (x ∷ xs) some long
    ∙ ap (with_front (frame_record (x ∷ xs) ∷ [])) (same_steps (length xs) (length (after_frame (x ∷ xs))) (at + (2 + frame_length (x ∷ xs))) (after_frame (x ∷ xs)) (omega arith) (omega arith))

-- the same after some records, where a block's reading is all
module _ (records : List (List ℕ)) (all : Reading) (place n : ℕ) (rest : List ℕ) (front : n ≡ frame_length rest) (read : with_front records (output_block_at place rest) ≡ all) where
  pub is_short : 0 < n → length rest < 2 + n → all ≡ Err place
  is_short some short = sym read ∙ ap (with_front records) (block-short place rest (rw (← front) some) (rw (← front) short))

  pub goes_on : 0 < n → 2 + n ≤ length rest → with_front (records ++ take n (drop 2 rest) ∷ []) (output_block_at (place + (2 + n)) (drop (2 + n) rest)) ≡ all
  goes_on some long =
      let one = block-frame place rest (rw (← front) some) (rw (← front) long) in
      sym (with_front-more records (take n (drop 2 rest) ∷ []) (output_block_at (place + (2 + n)) (drop (2 + n) rest)))
      ∙ ap (with_front {E = ℕ} records) (rw front (sym one)) ∙ read

  pub is_zeros : n ≡ 0 → all ≡ with_front records (zeros_at place rest)
  is_zeros none = sym read ∙ ap (with_front records) (block-zeros place rest (sym front ∙ none))

-- the bytes behind the two in front of a frame
pub frame_is : (n : ℕ) (rest frame bytes : List ℕ) → 2 + n ≤ length rest → frame ≡ take (2 + n) rest → bytes ≡ take (length frame - 2) (drop 2 frame) → bytes ≡ take n (drop 2 rest)
frame_is n rest frame bytes long is behind =
    let count : length frame - 2 ≡ n = omega (arith, ap length is, length-take-le (2 + n) rest long) in
    let cut : drop 2 frame ≡ take n (drop 2 rest) = ap (drop 2) is ∙ drop-take 2 n rest in
    behind ∙ rw (count, cut) (take-take n n (drop 2 rest) (omega arith))

pub more_blocks : (block at : ℕ) (rest : List ℕ) → 0 < block → block ≤ length rest →
    output_blocks_at (length rest / block) block at rest ≡ (output_block_at at (take block rest) >>= λ records. with_front records (output_blocks_at (length (drop block rest) / block) block (at + block) (drop block rest)))
unfolding output_blocks_at
more_blocks block at rest some long =
    let whole : length rest ≡ length (drop block rest) + block = omega (arith, length-drop block rest) in
    let count : length rest / block ≡ suc (length (drop block rest) / block) = ap (λ n. n / block) whole ∙ add-div_right (length (drop block rest)) some ∙ add-one _ in
    rw count refl

pub no_more_blocks : (block at : ℕ) → output_blocks_at 0 block at [] ≡ Ok []
unfolding output_blocks_at
no_more_blocks block at = refl

pub part_of_block : (block at : ℕ) (rest : List ℕ) → 0 < length rest → output_blocks_at 0 block at rest ≡ Err at
unfolding output_blocks_at
part_of_block block at [] some = absurd (omega arith)
part_of_block block at (x ∷ xs) some = refl

-- a block's reading, and the blocks' after it
pub read-on : (records new : List (List ℕ)) (first rest : Reading) → with_front records first ≡ Ok new → with_front new rest ≡ with_front records (first >>= λ more. with_front more rest)
read-on records new (Ok more) rest is = let same : new ≡ records ++ more = cc in rw same (sym (with_front-more records more rest))
read-on records new (Err at) rest is = cc

pub read-err : (records : List (List ℕ)) (first rest : Reading) (place : ℕ) → with_front records first ≡ Err place → with_front records (first >>= λ more. with_front more rest) ≡ Err place
read-err records (Ok more) rest place is = cc
read-err records (Err at) rest place is = is
