-- The byte that a reading refuses is the lowest one.
use Rattle.std.proofs.Common.{◌≡◌, ℕ, zero, suc, ◌+◌, ◌-◌, ◌*◌, ◌/◌, ◌^◌, ◌≤◌, ◌<◌, List, [], ◌∷◌, ◌++◌, length, take, drop, Ok, Err, refl, ap, sym, ◌∙◌, arith, length-append, length-drop, append_assoc, inl, inr, subst, ⊎_elim}
use Rattle.std.specs.Prelude.{◌⊎◌}
use Rattle.std.proofs.Math.Nat.{div-add-mod', suc-mul}
use Rattle.std.proofs.Math.Seq.{take-add}
use Rattle.std.proofs.lemmas.Bool.{cases_lt}
use Rattle.std.proofs.lemmas.List.{append-nil, drop-take, length-take, length-take-le, take-append-le, take-take, take_all, take_at}
use Rattle.common_definitions.proofs.Proved.{agree_before, agree_behind, all_drop, all_take, fault_behind}
use Rattle.emit_append.proofs.ByteLists.{AllBytes, FitsByte, by_recursion}
use Rattle.common_definitions.specs.Readings.{◌>>=◌, with_front}
use Rattle.emit_append.specs.Unpacking.{AreFrames, CanBegin, Reading, RefusedIsLowest, frames_at, output_block_at, output_blocks_at}
use Rattle.emit_append.proofs.UnpackedFrames.{block_before, no_blocks, only-frames}
use Rattle.emit_append.proofs.ReadBack.{blocks-counted, frames-read, length-blocks}
use Rattle.emit_append.proofs.RefusedBlocks.{IsRefused, cut_off, cut_twice, is_refused, length_cut_off, zeros_of}

-- ---- blocks

-- The place that blocks are refused at. Other blocks with the same bytes up to the next place are refused there too, as far as they
-- stand in these blocks; or no block is left.
record IsRefusedAmong (count block place : ℕ) (bytes : List ℕ) (at : ℕ) : Type 0 where
  offset : ℕ
  is : at ≡ place + offset
  inside : offset < length bytes
  before : CanBegin block (take offset bytes)
  there :
      ((other : List ℕ) (others upto : ℕ) → others * block ≡ length other → offset < length other → offset + 2 ≤ upto →
      take upto (take (count * block) other) ≡ take upto (take (count * block) bytes) → output_blocks_at others block place other ≡ Err at)
      ⊎ (offset ≡ count * block)

module _ (count block place : ℕ) (bytes : List ℕ) (at : ℕ) (positive : 0 < block) (long : suc count * block ≤ length bytes) (are : AllBytes bytes) where
  here_again : (d : IsRefused (length (take block bytes)) place (take block bytes) at) (other : List ℕ) (others upto : ℕ) →
      others * block ≡ length other → d.offset < length other → d.offset + 2 ≤ upto →
      take upto (take (suc count * block) other) ≡ take upto (take (suc count * block) bytes) → output_blocks_at others block place other ≡ Err at
  unfolding output_blocks_at
  here_again d other zero upto whole some far same = absurd (omega (arith, whole, some))
  here_again d other (suc others) upto whole some far same =
      let all = suc-mul count block in
      let blocks = suc-mul others block in
      let size = length-take-le block bytes (omega (arith, long, all)) in
      let other_size = length-take-le block other (omega (arith, whole, blocks)) in
      let first : take upto (take block other) ≡ take upto (take block bytes) =
      ap (take upto) (sym (take-take block (suc count * block) other (omega (arith, all))))
      ∙ cut_twice upto block (take (suc count * block) other)
      ∙ ap (take block) same
      ∙ cut_twice block upto (take (suc count * block) bytes)
      ∙ ap (take upto) (take-take block (suc count * block) bytes (omega (arith, all))) in
      let refused : output_block_at place (take block other) ≡ Err at =
      ap (λ n. frames_at n place (take block other)) (other_size ∙ sym size)
      ∙ d.there (take block other) upto far (other_size ∙ sym size) first in
      ap (λ reading. reading >>= λ records. with_front records (output_blocks_at others block (place + block) (drop block other))) refused

  refused_here : output_block_at place (take block bytes) ≡ Err at → IsRefusedAmong (suc count) block place bytes at
  refused_here is =
      let all = suc-mul count block in
      let size = length-take-le block bytes (omega (arith, long, all)) in
      let d = is_refused (length (take block bytes)) place (take block bytes) at (omega arith) (all_take FitsByte block bytes are) is in
      let cut = cut_off d.offset (take block bytes) in
      let zeros = zeros_of (length (take block bytes) - d.offset) in
      let front : cut ++ [] ≡ take d.offset bytes ++ zeros =
      append-nil cut ∙ ap (λ first. first ++ zeros) (take-take d.offset block bytes (omega (arith, d.inside, size))) in
      record {
        offset = d.offset;
        is = d.is;
        inside = omega (arith, d.inside, size, long, all);
        before = record {
          behind = zeros;
          records = d.records ++ [];
          are = subst (AreFrames block (d.records ++ [])) front (block_before block cut [] d.records [] (length_cut_off d.offset (take block bytes) (omega (arith, d.inside)) ∙ size) d.before (no_blocks block));
        };
        there = inl (here_again d);
      }

  behind_again : (front : List (List ℕ)) (offset : ℕ) → output_block_at place (take block bytes) ≡ Ok front →
      ((other : List ℕ) (others upto : ℕ) → others * block ≡ length other → offset < length other → offset + 2 ≤ upto →
      take upto (take (count * block) other) ≡ take upto (take (count * block) (drop block bytes)) → output_blocks_at others block (place + block) other ≡ Err at) →
      (other : List ℕ) (others upto : ℕ) → others * block ≡ length other → block + offset < length other → block + offset + 2 ≤ upto →
      take upto (take (suc count * block) other) ≡ take upto (take (suc count * block) bytes) → output_blocks_at others block place other ≡ Err at
  unfolding output_blocks_at
  behind_again front offset read next other zero upto whole some far same = absurd (omega (arith, whole, some))
  behind_again front offset read next other (suc others) upto whole some far same =
      let all : suc count * block ≡ block + count * block = omega (arith, suc-mul count block) in
      let blocks = suc-mul others block in
      let left = length-drop block other in
      let first : take block other ≡ take block bytes =
      sym (take-take block (suc count * block) other (omega (arith, all)))
      ∙ agree_before block upto (take (suc count * block) other) (take (suc count * block) bytes) (omega (arith, far)) same
      ∙ take-take block (suc count * block) bytes (omega (arith, all)) in
      let behind : take (upto - block) (take (count * block) (drop block other)) ≡ take (upto - block) (take (count * block) (drop block bytes)) =
      ap (take (upto - block)) (sym (ap (λ n. drop block (take n other)) all ∙ drop-take block (count * block) other))
      ∙ agree_behind block (upto - block) upto (take (suc count * block) other) (take (suc count * block) bytes) (omega (arith, far)) same
      ∙ ap (take (upto - block)) (ap (λ n. drop block (take n bytes)) all ∙ drop-take block (count * block) bytes) in
      let refused = next (drop block other) others (upto - block) (omega (arith, whole, blocks, left)) (omega (arith, some, left)) (omega (arith, far)) behind in
      ap (λ reading. reading >>= λ records. with_front records (output_blocks_at others block (place + block) (drop block other))) (ap (output_block_at place) first ∙ read)
      ∙ ap (with_front front) refused

  refused_later : (front : List (List ℕ)) → output_block_at place (take block bytes) ≡ Ok front →
      IsRefusedAmong count block (place + block) (drop block bytes) at → IsRefusedAmong (suc count) block place bytes at
  refused_later front read next =
      let all = suc-mul count block in
      let size = length-take-le block bytes (omega (arith, long, all)) in
      let left = length-drop block bytes in
      let first = only-frames (length (take block bytes)) place (take block bytes) front (omega arith) (all_take FitsByte block bytes are) read in
      let cut = take next.offset (drop block bytes) in
      let joined : take block bytes ++ (cut ++ next.before.behind) ≡ take (block + next.offset) bytes ++ next.before.behind =
      sym (append_assoc (take block bytes) cut next.before.behind) ∙ ap (λ bs. bs ++ next.before.behind) (sym (take-add block next.offset bytes)) in
      record {
        offset = block + next.offset;
        is = omega (arith, next.is);
        inside = omega (arith, next.inside, left);
        before = record {
          behind = next.before.behind;
          records = front ++ next.before.records;
          are = subst (AreFrames block (front ++ next.before.records)) joined (block_before block (take block bytes) (cut ++ next.before.behind) front next.before.records size first next.before.are);
        };
        there = elim next.there [
          | inl again ↦ inl (behind_again front next.offset read again)
          | inr none ↦ inr (omega (arith, none, all))
        ];
      }

  by_block : (first : Reading) → output_block_at place (take block bytes) ≡ first → (first >>= λ records. with_front records (output_blocks_at count block (place + block) (drop block bytes))) ≡ Err at →
      (output_blocks_at count block (place + block) (drop block bytes) ≡ Err at → IsRefusedAmong count block (place + block) (drop block bytes) at) →
      IsRefusedAmong (suc count) block place bytes at
  by_block (Ok front) read is next = refused_later front read (next (fault_behind front _ at is))
  by_block (Err other) read is next = refused_here (read ∙ is)

refused_among : (count block place : ℕ) (bytes : List ℕ) (at : ℕ) → 0 < block → count * block ≤ length bytes → AllBytes bytes → output_blocks_at count block place bytes ≡ Err at →
    IsRefusedAmong count block place bytes at
unfolding output_blocks_at
refused_among zero block place [] at positive long are is = absurd cc
refused_among zero block place (x ∷ xs) at positive long are is =
    let here : at ≡ place = cc in
    record {
      offset = 0;
      is = omega (arith, here);
      inside = omega arith;
      before = record { behind = []; records = []; are = no_blocks block };
      there = inr (omega arith);
    }
refused_among (suc count) block place bytes at positive long are is =
    let all = suc-mul count block in
    by_block count block place bytes at positive long are (output_block_at place (take block bytes)) refl is
    (λ later. refused_among count block (place + block) (drop block bytes) at positive (omega (arith, long, all, length-drop block bytes)) (all_drop FitsByte block bytes are) later)

-- ---- the law

-- as many of the first bytes as there are, before others
front_agrees : (upto whole : ℕ) (bytes behind : List ℕ) → whole ≤ length bytes → take upto (take whole (take upto bytes ++ behind)) ≡ take upto (take whole bytes)
front_agrees upto whole bytes behind less =
    ⊎_elim
    (λ short.
    ap (λ front. take upto (take whole (front ++ behind))) (take_all upto bytes (omega (arith, short)))
    ∙ ap (take upto) (take-append-le whole bytes behind less))
    (λ long.
    cut_twice upto whole (take upto bytes ++ behind)
    ∙ ap (take whole) (take_at (take upto bytes) behind upto (length-take-le upto bytes long))
    ∙ cut_twice whole upto bytes)
    (cases_lt (length bytes) upto)

module _ (block : ℕ) (bytes : List ℕ) (positive : 0 < block) (small : block < 2 ^ 16) (offset at : ℕ) (is : at ≡ offset) (inside : offset < length bytes)
    (again : (other : List ℕ) (others upto : ℕ) → others * block ≡ length other → offset < length other → offset + 2 ≤ upto →
    take upto (take (length bytes / block * block) other) ≡ take upto (take (length bytes / block * block) bytes) → output_blocks_at others block 0 other ≡ Err at) where
  none_begin : CanBegin block (take (at + 2) bytes) → ⊥
  none_begin d =
      let whole = length bytes / block * block in
      let other = take (at + 2) bytes ++ d.behind in
      let blocks : length other ≡ length d.are.parts * block = ap length d.are.rest_is_zeros ∙ length-blocks block d.are.parts d.are.fits in
      let count : length other / block ≡ length d.are.parts = ap (λ bs. length bs / block) d.are.rest_is_zeros ∙ blocks-counted block d.are.parts positive d.are.fits in
      let read : output_blocks_at (length d.are.parts) block 0 other ≡ Ok d.records =
      ap (λ n. output_blocks_at n block 0 other) (sym count) ∙ frames-read block other d.records positive small d.are in
      let long : offset < length other = omega (arith, is, inside, length-append (take (at + 2) bytes) d.behind, length-take (at + 2) bytes) in
      let refused : output_blocks_at (length d.are.parts) block 0 other ≡ Err at =
      again other (length d.are.parts) (at + 2) (sym blocks) long (omega (arith, is))
      (front_agrees (at + 2) whole bytes d.behind (omega (arith, div-add-mod' (length bytes) block))) in
      let wrong : Ok d.records ≡ Err at = sym read ∙ refused in
      absurd cc

pub refused_is_lowest : RefusedIsLowest
refused_is_lowest block bytes at positive small are is =
    let d = refused_among (length bytes / block) block 0 bytes at positive (omega (arith, div-add-mod' (length bytes) block)) (by_recursion bytes are) is in
    let here : at ≡ d.offset = omega (arith, d.is) in
    record {
      inside = omega (arith, here, d.inside);
      before = subst (λ n. CanBegin block (take n bytes)) (sym here) d.before;
      there = elim d.there [
        | inl again ↦ inl (none_begin block bytes positive small d.offset at here d.inside again)
        | inr none ↦ inr (here ∙ none)
      ];
    }
