-- What reading a piece of some bytes does.
use Rattle.std.proofs.Common.{◌≡◌, ℕ, ◌+◌, ◌-◌, List, ◌++◌, length, take, drop, min, ap, sym, ◌∙◌, arith, length-append, length-drop}
use Rattle.std.proofs.lemmas.List.{take_rest, drop_min, take_at, drop-drop, take-append-drop, length-take}
use Rattle.image_text.specs.Streams.{IsRead, IsSkipped}

-- the bytes at a place, as many as there are and as have room, are put to the front of another slice
pub piece : (bytes to copied : List ℕ) (at start count : ℕ) → start ≡ min at (length bytes)
    → count ≡ min (length (take (length bytes - start) (drop start bytes))) (length to)
    → copied ≡ take count (take (length bytes - start) (drop start bytes))
    → IsRead (drop at bytes) (drop (start + count) bytes) (copied ++ drop count to) count
piece bytes to copied at start count start_is count_is copied_is =
    let rest : take (length bytes - start) (drop start bytes) ≡ drop start bytes = take_rest bytes start in
    let begins : drop at bytes ≡ drop start bytes = sym (ap (λ (n : ℕ). drop n bytes) start_is ∙ drop_min at bytes) in
    let part : copied ≡ take count (drop start bytes) = copied_is ∙ ap (λ (xs : List ℕ). take count xs) rest in
    let most : count ≡ min (length (drop start bytes)) (length to) = count_is ∙ ap (λ (xs : List ℕ). min (length xs) (length to)) rest in
    let whole : length copied ≡ count = ap length part ∙ length-take count (drop start bytes) ∙ omega arith in
    let front : take count (copied ++ drop count to) ≡ copied = take_at copied (drop count to) count whole in
    let behind : drop count (drop start bytes) ≡ drop (start + count) bytes = drop-drop count start bytes in
    record {
      bytes = begins ∙ sym (take-append-drop count (drop start bytes)) ∙ ap (λ (xs : List ℕ). take count (drop start bytes) ++ xs) behind
          ∙ ap (λ (xs : List ℕ). xs ++ drop (start + count) bytes) (sym part ∙ sym front);
      some = λ there room. let left : length (drop at bytes) ≡ length (drop start bytes) = ap length begins in
          let all : length (copied ++ drop count to) ≡ length copied + length (drop count to) = length-append copied (drop count to) in
          let other : length (drop count to) ≡ length to - count = length-drop count to in omega arith;
    }

-- the bytes at a place are passed over, as many as there are and are wanted
pub passed : (bytes : List ℕ) (at start count most : ℕ) → start ≡ min at (length bytes) → count ≡ min most (length bytes - start)
    → IsSkipped (drop at bytes) (drop (start + count) bytes) most count
passed bytes at start count most start_is count_is =
    let begins : drop at bytes ≡ drop start bytes = sym (ap (λ (n : ℕ). drop n bytes) start_is ∙ drop_min at bytes) in
    let size : length (drop at bytes) ≡ length bytes - start = ap length begins ∙ length-drop start bytes in
    record {
      rest = sym (drop-drop count start bytes) ∙ ap (drop count) (sym begins);
      there = omega (arith, size, count_is);
      some = λ there wanted. omega (arith, size, count_is, there, wanted);
    }
