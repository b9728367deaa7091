-- Bytes that are read until there are enough.
use Rattle.std.proofs.Common.{◌≡◌, ℕ, ◌+◌, ◌≤◌, ◌<◌, Bool, cond, nat_le, List, ◌++◌, length, take, drop, Result, Ok, Err, ap, sym, ◌∙◌, append_assoc, arith, length-append}
use Rattle.std.proofs.lemmas.Bool.{le-leb, lt-leb, leb-true}
use Rattle.std.proofs.lemmas.List.{take_at, drop_at, length-take-le, take-append-drop, take-append-le}
use Rattle.std.proofs.Math.Seq.{take-add}
use borrow.Rule.Slice.PartMut.{put_mid, post_of}
use Rattle.image_text.specs.declared.fault.LoadFault.{LoadFault}
use Rattle.image_text.specs.declared.fault.LoadFault.TheVariants.{Truncated}
use Rattle.image_text.specs.Streams.{IsRead}
use Rattle.image_text.specs.Reading.{bytes_in}
use Rattle.image_text.proofs.ReadingCalls.{chosen}

abbrev pub Split : Type 0
Split = List ℕ × List ℕ

-- bytes in front are those that are read
pub bytes_whole : (n : ℕ) (xs ys : List ℕ) → length xs ≡ n → bytes_in n (xs ++ ys) ≡ Ok (xs, ys)
bytes_whole n xs ys size =
    let there : n ≤ length (xs ++ ys) = omega (arith, length-append xs ys) in
    ap (λ (test : Bool). let r : Result Split LoadFault = cond test (Ok (take n (xs ++ ys), drop n (xs ++ ys))) (Err Truncated) in r) (le-leb n (length (xs ++ ys)) there)
    ∙ (ap (λ (front : List ℕ). let r : Result Split LoadFault = Ok (front, drop n (xs ++ ys)) in r) (take_at xs ys n size)
    ∙ ap (λ (back : List ℕ). let r : Result Split LoadFault = Ok (xs, back) in r) (drop_at xs ys n size))

-- too few bytes are none
pub bytes_short : (n : ℕ) (xs : List ℕ) → length xs < n → bytes_in n xs ≡ Err Truncated
bytes_short n xs short =
    ap (λ (test : Bool). let r : Result Split LoadFault = cond test (Ok (take n xs, drop n xs)) (Err Truncated) in r) (lt-leb n (length xs) short)

-- as many bytes are read as were wanted
pub bytes_size : (n : ℕ) (xs : List ℕ) (got : Split) → bytes_in n xs ≡ Ok got → length got.0 ≡ n
bytes_size n xs got e =
    let parts = chosen (nat_le n (length xs)) (take n xs, drop n xs) got Truncated e in
    let there = leb-true n (length xs) parts.0 in
    ap (λ (s : Split). length s.0) (sym parts.1) ∙ length-take-le n xs there

-- what is read stands in front of the rest
pub bytes_parts : (n : ℕ) (xs : List ℕ) (got : Split) → bytes_in n xs ≡ Ok got → got.0 ++ got.1 ≡ xs
bytes_parts n xs got e =
    let parts = chosen (nat_le n (length xs)) (take n xs, drop n xs) got Truncated e in
    ap (λ (s : Split). s.0 ++ s.1) (sym parts.1) ∙ take-append-drop n xs

-- what a read puts behind the bytes that were read before
fill_more : (at n k : ℕ) (xs ys : List ℕ) → at ≤ length xs → n ≤ length ys → take (at + n) (put_mid at k xs ys) ≡ take at xs ++ take n ys
fill_more at n k xs ys low some =
    let size : length (take at xs) ≡ at = length-take-le at xs low in
    take-add at n (put_mid at k xs ys)
    ∙ (ap (λ (front : List ℕ). front ++ take n (drop at (put_mid at k xs ys))) (take_at (take at xs) (ys ++ post_of at k xs) at size)
    ∙ (ap (λ (back : List ℕ). take at xs ++ take n back) (drop_at (take at xs) (ys ++ post_of at k xs) at size)
    ∙ ap (λ (part : List ℕ). take at xs ++ part) (take-append-le n ys (post_of at k xs) some)))

pub fill_bytes : (at n k : ℕ) (xs ys all mid after : List ℕ) → at ≤ length xs → n ≤ length ys → all ≡ take at xs ++ mid → IsRead mid after ys n → all ≡ take (at + n) (put_mid at k xs ys) ++ after
fill_bytes at n k xs ys all mid after low some so_far read =
    so_far
    ∙ (ap (λ (rest : List ℕ). take at xs ++ rest) read.bytes
    ∙ (sym (append_assoc (take at xs) (take n ys) after)
    ∙ ap (λ (front : List ℕ). front ++ after) (sym (fill_more at n k xs ys low some))))

pub fill_within : (at n k : ℕ) (xs ys : List ℕ) → at ≤ length xs → n ≤ length ys → at + n ≤ length (put_mid at k xs ys)
fill_within at n k xs ys low some =
    omega (arith, length-append (take at xs) (ys ++ post_of at k xs), length-append ys (post_of at k xs), length-take-le at xs low)
