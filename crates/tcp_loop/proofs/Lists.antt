-- A list of which one element is another, and bytes that are there already.
use Rattle.std.proofs.Common.{◌≡◌, ◌≢◌, ◌<◌, ℕ, ◌+◌, Bool, true, false, if◌then◌else◌, List, [], ◌++◌, length, take, drop, refl, sym, ap, subst, ◌∙◌, append_assoc, ⊎_elim, arith, length-append}
use Rattle.std.specs.Prelude.{◌==◌, slice_index_or, slice_set}
use Rattle.std.proofs.lemmas.Bool.Decides.{Decides-eqb, eqb_tells}
use Rattle.std.proofs.lemmas.List.{drop-drop, drop_at, get_or-set_other, get_or-set_same, set-get_or, take-append-drop, take_at}
use Rattle.std.proofs.lemmas.Slice.Eq.{slice_eq-Decides}
use Rattle.stored_file.proofs.Renewing.{mix_size}
use Rattle.stored_file.specs.File.{Mixed, Torn, is_written}
use Rattle.tcp_loop.specs.Disk.{is_there}

pub at_bool : (b : Bool) (P : Bool → Type 0) → (b ≡ true → P true) → (b ≡ false → P false) → P b
at_bool true P one other = one refl
at_bool false P one other = other refl

-- what is so at this place, and at each other, is so at all
pub at_places : (number place : ℕ) (P : Bool → Type 0) → (number ≡ place → P true) → (place ≢ number → P false) → P (place == number)
at_places number place P here there =
    ⊎_elim
    (λ (is : (place == number ≡ true) × (place ≡ number)). subst P (sym is.0) (here (sym is.1)))
    (λ (other : (place == number ≡ false) × (place ≢ number)). subst P (sym other.0) (there other.1)) (eqb_tells place number)

-- the bytes of a place are handed on: these many of them first, and the others wait
pub handed_on : (waiting : List (List ℕ)) (number place first count : ℕ) (piece : List ℕ) → number < length waiting
    → (if place == number then take count (drop first piece) else []) ++ slice_index_or (slice_set waiting number (drop (first + count) piece)) place []
    ≡ slice_index_or (slice_set waiting number (drop first piece)) place []
handed_on waiting number place first count piece within =
    at_places number place
    (λ b. (if b then take count (drop first piece) else []) ++ slice_index_or (slice_set waiting number (drop (first + count) piece)) place []
    ≡ slice_index_or (slice_set waiting number (drop first piece)) place [])
    (λ here. let taken : slice_index_or (slice_set waiting number (drop (first + count) piece)) place [] ≡ drop (first + count) piece =
    subst (λ (q : ℕ). slice_index_or (slice_set waiting number (drop (first + count) piece)) q [] ≡ drop (first + count) piece) here
    (get_or-set_same waiting number (drop (first + count) piece) [] within) in
    let before : slice_index_or (slice_set waiting number (drop first piece)) place [] ≡ drop first piece =
    subst (λ (q : ℕ). slice_index_or (slice_set waiting number (drop first piece)) q [] ≡ drop first piece) here
    (get_or-set_same waiting number (drop first piece) [] within) in
    ap (λ (l : List ℕ). take count (drop first piece) ++ l) (taken ∙ sym (drop-drop count first piece))
    ∙ take-append-drop count (drop first piece) ∙ sym before)
    (λ there. get_or-set_other waiting number place _ [] there ∙ sym (get_or-set_other waiting number place _ [] there))

-- a place has what it has
pub set_as_is : (waiting : List (List ℕ)) (number : ℕ) (piece : List ℕ) → slice_index_or waiting number [] ≡ piece
    → slice_set waiting number piece ≡ waiting
set_as_is waiting number piece is = subst (λ (l : List ℕ). slice_set waiting number l ≡ waiting) is (set-get_or waiting number [])

-- bytes that are there are written over themselves
pub there_already : («at» : ℕ) (bytes seen : List ℕ) → is_there «at» bytes seen ≡ true → is_written «at» bytes seen ≡ seen
there_already «at» bytes seen there =
    let is : bytes ≡ take (length bytes) (drop «at» seen) =
    (slice_eq-Decides Decides-eqb bytes (take (length bytes) (drop «at» seen)) (is_there «at» bytes seen) refl).0 there in
    ap (λ (l : List ℕ). take «at» seen ++ l ++ drop («at» + length bytes) seen) is
    ∙ ap (λ (l : List ℕ). take «at» seen ++ take (length bytes) (drop «at» seen) ++ l) (sym (drop-drop (length bytes) «at» seen))
    ∙ append_assoc (take «at» seen) (take (length bytes) (drop «at» seen)) (drop (length bytes) (drop «at» seen))
    ∙ ap (λ (l : List ℕ). take «at» seen ++ l) (take-append-drop (length bytes) (drop «at» seen))
    ∙ take-append-drop «at» seen

-- what is behind two parts
behind_at : («at» n : ℕ) (front middle behind all : List ℕ) → all ≡ front ++ middle ++ behind → length front ≡ «at» → length middle ≡ n
    → drop («at» + n) all ≡ behind
behind_at «at» n front middle behind all is first second =
    let long : length (front ++ middle) ≡ length front + length middle = length-append front middle in
    ap (drop («at» + n)) is ∙ drop_at (front ++ middle) behind («at» + n) (omega (arith, long, first, second))

-- a mix of bytes with others is torn there, and nowhere else
pub torn_by_mix : («at» : ℕ) (bytes old new : List ℕ) → Mixed «at» bytes old new → Torn «at» (length bytes) old new
torn_by_mix «at» bytes old new x =
    let sizes = mix_size x.was bytes x.mix x.mixes in
    let same : length x.mix ≡ length x.was = sizes.0 in
    let bytes_same : length bytes ≡ length x.was = sizes.1 in
    let mix_long : length x.mix ≡ length bytes = same ∙ sym bytes_same in
    let was_long : length x.was ≡ length bytes = sym bytes_same in
    let old_long : length old ≡ length x.front + length x.was + length x.behind =
    ap length x.parts ∙ length-append (x.front ++ x.was) x.behind ∙ ap (λ (n : ℕ). n + length x.behind) (length-append x.front x.was) in
    let new_long : length new ≡ length x.front + length x.mix + length x.behind =
    ap length x.is ∙ length-append (x.front ++ x.mix) x.behind ∙ ap (λ (n : ℕ). n + length x.behind) (length-append x.front x.mix) in
    record {
      before = ap (take «at») (x.is ∙ append_assoc x.front x.mix x.behind) ∙ take_at x.front (x.mix ++ x.behind) «at» x.size
          ∙ sym (ap (take «at») (x.parts ∙ append_assoc x.front x.was x.behind) ∙ take_at x.front (x.was ++ x.behind) «at» x.size);
      after = behind_at «at» (length bytes) x.front x.mix x.behind new x.is x.size mix_long
          ∙ sym (behind_at «at» (length bytes) x.front x.was x.behind old x.parts x.size was_long);
      no_shorter = omega (arith, old_long, new_long, same);
      no_longer = omega (arith, old_long, new_long, same);
    }
