-- A crash leaves some file.
use Rattle.std.proofs.Common.{◌≡◌, ◌≤◌, ◌+◌, ◌&&◌, ℕ, Bool, true, false, List, [], ◌∷◌, ◌++◌, drop, length, max, min, take, inl, inr, refl, sym, ap, ◌∙◌, append_assoc, arith}
use Rattle.std.proofs.lemmas.Bool.{and_parts, le-leb, leb-true}
use Rattle.std.proofs.lemmas.List.{length-drop, length-take, take-append-drop, take_all}
use Rattle.std.specs.Prelude.{nat_le}
use Rattle.stored_file.specs.File.{Cut, IsMix, MayLeave, Mixed, Torn}
use Rattle.stored_file.specs.Calls.{Call}
use Rattle.stored_file.specs.Calls as call
use Rattle.handed_file.specs.Handed.{told_of}
use Rattle.handed_file.specs.Left.{each_is_long, left_of, synced_of}

synced : (calls : List Call) → (told_of calls).once_synced (synced_of calls)
synced [] = tt
synced (call.Opened bytes ∷ calls) = inl refl
synced (call.Written «at» bytes done ∷ calls) = (synced_of calls, synced calls, refl)
synced (call.Renewed «at» bytes done ∷ calls) = (synced_of calls, synced calls, refl)
synced (call.Shortened len done ∷ calls) = (synced_of calls, synced calls, λ within. refl)
synced (call.Synced done ∷ calls) = synced calls
synced (call.Replaced bytes done ∷ calls) = refl
synced (call.NotReplaced ∷ calls) = synced calls
synced (call.Refused ∷ calls) = synced calls

-- nothing of a write came to the disk,
not_torn : (at n : ℕ) (c : List ℕ) → Torn at n c c
not_torn at n c = record { before = refl; after = refl; no_shorter = omega arith; no_longer = omega arith }

not_cut : (n : ℕ) (c : List ℕ) → Cut n c c
not_cut n c = record { no_shorter = omega arith; front = sym (take_all (length c) c (omega arith)) }

-- or of bytes that were written again
same_mix : (was bytes : List ℕ) → length was ≡ length bytes → IsMix was bytes was
same_mix [] [] size = tt
same_mix [] (y ∷ ys) size = absurd (omega (arith, size))
same_mix (x ∷ xs) [] size = absurd (omega (arith, size))
same_mix (x ∷ xs) (y ∷ ys) size = (inl refl, same_mix xs ys (omega (arith, size)))

not_mixed : (at : ℕ) (bytes c : List ℕ) → at + length bytes ≤ length c → Mixed at bytes c c
not_mixed at bytes c long =
    let parts : c ≡ take at c ++ take (length bytes) (drop at c) ++ drop (length bytes) (drop at c) =
    sym (take-append-drop at c) ∙ ap (λ (rest : List ℕ). take at c ++ rest) (sym (take-append-drop (length bytes) (drop at c)))
    ∙ sym (append_assoc (take at c) (take (length bytes) (drop at c)) (drop (length bytes) (drop at c))) in
    record {
      front = take at c;
      was = take (length bytes) (drop at c);
      mix = take (length bytes) (drop at c);
      behind = drop (length bytes) (drop at c);
      size = length-take at c ∙ omega (arith, long);
      parts = parts;
      is = parts;
      mixes = same_mix (take (length bytes) (drop at c)) bytes (length-take (length bytes) (drop at c) ∙ omega (arith, long, length-drop at c));
    }

pub left : (calls : List Call) → each_is_long calls ≡ true → MayLeave (told_of calls) (left_of calls)
left [] long = tt
left (call.Opened bytes ∷ calls) long = inr (omega arith, inl refl)
left (call.Written «at» bytes done ∷ calls) long = inr (omega arith, (left_of calls, left calls long, not_torn «at» (length bytes) (left_of calls)))
left (call.Renewed «at» bytes done ∷ calls) long =
    let both = and_parts (nat_le («at» + length bytes) (length (left_of calls))) (each_is_long calls) long in
    inr (omega arith, (left_of calls, left calls both.1, not_mixed «at» bytes (left_of calls) (leb-true («at» + length bytes) (length (left_of calls)) both.0)))
left (call.Shortened len done ∷ calls) long = inr (omega arith, (left_of calls, left calls long, not_cut len (left_of calls)))
left (call.Synced true ∷ calls) long = inr (omega arith, synced calls)
left (call.Synced false ∷ calls) long = inr (omega arith, left calls long)
left (call.Replaced bytes true ∷ calls) long = inr (omega arith, refl)
left (call.Replaced bytes false ∷ calls) long = inr (omega arith, inl (left calls long))
left (call.NotReplaced ∷ calls) long = inr (omega arith, left calls long)
left (call.Refused ∷ calls) long = inr (omega arith, left calls long)

-- bytes are written again
pub still_long : (calls : List Call) (at : ℕ) (bytes : List ℕ) (done : Bool) → each_is_long calls ≡ true
    → ((c : List ℕ) → MayLeave (told_of calls) c → at + length bytes ≤ length c) → each_is_long (call.Renewed at bytes done ∷ calls) ≡ true
still_long calls at bytes done long all =
    ap (λ (b : Bool). b && each_is_long calls) (le-leb (at + length bytes) (length (left_of calls)) (all (left_of calls) (left calls long))) ∙ long
