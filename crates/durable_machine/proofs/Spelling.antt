-- What spelled events stand for.
use Rattle.std.proofs.Common.{◌≡◌, ◌≢◌, ◌<◌, ◌≤◌, ◌^◌, ℕ, List, [], ◌∷◌, ◌++◌, length, take, drop, refl, sym, ◌∙◌, ap, arith, append_assoc, length-append}
use Rattle.std.proofs.lemmas.List.{take_at, drop_at, append-nil}
use Rattle.durable_machine.specs.Events.{number_bytes, spelled, AreSized, BeginsNoEvent}
use Rattle.durable_machine.proofs.Numbers.{length-number_bytes, number_bytes_injective}

pub spelled-append : (es fs : List (List ℕ)) → spelled (es ++ fs) ≡ spelled es ++ spelled fs
spelled-append [] fs = refl
spelled-append (a ∷ es) fs =
    ap (λ (l : List ℕ). 1 ∷ number_bytes (length a) ++ a ++ l) (spelled-append es fs)
    ∙ ap (λ (l : List ℕ). 1 ∷ l) (sym (append_assoc (number_bytes (length a) ++ a) (spelled es) (spelled fs)))

pub sized-append : (es fs : List (List ℕ)) → AreSized es → AreSized fs → AreSized (es ++ fs)
sized-append [] fs ha hb = hb
sized-append (a ∷ es) fs ha hb = (ha.0, sized-append es fs ha.1 hb)

-- the first event's bytes, and what stands after it
pub begins_spelled : (e : List ℕ) (es : List (List ℕ)) (end : List ℕ) → spelled (e ∷ es) ++ end ≡ 1 ∷ number_bytes (length e) ++ e ++ (spelled es ++ end)
begins_spelled e es end = ap (λ (l : List ℕ). 1 ∷ l) (append_assoc (number_bytes (length e) ++ e) (spelled es) end)

-- an event is read in one way
pub one_reading : (a b x y : List ℕ) → length a < 2 ^ 64 → length b < 2 ^ 64 → 1 ∷ number_bytes (length a) ++ a ++ x ≡ 1 ∷ number_bytes (length b) ++ b ++ y → (a ≡ b) × (x ≡ y)
one_reading a b x y ha hb is =
    let tails : number_bytes (length a) ++ a ++ x ≡ number_bytes (length b) ++ b ++ y = ap (λ (l : List ℕ). drop 1 l) is in
    let split : number_bytes (length a) ++ (a ++ x) ≡ number_bytes (length b) ++ (b ++ y) = sym (append_assoc (number_bytes (length a)) a x) ∙ tails ∙ append_assoc (number_bytes (length b)) b y in
    let numbers : number_bytes (length a) ≡ number_bytes (length b) =
    sym (take_at (number_bytes (length a)) (a ++ x) 8 (length-number_bytes (length a))) ∙ ap (λ (l : List ℕ). take 8 l) split ∙ take_at (number_bytes (length b)) (b ++ y) 8 (length-number_bytes (length b)) in
    let same : length a ≡ length b = number_bytes_injective (length a) (length b) ha hb numbers in
    let behind : a ++ x ≡ b ++ y =
    sym (drop_at (number_bytes (length a)) (a ++ x) 8 (length-number_bytes (length a))) ∙ ap (λ (l : List ℕ). drop 8 l) split ∙ drop_at (number_bytes (length b)) (b ++ y) 8 (length-number_bytes (length b)) in (
      sym (take_at a x (length a) refl) ∙ ap (λ (l : List ℕ). take (length a) l) behind ∙ take_at b y (length a) (sym same),
      sym (drop_at a x (length a) refl) ∙ ap (λ (l : List ℕ). drop (length a) l) behind ∙ drop_at b y (length a) (sym same),
    )

-- bytes stand for one list of events
pub one_list : (es fs : List (List ℕ)) (x y : List ℕ) → AreSized es → AreSized fs → BeginsNoEvent x → BeginsNoEvent y → spelled es ++ x ≡ spelled fs ++ y → es ≡ fs
one_list [] [] x y ha hb nx ny is = refl
one_list [] (b ∷ fs) x y ha hb nx ny is = absurd (nx b (spelled fs ++ y) (record { sized = hb.0; parts = is ∙ begins_spelled b fs y }))
one_list (a ∷ es) [] x y ha hb nx ny is = absurd (ny a (spelled es ++ x) (record { sized = ha.0; parts = sym is ∙ begins_spelled a es x }))
one_list (a ∷ es) (b ∷ fs) x y ha hb nx ny is =
    let read = one_reading a b (spelled es ++ x) (spelled fs ++ y) ha.0 hb.0 (sym (begins_spelled a es x) ∙ is ∙ begins_spelled b fs y) in
    let rest : es ≡ fs = one_list es fs x y ha.1 hb.1 nx ny read.1 in
    cc (read.0, rest)

-- after a gate that isn't open there is none
pub closed : (gate : ℕ) (rest : List ℕ) → gate ≢ 1 → BeginsNoEvent (gate ∷ rest)
closed gate rest shut event behind begins = shut (first_same begins.parts)
  where
    first_same : {l : List ℕ} → gate ∷ rest ≡ 1 ∷ l → gate ≡ 1
    first_same is = cc

-- an event takes more than 8 bytes
pub too_short : (bytes : List ℕ) → length bytes ≤ 8 → BeginsNoEvent bytes
too_short bytes short event rest begins =
    let long = ap length begins.parts in
    absurd (omega (arith, long, length-append (number_bytes (length event) ++ event) rest, length-append (number_bytes (length event)) event, length-number_bytes (length event)))

-- an event is put after others, part by part
pub one_added : (es opened sized all digits event : List ℕ) → opened ≡ es ++ 1 ∷ [] → sized ≡ opened ++ digits → all ≡ sized ++ event → digits ≡ number_bytes (length event) → all ≡ es ++ spelled (event ∷ [])
one_added es opened sized all digits event first second third are =
    third ∙ ap (λ (l : List ℕ). l ++ event) (second ∙ ap (λ (l : List ℕ). l ++ digits) first ∙ ap (λ (l : List ℕ). (es ++ 1 ∷ []) ++ l) are)
    ∙ append_assoc (es ++ 1 ∷ []) (number_bytes (length event)) event
    ∙ append_assoc es (1 ∷ []) (number_bytes (length event) ++ event)
    ∙ ap (λ (l : List ℕ). es ++ 1 ∷ l) (sym (append-nil (number_bytes (length event) ++ event)))

-- and where it stands in three parts
pub parts_added : (es opened sized one two all digits a b c : List ℕ) → opened ≡ es ++ 1 ∷ [] → sized ≡ opened ++ digits → one ≡ sized ++ a → two ≡ one ++ b → all ≡ two ++ c → digits ≡ number_bytes (length (a ++ b ++ c))
    → all ≡ es ++ spelled ((a ++ b ++ c) ∷ [])
parts_added es opened sized one two all digits a b c first second is_a is_b is_c are =
    let parts : all ≡ sized ++ (a ++ b ++ c) =
    is_c ∙ ap (λ (l : List ℕ). l ++ c) (is_b ∙ ap (λ (l : List ℕ). l ++ b) is_a ∙ append_assoc sized a b) ∙ append_assoc sized (a ++ b) c in
    one_added es opened sized all digits (a ++ b ++ c) first second parts are

-- nothing stands after it
pub alone : (event : List ℕ) → event ++ [] ++ [] ≡ event
alone event = append-nil (event ++ []) ∙ append-nil event
