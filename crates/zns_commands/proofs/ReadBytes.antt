-- The bytes of written blocks and of zeros behind them.
use Rattle.std.proofs.Common.{◌≡◌, ℕ, zero, suc, ◌+◌, ◌-◌, ◌*◌, ◌≤◌, min, List, [], ◌∷◌, ◌++◌, length, take, drop, replicate, refl, ap, sym, ◌∙◌, arith, append_assoc, length-append, length-drop}
use Rattle.std.specs.List.{concat}
use Rattle.std.proofs.lemmas.List.{take_at, drop_at, take_min, drop_min, take-replicate, length-replicate, replicate-append-replicate}
use Rattle.std.proofs.lemmas.List.Folds.{concat-append}
use Rattle.std.proofs.Math.Nat.{suc-mul, add-mul}
use Rattle.zns_commands.specs.Read.{blocks_read}

take_append : {X : Type 0} (n : ℕ) (xs ys : List X) → take n (xs ++ ys) ≡ take n xs ++ take (n - length xs) ys
take_append zero [] ys = refl
take_append (suc n) [] ys = let same : suc n ≡ suc n - 0 = omega arith in ap (λ (m : ℕ). take m ys) same
take_append zero (x ∷ xs) ys = let none : zero - length (x ∷ xs) ≡ 0 = omega arith in rw none refl
take_append (suc n) (x ∷ xs) ys =
    let less : suc n - length (x ∷ xs) ≡ n - length xs = omega arith in
    rw less (ap (λ (zs : List _). x ∷ zs) (take_append n xs ys))

concat_zeros : (block count : ℕ) → concat (replicate count (replicate block 0)) ≡ replicate (count * block) 0
concat_zeros block zero = let none : zero * block ≡ 0 = omega arith in rw none refl
concat_zeros block (suc count) =
    let more : block + count * block ≡ suc count * block = omega (arith, suc-mul count block) in
    ap (λ (xs : List ℕ). replicate block 0 ++ xs) (concat_zeros block count)
    ∙ (replicate-append-replicate block (count * block) 0 ∙ ap (λ (n : ℕ). replicate n 0) more)

-- the stored blocks of a range and zeros for the others are what is read
pub read_bytes : (block : ℕ) (blocks : List (List ℕ)) (place count first stored : ℕ) → first ≡ min place (length blocks) → stored ≡ min count (length blocks - first)
    → concat (take stored (drop first blocks)) ++ replicate ((count - stored) * block) 0 ≡ concat (blocks_read block blocks place count)
read_bytes block blocks place count first stored is_first is_stored =
    let rest = drop place blocks in
    let zero_block : List ℕ = replicate block 0 in
    let behind : drop first blocks ≡ rest = ap (λ (n : ℕ). drop n blocks) is_first ∙ drop_min place blocks in
    let long : stored ≡ min count (length rest) = omega (arith, length-drop place blocks) in
    let front : take stored (drop first blocks) ≡ take count rest = ap (take stored) behind ∙ (ap (λ (n : ℕ). take n rest) long ∙ take_min count rest) in
    let missing : count - stored ≡ count - length rest = omega arith in
    let fewer : count - length rest ≤ count = omega arith in
    let zeros : replicate ((count - stored) * block) 0 ≡ concat (take (count - length rest) (replicate count zero_block)) =
    ap (λ (n : ℕ). replicate (n * block) 0) missing
    ∙ (sym (concat_zeros block (count - length rest)) ∙ ap concat (sym (take-replicate (count - length rest) count zero_block fewer))) in
    ap (λ (xs : List (List ℕ)). concat xs ++ replicate ((count - stored) * block) 0) front
    ∙ (ap (λ (xs : List ℕ). concat (take count rest) ++ xs) zeros
    ∙ (sym (concat-append (take count rest) (take (count - length rest) (replicate count zero_block)))
    ∙ ap concat (sym (take_append count rest (replicate count zero_block)))))

-- stored and missing blocks have the bytes of all
pub parts : (count stored block : ℕ) → stored ≤ count → stored * block + (count - stored) * block ≡ count * block
parts count stored block h =
    let whole : stored + (count - stored) ≡ count = omega arith in
    sym (add-mul stored (count - stored) block) ∙ ap (λ (n : ℕ). n * block) whole

joined : (new bytes rest : List ℕ) (zeros : ℕ) → new ≡ bytes ++ (replicate zeros 0 ++ rest) → new ≡ (bytes ++ replicate zeros 0) ++ rest
joined new bytes rest zeros is = is ∙ sym (append_assoc bytes (replicate zeros 0) rest)

pub given_front : (new bytes rest : List ℕ) (zeros total : ℕ) → new ≡ bytes ++ (replicate zeros 0 ++ rest) → length bytes + zeros ≡ total → take total new ≡ bytes ++ replicate zeros 0
given_front new bytes rest zeros total is size =
    let long : length (bytes ++ replicate zeros 0) ≡ total = omega (arith, length-append bytes (replicate zeros 0), length-replicate {A = ℕ} zeros 0) in
    ap (take total) (joined new bytes rest zeros is) ∙ take_at (bytes ++ replicate zeros 0) rest total long

pub given_rest : (new bytes rest : List ℕ) (zeros total : ℕ) → new ≡ bytes ++ (replicate zeros 0 ++ rest) → length bytes + zeros ≡ total → drop total new ≡ rest
given_rest new bytes rest zeros total is size =
    let long : length (bytes ++ replicate zeros 0) ≡ total = omega (arith, length-append bytes (replicate zeros 0), length-replicate {A = ℕ} zeros 0) in
    ap (drop total) (joined new bytes rest zeros is) ∙ drop_at (bytes ++ replicate zeros 0) rest total long
