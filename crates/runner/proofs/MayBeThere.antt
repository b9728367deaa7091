-- Lists of what may be there.
use Rattle.std.proofs.Common.{◌≡◌, ℕ, ◌<◌, List, length, get_or, Option, Some, None, ap, sym, ◌∙◌}
use Rattle.std.proofs.lemmas.List.{get_or_default}

-- what the code reads at an index, with a default of its own, is there
pub read_at : {X : Type 0} (xs : List (Option X)) (i k : ℕ) (default : Option X) (x : X) → i ≡ k → i < length xs → get_or xs i default ≡ Some x
    → get_or xs k None ≡ Some x
read_at xs i k default x same inside is =
    ap (λ (n : ℕ). get_or xs n None) (sym same) ∙ get_or_default xs i None default inside ∙ is

-- what is there is what the code reads
pub found : {X : Type 0} (xs : List (Option X)) (i k : ℕ) (default : Option X) (x : X) → i ≡ k → i < length xs → get_or xs k None ≡ Some x
    → get_or xs i default ≡ Some x
found xs i k default x same inside at =
    get_or_default xs i default None inside ∙ ap (λ (n : ℕ). get_or xs n None) same ∙ at
