-- One step of a layout: a group goes into the room that is left, or begins a block.
use Rattle.std.proofs.Common.{◌≡◌, ℕ, ◌-◌, ◌≤◌, ◌<◌, cond, List, [], ◌∷◌, length, ap, ◌∙◌, arith}
use Rattle.std.proofs.lemmas.Bool.{le-leb, lt-leb}
use Rattle.emit_append.specs.Packing.{behind, beginning, laid_out, block_fillings}

pub laid-behind : (block room : ℕ) (group : List ℕ) (groups : List (List ℕ)) → length group ≤ room →
    laid_out block room (group ∷ groups) ≡ behind group (laid_out block (room - length group) groups)
laid-behind block room group groups fits =
    ap (λ test. cond test (behind group (laid_out block (room - length group) groups)) (beginning group (laid_out block (block - length group) groups))) (le-leb (length group) room fits)

pub laid-beginning : (block room : ℕ) (group : List ℕ) (groups : List (List ℕ)) → room < length group →
    laid_out block room (group ∷ groups) ≡ beginning group (laid_out block (block - length group) groups)
laid-beginning block room group groups longer =
    ap (λ test. cond test (behind group (laid_out block (room - length group) groups)) (beginning group (laid_out block (block - length group) groups))) (lt-leb (length group) room longer)

pub laid-empty : (block room : ℕ) (groups : List (List ℕ)) → laid_out block room ([] ∷ groups) ≡ laid_out block room groups
laid-empty block room groups =
    let left : room - 0 ≡ room = omega arith in
    laid-behind block room [] groups (omega arith) ∙ ap (λ r. laid_out block r groups) left

-- a first group with bytes begins a block
pub filled-first : (block : ℕ) (x : List ℕ) (after : List (List ℕ)) → 0 < length x → block_fillings block (x ∷ after) ≡ (beginning x (laid_out block (block - length x) after)).later
filled-first block x after some = ap (λ l. l.later) (laid-beginning block 0 x after some)

pub filled-empty : (block : ℕ) (groups : List (List ℕ)) → block_fillings block ([] ∷ groups) ≡ block_fillings block groups
filled-empty block groups = ap (λ l. l.later) (laid-empty block 0 groups)
