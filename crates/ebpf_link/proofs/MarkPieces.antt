-- Pieces that are put one after the other.
use Rattle.std.proofs.Common.{ℕ, ℤ, ◌≡◌, ◌∙◌, List, [], ◌∷◌, ◌++◌, ap, append_assoc}
use Rattle.std.specs.Prelude.{map}
use Rattle.ebpf_link.specs.Marks.{mark_end}
use Rattle.ebpf_link.specs.declared.pieces.Piece.{Piece}
use Rattle.ebpf_link.specs.declared.pieces.Piece.TheVariants.{Begins, Plain}
use Rattle.instruction_set.specs.declared.instruction.Instruction.{Instruction}

-- a label, and then some instructions
together : (l label : ℕ) (items marks : List Instruction) (start begun final : List Piece) → l ≡ label → items ≡ marks
    → begun ≡ start ++ (Begins l ∷ []) → final ≡ begun ++ map Plain items → final ≡ start ++ (Begins label ∷ map Plain marks)
together l label items marks start begun final same alike first rest =
    rest
    ∙ (ap (λ (x : List Piece). x ++ map Plain items) first
    ∙ (append_assoc start (Begins l ∷ []) (map Plain items)
    ∙ (ap (λ (k : ℕ). start ++ (Begins k ∷ map Plain items)) same
    ∙ ap (λ (x : List Instruction). start ++ (Begins label ∷ map Plain x)) alike)))

-- what writes a mark, where its cells are at these offsets
pub mark_put : (l label at : ℕ) (c s context scratch : ℤ) (items : List Instruction) (start begun final : List Piece)
    → l ≡ label → c ≡ context → s ≡ scratch → items ≡ mark_end c s at → begun ≡ start ++ (Begins l ∷ []) → final ≡ begun ++ map Plain items
    → final ≡ start ++ (Begins label ∷ map Plain (mark_end context scratch at))
mark_put l label at c s context scratch items start begun final same one other are first rest =
    together l label items (mark_end context scratch at) start begun final same
    (are ∙ (ap (λ (k : ℤ). mark_end k s at) one ∙ ap (λ (k : ℤ). mark_end context k at) other)) first rest
