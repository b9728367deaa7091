-- The names of a layout, one at a time.
use Rattle.std.proofs.Common.{◌≡◌, ℕ, suc, ◌+◌, ◌<◌, cond, List, ◌∷◌, length, get_or, drop, map, Some, sym, ap, ◌∙◌, add-one}
use Rattle.std.proofs.Math.Seq.{drop-cons}
use Rattle.std.specs.Str.{bytes_eq}
use Rattle.question_words.specs.declared.layout.NamedField.{NamedField}
use Rattle.question_words.specs.Layout.{entry_of, field_named}

-- the name at a place is looked at before those after it
pub named_at : (xs : List NamedField) (i : ℕ) (x : NamedField) (name : List ℕ) → i < length xs → x ≡ get_or xs i x
    → field_named (map entry_of (drop i xs)) name ≡ cond (bytes_eq x.name.items name) (Some x.field) (field_named (map entry_of (drop (i + 1) xs)) name)
named_at xs i x name lt same =
    ap (λ (ys : List NamedField). field_named (map entry_of ys) name) (drop-cons xs i x lt ∙ ap (λ (y : NamedField). y ∷ drop (suc i) xs) (sym same))
    ∙ ap (λ (n : ℕ). cond (bytes_eq x.name.items name) (Some x.field) (field_named (map entry_of (drop n xs)) name)) (sym (add-one i))
