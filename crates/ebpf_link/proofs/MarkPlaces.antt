-- Where the guards of a program write.
use Rattle.std.proofs.Common.{ℕ, ◌≡◌, List, [], ◌∷◌, length, Option, None, refl, arith}
use Rattle.ebpf_link.specs.Marks.{IsMarkPlace, IsPlaceOfMarks}
use Rattle.ebpf_link.specs.declared.layout.LaidGuard.{LaidGuard}
use Rattle.ebpf_link.specs.declared.target.MarkRule.{MarkRule}

pub no_guards : (guards : List LaidGuard) (marks : MarkRule) (stored : ℕ) → length guards ≡ 0 → IsPlaceOfMarks guards marks stored None
no_guards [] marks stored none = refl
no_guards (guard ∷ guards) marks stored none = absurd (omega (arith, none))

pub some_guards : (guards : List LaidGuard) (marks : MarkRule) (stored : ℕ) (found : Option ℕ) → (length guards ≡ 0 → ⊥)
    → IsMarkPlace marks stored found → IsPlaceOfMarks guards marks stored found
some_guards [] marks stored found some is = absurd (some refl)
some_guards (guard ∷ guards) marks stored found some is = is
