use Rattle.std.proofs.Common.{◌≡◌, ◌++◌, ℕ, List, ap, drop, length, min, replicate, rules, take, ◌∙◌, ◌≤◌, arith}
use Rattle.std.proofs.lemmas.List.{length-replicate}
use Rattle.device_library.proofs.Mapped.{drop_least, take_least}
use Rattle.device_library.proofs.flags.padded.Goals as goal

pub returns : goal.returns
returns c =
    let bytes = c.args.bytes.now in
    let count = c.min-count.result in
    let is : count ≡ min (length bytes) 40 = search rules in
    let copied : c.copy_from_slice.new.self ≡ take count bytes = search rules in
    let zeros = replicate {A = ℕ} 40 0 in
    ap (λ (l : List ℕ). l ++ drop count zeros) (copied ∙ take_least 40 count bytes is)
    ∙ ap (λ (l : List ℕ). take 40 bytes ++ l) (drop_least 40 count (length bytes) zeros is (omega (arith, length-replicate {A = ℕ} 40 0)))
