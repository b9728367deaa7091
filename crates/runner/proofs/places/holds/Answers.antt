use Rattle.std.proofs.Common.{◌≡◌, ℕ, ◌+◌, ◌<◌, List, [], ◌∷◌, ◌++◌, length, get_or, map, set, take, arith, sym, ap, ◌∙◌}
use Rattle.std.proofs.lemmas.List.{length-set, map_more, take_all, take_more_set}
use Rattle.runner.specs.steps.ActiveRuns.{source_held, destination_held}
use Rattle.runner.proofs.places.holds.Goals as goal

-- an array of what is made of another's elements, with one element more
mapped_more : {A B : Type 0} (f : A → B) (xs : List A) (ys : List B) (i : ℕ) (y : B) (d : A) → i < length xs → i < length ys
    → take i ys ≡ map f (take i xs) → y ≡ f (get_or xs i d) → take (i + 1) (set ys i y) ≡ map f (take (i + 1) xs)
mapped_more f xs ys i y d inside there before here =
    take_more_set ys i y there ∙ ap (λ v. v ++ y ∷ []) before ∙ ap (λ v. map f (take i xs) ++ v ∷ []) here ∙ sym (map_more f xs i d inside)

pub loop-number-preserved : goal.loop-number-preserved
loop-number-preserved c =
    let l = c.loop-number in
    let runs = c.args.runs.now in
    record {
      sources = mapped_more source_held runs l.sources l.number c.source.result c.index-runs-number.result (omega arith) (omega arith) l.invariant.sources c.source.ensures;
      destinations = mapped_more destination_held runs l.destinations l.number c.destination.result c.index-runs-number.result (omega arith) (omega arith) l.invariant.destinations c.destination.ensures;
      all_sources = length-set l.sources l.number c.source.result ∙ l.invariant.all_sources;
      all_destinations = length-set l.destinations l.number c.destination.result ∙ l.invariant.all_destinations;
    }

pub returns : goal.returns
returns c =
    let l = c.loop-number in
    let runs = c.args.runs.now in
    let all = take_all l.number runs (omega arith) in
    let sources : l.sources ≡ map source_held runs = sym (take_all l.number l.sources (omega arith)) ∙ (l.invariant.sources ∙ ap (map source_held) all) in
    let destinations : l.destinations ≡ map destination_held runs = sym (take_all l.number l.destinations (omega arith)) ∙ (l.invariant.destinations ∙ ap (map destination_held) all) in
    cc
