use Rattle.std.proofs.Common.{rules, ◌≡◌, ◌<◌, ◌∷◌, drop, drop-cons, get_or, length, sym, ap, ◌∙◌}
use Rattle.handed_file.specs.Handed.{made_calls, noted, waiting}
use Rattle.handed_file.proofs.There.{next_is_there}
use Rattle.handed_file.proofs.handed_file.HandedFile.next.Goals as goal

pub returns-in-Some-clause-there : goal.returns-in-Some-clause-there
returns-in-Some-clause-there c =
    let file = c.args.self.now in
    let call = c.in-Some.call.now in
    let some : 0 < length (waiting file) = search rules in
    let first : get_or (waiting file) 0 call ≡ call = search rules in
    next_is_there call (drop 1 (waiting file)) (waiting file) (noted file) (made_calls file)
    (drop-cons (waiting file) 0 call some ∙ ap (λ x. x ∷ drop 1 (waiting file)) first) file.in_order file.there
