use Rattle.std.proofs.Common.{rules, ◌≡◌, ◌≢◌, ◌<◌, ◌≤◌, ◌-◌, ◌^◌, length, subst, List, ℕ, get_or, drop}
use Rattle.std.proofs.lemmas.List.{take_rest}
use Rattle.image_base.specs.Needed.{NeedsEvents}
use Rattle.image_base.proofs.Needing.{needs_bare, needs_front, needs_labelled}
use Rattle.image_base.proofs.length.base_length.Goals as goal
use Rattle.image_base.proofs.length.base_length.Goals.{then-front-eq-LABEL, else-front-eq-LABEL}

pub returns-then-front-lt-FRONT : goal.returns-then-front-lt-FRONT
returns-then-front-lt-FRONT c = needs_front c.args.front.now (search rules)

pub returns : goal.returns
returns c =
    let front = c.args.front.now in
    let n = c.saturating_add.result in
    let m = c.events_length.result in
    let within : 25 ≤ length front = search rules in
    let short : length front < 2 ^ 64 - 1 = search rules in
    let needs_there : NeedsEvents 17 m (drop c.if-front-eq-LABEL.at front) =
    subst (λ (l : List ℕ). NeedsEvents 17 m l) (take_rest front c.if-front-eq-LABEL.at) c.events_length.ensures in
    elim c.if-front-eq-LABEL.branch [
      | then-front-eq-LABEL w ↦
          let two : get_or front 8 0 ≡ 2 = search rules in
          let needs : NeedsEvents 17 m (drop 25 front) = subst (λ (k : ℕ). NeedsEvents 17 m (drop k front)) w.at-is needs_there in
          needs_labelled front 0 m n within short two needs (search rules)
      | else-front-eq-LABEL w ↦
          let other : get_or front 8 0 ≢ 2 = search rules in
          let needs : NeedsEvents 17 m (drop 8 front) = subst (λ (k : ℕ). NeedsEvents 17 m (drop k front)) w.at-is needs_there in
          needs_bare front 0 m n within short other needs (search rules)
    ]
