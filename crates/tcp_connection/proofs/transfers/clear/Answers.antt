use Rattle.std.proofs.Common.{◌≡◌, ℕ, [], ◌∷◌, ◌++◌, Option, None, replicate, arith, sym, ap, ◌∙◌}
use Rattle.std.proofs.lemmas.List.{length-set, replicate_more, take_all, take_more_set}
use Rattle.tcp_connection.specs.Transfers.{Transfer}
use Rattle.tcp_connection.proofs.transfers.clear.Goals as goal

pub loop-tag-preserved : goal.loop-tag-preserved
loop-tag-preserved c =
    let l = c.loop-tag in
    let place = c.clear.new.self in
    record {
      cleared = take_more_set l.places l.tag place (omega arith) ∙ ap (λ v. v ++ place ∷ []) l.invariant.cleared
          ∙ ap (λ p. replicate l.tag None ++ p ∷ []) c.clear.ensures ∙ replicate_more l.tag None;
      all = length-set l.places l.tag place ∙ l.invariant.all;
    }

pub returns : goal.returns
returns c =
    let l = c.loop-tag in
    let all : l.tag ≡ 4 = omega arith in
    sym (take_all l.tag l.places (omega (arith, l.invariant.all))) ∙ l.invariant.cleared
    ∙ ap (λ (n : ℕ). replicate {A = Option Transfer} n None) all
