use Rattle.std.proofs.Common.{rules, ◌≡◌, ◌∷◌, ℕ, true, List, [], ap, sym, ◌∙◌}
use Rattle.durable_device.specs.Kept.{StandsFor}
use Rattle.durable_machine.specs.Seals.{events_of}
use Rattle.stored_file.specs.Calls.{NotReplaced, Replaced}
use Rattle.handed_file.specs.Handed.{waiting}
use Rattle.handed_file.specs.declared.handed_file.FileCall.{FileCall}
use Rattle.tcp_device.specs.FileCalls.{next_bytes}
use Rattle.tcp_device.specs.Kept.{file_of}
use Rattle.tcp_device.proofs.Covering.{folds, from_same, will_be_kept}
use Rattle.tcp_device.proofs.keeping.fold.Goals as goal

pub returns-clause-kept : goal.returns-clause-kept
returns-clause-kept c =
    let none : events_of c.args.keeper.now.events.waiting ≡ [] = search rules in
    will_be_kept c.fold.new.self c.args.served.now.device (c.fold.ensures.same ∙ none) c.in_ok-fold.ensures.settled c.in_ok-check-2.ensures.none

pub returns-clause-folds : goal.returns-clause-folds
returns-clause-folds c =
    let old = c.args.keeper.now in
    let new = c.fold.new.self in
    let device = c.args.served.now.device in
    let made = c.grant.ensures.made ∙ c.take_wanted.ensures.made in
    let only = from_same (file_of old) c.grant.new.self (file_of new) (λ f. StandsFor f device) (c.grant.ensures.noted ∙ c.take_wanted.ensures.same) made c.fold.ensures.any_moment in
    folds c.waiting_calls_are_covered.ensures old new device c.in_ok-fold.ensures.settled only.made c.in_ok-check.ensures.order c.in_ok-check-2.ensures.order only

pub returns-clause-put : goal.returns-clause-put
returns-clause-put c rest first put =
    let bytes : c.deref.result.now ≡ next_bytes (waiting (file_of c.args.keeper.now)) =
    c.deref.ensures.value ∙ sym (ap (λ (calls : List FileCall). next_bytes calls) c.in-Some.ensures.wanted) in
    ([], c.is_replaced_by.ensures put ∙ ap (λ (b : List ℕ). NotReplaced ∷ Replaced b true ∷ []) bytes)
