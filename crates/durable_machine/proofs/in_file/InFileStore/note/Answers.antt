use Rattle.std.proofs.Common.{false, ◌≡◌, ◌<◌, ◌^◌, ◌++◌, [], ◌∷◌, List, ℕ, length, subst, sym, refl, ◌∙◌, ap}
use Rattle.durable_machine.specs.Events.{spelled}
use Rattle.durable_machine.specs.Seals.{events_of}
use Rattle.durable_machine.specs.Waiting.{IsCommittedBut}
use Rattle.durable_machine.proofs.Waiting.{one_more, taken_back}
use Rattle.durable_machine.proofs.in_file.InFileStore.note.Goals as goal

pub returns-clause-noted : goal.returns-clause-noted
returns-clause-noted g c machine event is kept =
    let next = g.M.Machine.next in
    let gate = c.args.self.now.journal.gate in
    let file = g.F.StoredFile.told c.args.self.now.journal.file in
    let waiting = events_of c.args.self.now.waiting in
    let added : events_of c.add.new.self ≡ waiting ++ spelled (event ∷ []) =
    c.in_ok-add.ensures.added ∙ ap (λ (e : List ℕ). waiting ++ spelled (e ∷ [])) (sym is) in
    let sized : length event < 2 ^ 64 = subst (λ (e : List ℕ). length e < 2 ^ 64) (sym is) c.in_ok-add.ensures.sized in
    subst (λ (w : List ℕ). IsCommittedBut g.M.Machine.loads next w (next machine false event) gate file) (sym added)
    (one_more g.M.Machine.loads next waiting event machine (next machine false event) gate file kept sized refl)

pub returns-clause-marked : goal.returns-clause-marked
returns-clause-marked g c =
    let waiting = events_of c.args.self.now.waiting in
    taken_back (events_of c.add.new.self) waiting (spelled ((c.args.first.now ++ c.args.second.now ++ c.args.third.now) ∷ [])) c.len-before.result c.in_ok-add.ensures.added c.len-before.ensures
