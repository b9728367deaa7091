use Rattle.std.proofs.Common.{rules, ◌≡◌, ⊎_elim, inl, inr, length, vec_len, ◌∙◌, ap}
use Rattle.stored_file.proofs.Moments.{started, goes_on}
use Rattle.durable_machine.specs.Files.{IsOldOrStands, whole_sectors}
use Rattle.durable_machine.proofs.Folding.{based, folded, folded_state}
use Rattle.durable_machine.proofs.base.put_base.Goals as goal

pub returns-in_err-resize-clause-any_moment : goal.returns-in_err-resize-clause-any_moment
returns-in_err-resize-clause-any_moment g c = λ machine stands. started _ _ (λ file left. inl left)

pub returns-in_err-replace-clause-any_moment : goal.returns-in_err-replace-clause-any_moment
returns-in_err-replace-clause-any_moment g c = λ machine stands.
    let loads = g.M.Machine.loads in
    let next = g.M.Machine.next in
    let old = g.F.StoredFile.told c.args.file.now in
    let counted : vec_len c.args.base ≡ length c.args.base.items = search rules in
    let size : c.in_sectors-front.result ≡ whole_sectors (length c.args.base.items) = c.in_sectors-front.ensures ∙ ap whole_sectors (search rules) in
    goes_on old old _ (IsOldOrStands loads next old machine) (started old _ (λ file left. inl left)) c.replace.ensures.time
    (λ file now. ⊎_elim (λ before. inl before)
    (λ is. inr (folded_state loads next c.args.base.items c.deref.result.now machine stands c.in_sectors-front.result (vec_len c.args.base) size counted (c.deref.ensures.value ∙ c.in_ok-resize.ensures.items) file is))
    (c.replace.ensures.crash file now))

pub returns-clause-any_moment : goal.returns-clause-any_moment
returns-clause-any_moment g c = λ machine stands.
    let loads = g.M.Machine.loads in
    let next = g.M.Machine.next in
    let old = g.F.StoredFile.told c.args.file.now in
    let counted : vec_len c.args.base ≡ length c.args.base.items = search rules in
    let size : c.in_sectors-front.result ≡ whole_sectors (length c.args.base.items) = c.in_sectors-front.ensures ∙ ap whole_sectors (search rules) in
    goes_on old old _ (IsOldOrStands loads next old machine) (started old _ (λ file left. inl left)) c.replace.ensures.time
    (λ file now. ⊎_elim (λ before. inl before)
    (λ is. inr (folded_state loads next c.args.base.items c.deref.result.now machine stands c.in_sectors-front.result (vec_len c.args.base) size counted (c.deref.ensures.value ∙ c.in_ok-resize.ensures.items) file is))
    (c.replace.ensures.crash file now))

pub returns-clause-durable : goal.returns-clause-durable
returns-clause-durable g c = λ machine stands.
    let counted : vec_len c.args.base ≡ length c.args.base.items = search rules in
    let size : c.in_sectors-front.result ≡ whole_sectors (length c.args.base.items) = c.in_sectors-front.ensures ∙ ap whole_sectors (search rules) in
    folded g.M.Machine.loads g.M.Machine.next c.args.base.items c.deref.result.now machine stands c.in_sectors-front.result (vec_len c.args.base) size counted (c.deref.ensures.value ∙ c.in_ok-resize.ensures.items)
    (g.F.StoredFile.told c.replace.new.self) c.in_ok-replace.ensures.replaced c.in_ok-replace.ensures.durable

pub returns-clause-in_base : goal.returns-clause-in_base
returns-clause-in_base g c = λ machine stands.
    let counted : vec_len c.args.base ≡ length c.args.base.items = search rules in
    let size : c.in_sectors-front.result ≡ whole_sectors (length c.args.base.items) = c.in_sectors-front.ensures ∙ ap whole_sectors (search rules) in
    based g.M.Machine.loads g.M.Machine.next c.args.base.items c.deref.result.now machine stands c.in_sectors-front.result (vec_len c.args.base) size counted (c.deref.ensures.value ∙ c.in_ok-resize.ensures.items)
    (g.F.StoredFile.told c.replace.new.self) c.in_ok-replace.ensures.replaced c.in_ok-replace.ensures.durable
