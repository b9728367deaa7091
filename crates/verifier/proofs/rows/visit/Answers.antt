use Rattle.std.proofs.Common.{◌≡◌, ap, arith, Option, None, option_copied, rules, Some, sym, ◌∙◌}
use Rattle.std.proofs.lemmas.List.{get_or_default, get_or-set_other, length-set}
use Rattle.instruction_set.specs.Program.{instruction_at}
use Rattle.verifier.specs.steps.Rows.{held, held_at}
use Rattle.accepted_programs.specs.Accepted.{reason_of}
use Rattle.accepted_programs.specs.declared.facts.Facts.{Facts}
use Rattle.accepted_programs.specs.declared.reason.Reason.{Reason}
use Rattle.verifier.proofs.Checks.{can_be_counted, stays_inside}
use Rattle.verifier.proofs.Sizes.{facts_fit}
use Rattle.verifier.proofs.rows.visit.Goals as goal

pub push-requires : goal.push-requires
push-requires g c =
    let ops = g.D.Domain.operations in
    let known_reason : Facts g.row.D.Denot → Option Reason =
    λ facts. reason_of ops c.args.program.now c.args.sizes c.args.slot facts c.in-Some.instruction.now in
    let none : reason_of ops c.args.program.now c.args.sizes c.args.slot c.in-Some-take.facts.value c.in-Some.instruction.now ≡ None =
    ap known_reason (sym c.deref.ensures) ∙ sym c.find_reason.ensures ∙ c.in_default-find_reason.is in (
      facts_fit _ _ c.fact_fits.ensures.size c.fact_fits.ensures.align,
      (
        search rules,
        (
          simp (length-set, c.requires.long) (stays_inside ops c.args.program.now c.args.sizes c.args.slot c.in-Some-take.facts.value c.in-Some.instruction.now none),
          can_be_counted ops c.args.program.now c.args.sizes c.args.slot c.in-Some-take.facts.value c.in-Some.instruction.now none
              (rw c.limit-limit.ensures.value at c.limit-limit.ensures.most),
        ),
      ),
    )

pub returns-clause-given : goal.returns-clause-given
returns-clause-given g c = λ s behind within.
    let at : instruction_at c.args.program.now c.args.slot ≡ Some c.in-Some.instruction.now =
    sym c.at.ensures.value ∙ ap option_copied c.in-Some.is in
    let known : held_at c.args.rows.now c.args.slot ≡ Some c.in-Some-take.facts.value =
    ap held (get_or_default c.args.rows.now c.args.slot None _ (omega (arith, c.requires.long, c.requires.within)) ∙ sym c.take.ensures.value ∙ c.in-Some-take.is) in
    let other = ap held (get_or-set_other c.args.rows.now c.args.slot s c.take.new.self None (λ e. absurd (omega (arith, e, behind)))) in
    rw (at, known, sym other) (rw c.block.ensures at (c.in_ok-push.ensures.given s (simp length-set within)))
