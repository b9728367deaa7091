use Rattle.std.proofs.Common.{arith, sym, ap, subst, ◌∙◌, ◌≡◌, ◌<◌, ◌++◌, ◌∷◌, [], length, None, suc}
use Rattle.std.proofs.lemmas.List.{get_or_default}
use Rattle.instruction_set.specs.Program.{instruction_at}
use Rattle.accepted_programs.specs.Accepted.{refusal_at, refusal_below}
use Rattle.accepted_programs.specs.Facts.{facts_at}
use Rattle.accepted_programs.proofs.Proved.{refusal_is_at_its_slot}
use Rattle.verifier.specs.Known.{looked_at}
use Rattle.verifier.specs.steps.Rows.{held, refusal_in}
use Rattle.verifier.proofs.Refusals.{first_found, none_more, rows_more}
use Rattle.verifier.proofs.SlotLists.{one_more}
use Rattle.verifier.proofs.known.known_over.Goals as goal

pub returns-in-Some : goal.returns-in-Some
returns-in-Some g c =
    let ops = g.D.Domain.operations in
    let program = c.args.program.now in
    let sizes = c.args.sizes in
    let slot = c.loop-slot.slot in
    let refusal = c.in-Some._refused.refusal in
    let before : slot < length program = omega (arith, c.slots-slot-end.ensures.value, c.loop-slot-test.true) in
    let inside : slot < length c.loop-slot.rows = omega (arith, c.loop-slot.invariant.long, before) in
    let facts = c.loop-slot.invariant.rows slot (omega arith) inside in
    let here = c.facts_in.ensures ∙ ap held (get_or_default c.loop-slot.rows slot c.index-rows-slot.result None inside) ∙ facts in
    let found = sym (ap (refusal_at ops program sizes slot (instruction_at program slot)) facts) ∙ sym c.in_ok-_refused.ensures.found
    ∙ ap refusal_in c.in-Some.is in
    let at = refusal_is_at_its_slot ops program sizes slot (instruction_at program slot) (facts_at ops sizes.block program slot) refusal found in
    let first = first_found ops program sizes (length program) slot refusal before c.loop-slot.invariant.none found in
    let count : length c.push.new.self.items ≡ suc refusal.slot = omega (arith, c.in_ok-push.ensures.len, c.loop-slot.invariant.told, at) in
    let pushed : c.push.new.self.items ≡ c.loop-slot.known.items ++ (c.facts_in.result ∷ []) = c.in_ok-push.ensures.items in
    record {
      count = count ∙ sym (ap (looked_at (length program)) first);
      facts = λ s within. rw pushed
          (one_more (facts_at ops sizes.block program) slot c.loop-slot.known.items c.facts_in.result c.loop-slot.invariant.told
          c.loop-slot.invariant.known here s (omega (arith, within, c.in_ok-push.ensures.len, c.loop-slot.invariant.told)));
    }

pub loop-slot-preserved : goal.loop-slot-preserved
loop-slot-preserved g c =
    let ops = g.D.Domain.operations in
    let program = c.args.program.now in
    let sizes = c.args.sizes in
    let slot = c.loop-slot.slot in
    let rows = c.loop-slot.invariant.rows in
    let inside : slot < length c.loop-slot.rows = omega (arith, c.loop-slot.invariant.long, c.slots-slot-end.ensures.value, c.loop-slot-test.true) in
    let facts = rows slot (omega arith) inside in
    let here = c.facts_in.ensures ∙ ap held (get_or_default c.loop-slot.rows slot c.index-rows-slot.result None inside) ∙ facts in
    let pushed : c.push.new.self.items ≡ c.loop-slot.known.items ++ (c.facts_in.result ∷ []) = c.in_ok-push.ensures.items in
    record {
      long = c.visit.ensures.len ∙ c.loop-slot.invariant.long;
      rows = λ s behind within. rows_more ops program sizes slot c.loop-slot.rows c.visit.new.rows inside rows
          (rw c.in_default.is at c.in_ok-_refused.ensures.given) s behind (omega (arith, c.visit.ensures.len, within));
      none = none_more ops program sizes slot c.loop-slot.invariant.none
          (sym (ap (refusal_at ops program sizes slot (instruction_at program slot)) facts) ∙ sym c.in_ok-_refused.ensures.found
          ∙ ap refusal_in c.in_default.is);
      told = omega (arith, c.in_ok-push.ensures.len, c.loop-slot.invariant.told);
      known = λ s within. rw pushed
          (one_more (facts_at ops sizes.block program) slot c.loop-slot.known.items c.facts_in.result c.loop-slot.invariant.told
          c.loop-slot.invariant.known here s within);
    }

pub returns : goal.returns
returns g c =
    let ops = g.D.Domain.operations in
    let program = c.args.program.now in
    let all : c.loop-slot.slot ≡ length program =
    omega (arith, c.loop-slot.auto.slot-end, c.loop-slot-test.false, c.slots-slot-end.ensures.value) in
    let found = c.loop-slot.invariant in
    let none = subst (λ k. refusal_below ops program c.args.sizes k ≡ None) all found.none in
    record {
      count = found.told ∙ all ∙ sym (ap (looked_at (length program)) none);
      facts = λ s within. found.known s (omega (arith, within, found.told));
    }
