use Rattle.std.proofs.Common.{arith, sym, ap, subst, ◌∙◌, ◌≡◌, ◌<◌, ◌++◌, ◌∷◌, [], ℕ, length, None, Some}
use Rattle.std.proofs.lemmas.List.{get_or_default}
use Rattle.instruction_set.specs.Program.{instruction_at}
use Rattle.accepted_programs.specs.Accepted.{refusal_at, refusal_below}
use Rattle.accepted_programs.specs.Facts.{facts_at}
use Rattle.accepted_programs.specs.Emitted.{group_in, most_below}
use Rattle.accepted_programs.specs.Places.{place_at, place_known}
use Rattle.verifier.specs.steps.Rows.{held, held_at, refusal_in}
use Rattle.verifier.proofs.Emitted.{most_more}
use Rattle.accepted_programs.proofs.Proved.{refusal_is_at_its_slot}
use Rattle.verifier.proofs.Refusals.{first_found, none_more, rows_more}
use Rattle.verifier.proofs.SlotLists.{one_more}
use Rattle.verifier.proofs.SlotPlaces.{all_places}
use Rattle.verifier.proofs.judging.judge_over.Goals as goal

pub returns-in-Some : goal.returns-in-Some
returns-in-Some g c =
    let ops = g.D.Domain.operations in
    let program = c.args.program.now in
    let sizes = c.args.sizes in
    let slot = c.loop-slot.slot in
    let refusal = c.in-Some.refused.refusal in
    let inside : slot < length c.loop-slot.rows = omega (arith, c.loop-slot.invariant.long, c.slots-slot-end.ensures.value, c.loop-slot-test.true) in
    let facts = c.loop-slot.invariant.rows slot (omega arith) inside in
    let here : Some c.in-Some.refused.facts.value ≡ held_at c.loop-slot.rows slot = rw c.in-Some.is at c.in_ok-refused.ensures.facts in
    let known : facts_at ops sizes.block program slot ≡ Some c.in-Some.refused.facts.value = sym facts ∙ sym here in
    let found = sym (ap (refusal_at ops program sizes slot (instruction_at program slot)) facts) ∙ sym c.in_ok-refused.ensures.found
    ∙ ap refusal_in c.in-Some.is in
    let at = refusal_is_at_its_slot ops program sizes slot (instruction_at program slot) (facts_at ops sizes.block program slot) refusal found in
    let P : ℕ → Type 0 = λ k. facts_at ops sizes.block program k ≡ Some c.in-Some.refused.facts.value in (
      first_found ops program sizes (length program) slot refusal
          (omega (arith, c.slots-slot-end.ensures.value, c.loop-slot-test.true)) c.loop-slot.invariant.none found,
      subst P (sym at) known,
    )

pub loop-slot-preserved : goal.loop-slot-preserved
loop-slot-preserved g c =
    let ops = g.D.Domain.operations in
    let program = c.args.program.now in
    let slot = c.loop-slot.slot in
    let rows = c.loop-slot.invariant.rows in
    let inside : slot < length c.loop-slot.rows = omega (arith, c.loop-slot.invariant.long, c.slots-slot-end.ensures.value, c.loop-slot-test.true) in
    let facts = rows slot (omega arith) inside in
    let here = ap held (get_or_default c.loop-slot.rows slot c.index-rows-slot.result None inside) ∙ facts in
    let known = ap held (get_or_default c.loop-slot.rows slot c.index-rows-slot-in-loop-slot.result None inside) ∙ facts in
    let place = rw c.block.ensures at c.place_in.ensures in
    let pushed : c.push.new.self.items ≡ c.loop-slot.places.items ++ (c.place_in.result ∷ []) = c.in_ok-push.ensures.items in
    record {
      long = c.visit.ensures.len ∙ c.loop-slot.invariant.long;
      rows = λ s behind within. rows_more ops program c.args.sizes slot c.loop-slot.rows c.visit.new.rows inside rows
          (rw c.in_default.is at c.in_ok-refused.ensures.given) s behind (omega (arith, c.visit.ensures.len, within));
      none = none_more ops program c.args.sizes slot c.loop-slot.invariant.none
          (sym (ap (refusal_at ops program c.args.sizes slot (instruction_at program slot)) facts) ∙ sym c.in_ok-refused.ensures.found
          ∙ ap refusal_in c.in_default.is);
      placed = omega (arith, c.in_ok-push.ensures.len, c.loop-slot.invariant.placed);
      places = λ s within. rw pushed
          (one_more (place_at ops c.args.sizes.block program) slot c.loop-slot.places.items c.place_in.result c.loop-slot.invariant.placed
          c.loop-slot.invariant.places (place ∙ ap (place_known ops c.args.sizes.block (instruction_at program slot)) known) s within);
      most = c.max-most_emitted.ensures ∙ most_more ops program c.args.sizes.block slot c.group.result c.loop-slot.most_emitted
          (c.group.ensures ∙ ap group_in here) c.loop-slot.invariant.most;
    }

pub returns : goal.returns
returns g c =
    let ops = g.D.Domain.operations in
    let program = c.args.program.now in
    let all : c.loop-slot.slot ≡ length program =
    omega (arith, c.loop-slot.auto.slot-end, c.loop-slot-test.false, c.slots-slot-end.ensures.value) in
    let found = c.loop-slot.invariant in (
      subst (λ k. refusal_below ops program c.args.sizes k ≡ None) all found.none,
      subst (λ k. c.loop-slot.most_emitted ≡ most_below ops program c.args.sizes.block k) all found.most,
      all_places ops c.args.sizes.block program c.loop-slot.places.items (found.placed ∙ all)
          (λ s inside. found.places s (omega (arith, inside, all))),
    )
