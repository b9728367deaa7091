use Rattle.std.proofs.Common.{ℕ, ◌+◌, ◌≤◌, length, ap, sym, subst, ◌∙◌, arith}
use Rattle.std.specs.Prelude.{◌==◌}
use Rattle.std.proofs.lemmas.Result.{err_from_is_err_and}
use Rattle.zone_resources.specs.Holds.{is_destination}
use Rattle.zone_resources.specs.declared.holds.Holds.{Holds}
use Rattle.image_store.specs.Namespace.{zone_at}
use Rattle.emit_append.specs.Need.{need}
use Rattle.runner.proofs.Admissions.{destination_decides, granted_there}
use Rattle.runner.proofs.admission.admit.Goals as goal

pub returns-in_err-check_destination-clause-why : goal.returns-in_err-check_destination-clause-why
returns-in_err-check_destination-clause-why g c =
    let ns = c.namespace-namespace.ensures in
    let decides = destination_decides c.args.state.now c.args.command.now c.args.input.now c.in-Some.sizes c.in_ok-source.source c.in_ok-source.destination
    c.in-Some-free_place.run' c.blocks_needed-blocks.result c.holds.result (sym (ap (λ (n : ℕ). n == 0) c.in_ok-check_transfer.ensures.whole)) c.in-Some.ensures
    (rw ns at c.in_ok-source.ensures.zones) (rw ns at c.in_ok-source.ensures.why) c.in-Some-free_place.ensures.lowest
    (rw ns at c.in_ok-check_source.ensures.why) c.holds.ensures
    (c.blocks_needed-blocks.ensures ∙ ap (λ (n : ℕ). need n c.in-Some.sizes) c.get.ensures.value) in
    let p = err_from_is_err_and c.from_residual-in_err-check_destination.result c.from_residual-in_err-check_destination.ensures.1 in
    rw (p.1, p.2) (rw ns at c.in_err-check_destination.ensures.why ∙ decides)

pub returns-clause-why : goal.returns-clause-why
returns-clause-why g c =
    let ns = c.namespace-namespace.ensures in
    let decides = destination_decides c.args.state.now c.args.command.now c.args.input.now c.in-Some.sizes c.in_ok-source.source c.in_ok-source.destination
    c.in-Some-free_place.run' c.blocks_needed-blocks.result c.holds.result (sym (ap (λ (n : ℕ). n == 0) c.in_ok-check_transfer.ensures.whole)) c.in-Some.ensures
    (rw ns at c.in_ok-source.ensures.zones) (rw ns at c.in_ok-source.ensures.why) c.in-Some-free_place.ensures.lowest
    (rw ns at c.in_ok-check_source.ensures.why) c.holds.ensures
    (c.blocks_needed-blocks.ensures ∙ ap (λ (n : ℕ). need n c.in-Some.sizes) c.get.ensures.value) in
    rw ns at c.in_ok-check_destination.ensures.why ∙ decides

pub returns-clause-admission : goal.returns-clause-admission
returns-clause-admission g c =
    let ns = c.namespace-namespace.ensures in
    let granted = granted_there c.args.state.now.namespace _ c.in-Some.sizes c.in-Some.ensures in
    record {
      free = sym c.in-Some-free_place.ensures.lowest;
      loaded = granted.0;
      some = omega arith;
      most = omega arith;
      zones = rw ns at c.in_ok-source.ensures.zones;
      written = rw ns at c.in_ok-check_source.ensures.written;
      small = c.in_ok-check_source.ensures.small;
      alone = ap (λ (h : Holds). is_destination h c.in_ok-source.destination) (sym c.holds.ensures) ∙ c.in_ok-check_destination.ensures.alone;
      room = rw ns at (subst (λ (n : ℕ). length (zone_at c.namespace-namespace.result.now c.in_ok-source.destination).blocks + n ≤ c.namespace-namespace.result.now.capacity)
          (c.blocks_needed-blocks.ensures ∙ ap (λ (n : ℕ). need n c.in-Some.sizes) c.get.ensures.value ∙ ap (need c.args.command.now.blocks) granted.1) c.in_ok-check_destination.ensures.room);
    }
