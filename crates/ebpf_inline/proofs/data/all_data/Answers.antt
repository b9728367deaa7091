use Rattle.std.proofs.Common.{◌≡◌, ◌≤◌, ◌+◌, ◌++◌, ℕ, Vec, Global, List, drop, length, map, nat_le, false, ap, arith, rules, subst, sym}
use Rattle.std.proofs.lemmas.Grind.{common_steps}
use Rattle.std.proofs.lemmas.List.{length-append}
use Rattle.ebpf_inline.proofs.Sections.{padded_is, section_more, too_much}
use Rattle.ebpf_inline.specs.Data.{all_data, padded_length, padded_section}
use Rattle.program_interface.specs.declared.area.TheConstants.{STACK_BYTES}
use Rattle.ebpf_inline.proofs.data.all_data.Goals as goal

pub returns-then-not-fits-clause-exact : goal.returns-then-not-fits-clause-exact
returns-then-not-fits-clause-exact c =
    let f : Vec ℕ Global → List ℕ = λ section. section.items in
    let full : nat_le (length c.loop-section.data.items + padded_length (length c.section-item.result.items)) STACK_BYTES ≡ false
    = grind (arith, common_steps) in
    too_much f c.loop-section.data.items c.args.sections.now c.loop-section.section-index c.section-item.result c.section-item.is
    c.loop-section-test.true c.loop-section.invariant.so_far full

pub loop-section-preserved : goal.loop-section-preserved
loop-section-preserved c =
    let f : Vec ℕ Global → List ℕ = λ section. section.items in
    let front = c.loop-section.data.items in
    let section = c.section-item.result.items in
    let items : c.push_section.new.into.items ≡ front ++ padded_section section = search rules in
    let room : length front + padded_length (length section) ≤ STACK_BYTES = grind (arith, common_steps) in
    let total : length c.push_section.new.into.items ≡ length (front ++ padded_section section) = ap (length {A = ℕ}) items in
    let behind = drop (c.loop-section.section-index + 1) (map f c.args.sections.now) in
    record {
      so_far = subst (λ (xs : List ℕ). xs ++ all_data behind ≡ all_data (map f c.args.sections.now)) (sym items)
          (section_more f front c.args.sections.now c.loop-section.section-index c.section-item.result c.section-item.is
          c.loop-section-test.true c.loop-section.invariant.so_far);
      few = omega (arith, total, length-append front (padded_section section), padded_is section, room);
    }
