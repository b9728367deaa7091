use Rattle.std.proofs.Common.{◌≡◌, ◌∙◌, length, ℕ, Ok, Result, refl, subst, sym}
use Rattle.std.specs.Prelude.{IsOk}
use Rattle.ebpf_inline.proofs.Counts.{each_counted}
use Rattle.ebpf_inline.specs.Sizes.{callee_slots, slots_at}
use Rattle.ebpf_inline.specs.Units.{slots_of}
use Rattle.ebpf_inline.specs.declared.unit_fault.UnitFault.{UnitFault}
use Rattle.ebpf_inline.proofs.body.counted_slots.Goals as goal

pub unwrap-requires : goal.unwrap-requires
unwrap-requires c =
    let unit = c.args.unit.now in
    let frame = c.args.frame in
    let of = slots_at (callee_slots unit c.args.room frame) unit frame.function in
    let each = each_counted of (length (slots_of unit frame.function)) c.requires.counted.slots c.args.slot c.requires.counted.counted c.requires.there in
    let is : c.slots_at.result ≡ Ok each.1 = c.slots_at.ensures.value ∙ each.3 in
    subst (λ (r : Result ℕ UnitFault). IsOk r) (sym is) refl
