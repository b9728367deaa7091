use Rattle.std.proofs.Common.{◌≡◌, ◌∙◌, length, Option, Some, None, refl, sym, arith}
use Rattle.ebpf_decode.specs.declared.fault.FaultKind.{FaultKind}
use Rattle.ebpf_decode.specs.Reading.{length_fault}
use Rattle.ebpf_decode.proofs.Programs.{program-read}
use Rattle.ebpf_decode.proofs.decoding.decode.Goals as goal

none_left : (fault : Option FaultKind) → ((kind : FaultKind) → fault ≡ Some kind → ⊥) → fault ≡ None
none_left None h = refl
none_left (Some kind) h = absurd (h kind refl)

pub from_slots-requires : goal.from_slots-requires
from_slots-requires c =
    let length_is : length_fault (length c.args.bytes.now) ≡ None = sym c.length_fault.ensures ∙ none_left _ c.in_default.not-Some in
    (program-read c.args.bytes.now c.in_ok-slots.slots.items (λ i. omega (arith, c.type_inv.bytes i)) length_is c.in_ok-slots.ensures).0
