use Rattle.std.proofs.Common.{arith, ◌≡◌, ◌≤◌, ◌/◌, ◌^◌}
use Rattle.std.proofs.lemmas.Bool.Decides.{nat_tests}
use Rattle.ebpf_link.proofs.Masks.{cut}
use Rattle.ebpf_link.proofs.idle.is_mask_over.Goals as goal

pub returns-then-from-mask : goal.returns-then-from-mask
returns-then-from-mask c = λ over.
    let below : c.args.most ≤ c.args.mask = grind (arith, nat_tests) in
    let is : c.args.mask ≡ 0xfffff / 2 ^ c.loop-cut.cut = cc in
    rw is (cut c.args.most c.loop-cut.cut (omega arith) (omega arith))
