use Rattle.std.proofs.Common.{arith, ◌≡◌, ◌/◌, ◌^◌}
use Rattle.std.proofs.lemmas.Bool.Decides.{nat_tests}
use Rattle.std.specs.Prelude.{bit_and}
use Rattle.ebpf_link.proofs.FreeWords.{free, none_of}
use Rattle.ebpf_link.proofs.marks.is_free.Goals as goal

pub returns-clause-free : goal.returns-clause-free
returns-clause-free c = λ is.
    let none : bit_and (c.args.stored / 2 ^ c.args.word) 3 ≡ 0 = grind (arith, nat_tests) in
    let both = free c.args.stored c.args.word none in
    (omega arith, both.0, both.1)

pub returns-clause-taken : goal.returns-clause-taken
returns-clause-taken c = λ is free.
    let none = none_of c.args.stored c.args.word free.1 free.2 in
    grind (arith, nat_tests, none)
