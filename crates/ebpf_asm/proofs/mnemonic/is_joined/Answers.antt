use Rattle.std.proofs.Common.{arith}
use Rattle.std.proofs.lemmas.Grind.{common_steps}
use Rattle.ebpf_asm.proofs.Words.{bytes_eq-append}
use Rattle.ebpf_asm.proofs.mnemonic.is_joined.Goals as goal

pub returns-in-Some : goal.returns-in-Some
returns-in-Some c =
    let h = c.in-Some.ensures in
    let e = bytes_eq-append c.args.word.now c.args.front.now c.args.back.now in
    grind (arith, common_steps, h, e)

pub returns-in-None : goal.returns-in-None
returns-in-None c =
    let h = c.in-None.ensures in
    let e = bytes_eq-append c.args.word.now c.args.front.now c.args.back.now in
    grind (arith, common_steps, h, e)
