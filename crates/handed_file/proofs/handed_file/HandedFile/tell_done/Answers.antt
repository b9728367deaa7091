use Rattle.std.proofs.Common.{◌≡◌, suc, length, ap, arith}
use Rattle.handed_file.proofs.handed_file.HandedFile.tell_done.Goals as goal

pub returns-in-None-clause-told : goal.returns-in-None-clause-told
returns-in-None-clause-told c = λ call rest is.
    let size : length c.args.self.now.calls.items ≡ suc (length rest) = ap length is in
    let len : c.args.self.now.calls.len ≡ length c.args.self.now.calls.items = c.args.self.now.calls.ok.0 in
    let none : c.args.self.now.calls.len ≡ 0 = c.in-None.ensures.cases.0 in
    absurd (omega (arith, size, len, none))
