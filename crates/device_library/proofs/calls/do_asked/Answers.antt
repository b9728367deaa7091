use Rattle.std.proofs.Common.{arith}
use Rattle.device_library.specs.Asked.{Asked, told_by}
use Rattle.device_library.proofs.Calling.{calls_begin, calls_some}
use Rattle.device_library.proofs.calls.do_asked.Goals as goal

pub returns-in-Some : goal.returns-in-Some
returns-in-Some c =
    let asked : Asked = told_by c.args.asked.now in
    record {
      calls = calls_some c.args.kind asked c.args.handle.now c.in-Some.session c.answer.new.session c.args.reply.now c.answer.new.reply
          c.args.out.now c.answer.new.out c.answer.result (omega (arith, c.if-kind-eq-OPENED.false))
          (λ is. absurd (omega (arith, c.if-kind-eq-BEGIN.false, is))) c.in-Some.is c.answer.ensures.answered;
      kept = c.answer.ensures.kept;
    }

pub returns-then-kind-eq-BEGIN : goal.returns-then-kind-eq-BEGIN
returns-then-kind-eq-BEGIN c =
    let asked : Asked = told_by c.args.asked.now in
    record {
      calls = calls_begin c.args.kind asked c.args.handle.now c.begin.new.handle c.args.reply.now c.args.out.now c.begin.result
          (omega (arith, c.if-kind-eq-BEGIN.true)) (c.begin.ensures.begins c.args.reply.now c.args.out.now);
      kept = c.begin.ensures.kept;
    }
