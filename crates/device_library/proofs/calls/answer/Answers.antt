use Rattle.std.proofs.Common.{refl, subst, sym}
use Rattle.device_library.specs.Asked.{Asked, told_by}
use Rattle.device_library.specs.Calls.{AnswersAs, Lent}
use Rattle.device_library.specs.declared.handle.Session.{Session}
use Rattle.device_library.specs.declared.handle.Session.TheVariants as session
use Rattle.device_library.proofs.calls.answer.Goals as goal

pub returns-in-Memory-clause-answered : goal.returns-in-Memory-clause-answered
returns-in-Memory-clause-answered c =
    let asked : Asked = told_by c.args.asked.now in
    let old : Lent = record { session = c.args.session.now; reply = c.args.reply.now; out = c.args.out.now } in
    let new : Lent = record { session = session.Memory c.answer_to.new.device; reply = c.answer_to.new.reply; out = c.answer_to.new.out } in
    subst (λ (s : Session). AnswersAs s c.args.kind asked old new c.answer_to.result) (sym c.in-Memory.is)
    (record { left = c.answer_to.new.device; session_is = refl; answers = c.answer_to.ensures })

pub returns-in-Kept-clause-answered : goal.returns-in-Kept-clause-answered
returns-in-Kept-clause-answered c =
    let answered = c.answer_to-in-Kept in
    let asked : Asked = told_by c.args.asked.now in
    let old : Lent = record { session = c.args.session.now; reply = c.args.reply.now; out = c.args.out.now } in
    let new : Lent = record { session = session.Kept answered.new.session; reply = c.args.reply.now; out = answered.new.out } in
    subst (λ (s : Session). AnswersAs s c.args.kind asked old new answered.result) (sym c.in-Kept.is)
    (record { left = answered.new.session; session_is = refl; reply = refl; answers = answered.ensures.answered })

pub returns-in-Target-clause-answered : goal.returns-in-Target-clause-answered
returns-in-Target-clause-answered c =
    let answered = c.answer_to-in-Target in
    let asked : Asked = told_by c.args.asked.now in
    let old : Lent = record { session = c.args.session.now; reply = c.args.reply.now; out = c.args.out.now } in
    let new : Lent = record { session = session.Target answered.new.session; reply = c.args.reply.now; out = answered.new.out } in
    subst (λ (s : Session). AnswersAs s c.args.kind asked old new answered.result) (sym c.in-Target.is)
    (record { left = answered.new.session; session_is = refl; reply = refl; answers = answered.ensures.answered })

pub returns-in-Loop-clause-answered : goal.returns-in-Loop-clause-answered
returns-in-Loop-clause-answered c =
    let answered = c.answer_to-in-Loop in
    let asked : Asked = told_by c.args.asked.now in
    let old : Lent = record { session = c.args.session.now; reply = c.args.reply.now; out = c.args.out.now } in
    let new : Lent = record { session = session.Loop answered.new.serving; reply = answered.new.reply; out = answered.new.out } in
    subst (λ (s : Session). AnswersAs s c.args.kind asked old new answered.result) (sym c.in-Loop.is)
    (record { left = answered.new.serving; session_is = refl; answers = answered.ensures.answered })
