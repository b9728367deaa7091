use Rattle.device_serve.proofs.FrameTurns.{gave_free}
use Rattle.device_serve.proofs.frames.turns.turn_unless.Goals as goal

pub returns-then-is_free-clause-gave : goal.returns-then-is_free-clause-gave
returns-then-is_free-clause-gave g c =
    gave_free c.args.run c.args.kept.now.device.value c.args.answer.now.items (c.requires.free c.if-is_free.true)
