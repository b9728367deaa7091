use Rattle.emit_append.proofs.Puts.{lending_is_finishing}
use Rattle.emit_append.proofs.laws.lending_is_finishing.Goals as goal

pub returns : goal.returns
returns c = lending_is_finishing
