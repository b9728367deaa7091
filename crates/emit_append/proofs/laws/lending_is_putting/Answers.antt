use Rattle.emit_append.proofs.Puts.{lending_is_putting}
use Rattle.emit_append.proofs.laws.lending_is_putting.Goals as goal

pub returns : goal.returns
returns c = lending_is_putting
