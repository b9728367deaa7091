use Rattle.emit_append.proofs.Puts.{putting_is_packing}
use Rattle.emit_append.proofs.laws.putting_is_packing.Goals as goal

pub returns : goal.returns
returns c = putting_is_packing
