use Rattle.tcp_pdus.proofs.Alignment.{data_begins_aligned}
use Rattle.tcp_pdus.proofs.laws.data_begins_aligned.Goals as goal

pub returns : goal.returns
returns c = data_begins_aligned
