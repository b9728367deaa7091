use Rattle.zone_resources.proofs.CountLemmas.{open_counted}
use Rattle.zone_resources.proofs.counts.Counts.moved.Goals as goal

pub recount-self-requires-clause-counted : goal.recount-self-requires-clause-counted
recount-self-requires-clause-counted c = rw c.is_open.ensures (open_counted c.args.self.now c.args.from c.requires)
