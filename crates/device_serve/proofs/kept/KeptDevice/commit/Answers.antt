use Rattle.device_serve.proofs.kept.KeptDevice.commit.Goals as goal

pub commit-requires : goal.commit-requires
commit-requires g c = record { kept = (c.args.self.now.device.value, c.requires.kept) }

pub returns-clause-committed : goal.returns-clause-committed
returns-clause-committed g c = c.commit.ensures.committed c.args.self.now.device.value c.requires.kept

pub returns-clause-any_moment : goal.returns-clause-any_moment
returns-clause-any_moment g c before kept = c.commit.ensures.any_moment before c.args.self.now.device.value kept c.requires.kept
