use Rattle.durable_machine.proofs.in_memory.InMemoryStore.rests.Goals as goal

pub returns-clause-stands : goal.returns-clause-stands
returns-clause-stands g c machine d file settled left = absurd left
