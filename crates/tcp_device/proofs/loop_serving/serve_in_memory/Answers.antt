use Rattle.std.proofs.Common.{◌≡◌, ap, arith, length}
use Rattle.tcp_device.specs.LoopMeaning.{in_memory}
use Rattle.tcp_device.specs.Orderly.{free_of}
use Rattle.tcp_device.proofs.Beginning.{ends_from, holds_from, memory_explained, never_from, none_in_memory}
use Rattle.tcp_device.proofs.loop_serving.serve_in_memory.Goals as goal

pub returns-clause-made : goal.returns-clause-made
returns-clause-made g c =
    let none : length (g.W.World.trace c.args.world.now) ≡ 0 = ap length c.requires.nothing in
    let more = c.run.ensures.made in
    omega (arith, none, more)

pub returns-clause-explained : goal.returns-clause-explained
returns-clause-explained g c =
    let holds = c.in_ok-serving.ensures.holds in (
      holds.0,
      memory_explained c.devices_are_explained.ensures.in_memory c.args.served c.requires.begins _ _
          (c.is_explained.ensures _ c.args.served _
          (c.run.ensures.holds _ c.args.served
          (holds_from in_memory (g.W.World.trace c.args.world.now) _ holds.0 c.args.served _ _ _ c.requires.nothing holds.1))),
    )

pub returns-clause-fair : goal.returns-clause-fair
returns-clause-fair g c =
    let o = c.targets_are_orderly.ensures in
    (c.run.ensures.fair o.of_memory
    (never_from in_memory (g.W.World.trace c.args.world.now) _ free_of o.of_memory _ _ _ c.requires.nothing
    (c.in_ok-serving.ensures.fair o.of_memory (none_in_memory o c.args.served c.requires.begins)))).never

pub returns-clause-rounds : goal.returns-clause-rounds
returns-clause-rounds g c =
    (c.run.ensures.ends (ends_from (g.W.World.trace c.args.world.now) _ c.requires.nothing c.in_ok-serving.ensures.ends)).never_more
