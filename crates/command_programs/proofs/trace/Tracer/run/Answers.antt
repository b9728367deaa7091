use Rattle.std.proofs.Common.{◌≡◌, OnOk, false, length, subst}
use Rattle.std.specs.Io.KnownBytes.{Appends}
use Rattle.program_meaning.specs.State.{State}
use Rattle.command_programs.specs.Traced.{trace_lines}
use Rattle.command_programs.proofs.trace.Tracer.run.Goals as goal

pub returns : goal.returns
returns g c =
    let contents = g.O.Write.contents in
    subst (λ (s : State). OnOk c.follow.result (c.args.self.now.registers ≡ false → Appends (contents c.args.out.now) (contents c.follow.new.out)
    (trace_lines c.args.self.now.program.now (length c.args.group.now) c.args.fuel s)))
    (c.new-machine.ensures.state c.args.group.now) c.follow.ensures
