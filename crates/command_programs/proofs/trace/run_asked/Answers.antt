use Rattle.std.proofs.Common.{◌≡◌, ℕ, List, OnOk, false, length, replicate, subst, rules}
use Rattle.std.specs.Io.KnownBytes.{Appends}
use Rattle.program_interface.specs.declared.area.TheConstants.{SCRATCH_BYTES}
use Rattle.program_meaning.specs.State.{State, at_start}
use Rattle.command_programs.specs.Traced.{first_and_only, trace_lines}
use Rattle.command_programs.proofs.trace.run_asked.Goals as goal

pub returns : goal.returns
returns g c =
    let contents = g.O.Write.contents in
    let room = length c.as_mut_slice.result.now in
    let limit : room ≡ c.args.sizes.limit = search rules in
    let Prints = λ (most : ℕ) (start : State). OnOk c.run.result (c.args.asked.registers ≡ false → Appends (contents c.args.out.now) (contents c.run.new.out)
    (trace_lines c.args.program.now most c.args.asked.fuel start)) in
    subst (λ (n : ℕ). Prints n (first_and_only c.args.block.now c.args.sizes.block c.args.asked.argument)) limit
    (subst (λ (size : ℕ). Prints room (first_and_only c.args.block.now size c.args.asked.argument)) c.block.ensures
    (subst (λ (context : List ℕ). Prints room (at_start c.args.block.now context (replicate SCRATCH_BYTES 0))) c.context_of-context.ensures c.run.ensures))
