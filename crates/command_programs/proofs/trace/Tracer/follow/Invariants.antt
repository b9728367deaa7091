use Rattle.std.proofs.Common.{◌≡◌, ◌≤◌, ◌-◌, ◌++◌, ℕ, List, false, length}
use Rattle.std.specs.Io.KnownBytes.{Appends}
use Rattle.program_meaning.specs.Step.{IsAt}
use Rattle.interp.specs.Machine.{machine_slot, machine_state, steps_of, group_length}
use Rattle.command_programs.specs.Traced.{lines_behind, trace_lines}
use Rattle.command_programs.proofs.trace.Tracer.follow.Given as goal

abbrev pub invariant-loop-step : goal.invariant-loop-step
invariant-loop-step g l =
    let whole = trace_lines l.self.program.now l.limit l.fuel (machine_state l.fn.machine l.fn.group) in
    let rest = lines_behind l.self.program.now l.limit (l.fuel - l._step) (steps_of l.machine) (machine_state l.machine l.group) in
    record {
      at : IsAt l.self.program.now (machine_slot l.machine);
      steps : steps_of l.machine ≤ l._step;
      used : group_length l.machine ≤ length l.group;
      printed : l.self.registers ≡ false →
          (printed : List ℕ) × Appends (g.O.Write.contents l.fn.out) (g.O.Write.contents l.out) printed × (printed ++ rest ≡ whole);
    }
