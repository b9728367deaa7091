-- Each address is that of its area.
use Rattle.program_interface.proofs.registers.start_registers.Goals as goal

pub returns : goal.returns
returns c = cc
