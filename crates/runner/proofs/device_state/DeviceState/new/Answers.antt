use Rattle.zone_resources.specs.declared.holds.TheConstants.{RUNS}
use Rattle.nvme_entry.specs.declared.program_slot.TheConstants.{PROGRAM_SLOTS}
use Rattle.accepted_programs.proofs.Proved.{none_known}
use Rattle.runner.proofs.device_state.DeviceState.new.Goals as goal

pub invariant_of-result : goal.invariant_of-result
invariant_of-result g c = record {
  programs = λ k p at. absurd (none_known PROGRAM_SLOTS k p at);
  running = λ k a at. absurd (none_known RUNS k a at);
  apart = λ j k a b at_j at_k same. absurd (none_known RUNS j a at_j);
}
