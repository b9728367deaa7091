use Rattle.std.proofs.Common.{◌≡◌, ◌≤◌, ◌++◌, drop, length, map}
use Rattle.ebpf_inline.specs.Data.{all_data}
use Rattle.program_interface.specs.declared.area.TheConstants.{STACK_BYTES}
use Rattle.ebpf_inline.proofs.data.all_data.Given as goal

-- what is put together, and what is left
abbrev pub invariant-loop-section : goal.invariant-loop-section
invariant-loop-section l =
    let sections = map (λ section. section.items) l.sections in
    record {
      so_far : l.data.items ++ all_data (drop l.section-index sections) ≡ all_data sections;
      few : length l.data.items ≤ STACK_BYTES;
    }
