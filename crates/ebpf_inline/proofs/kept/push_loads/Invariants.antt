use Rattle.std.proofs.Common.{◌≡◌, ◌+◌, ◌*◌, ◌++◌, drop}
use Rattle.ebpf_inline.specs.Bodies.{loads}
use Rattle.ebpf_inline.proofs.kept.push_loads.Given as goal

-- what is pushed, and what is left to push
abbrev pub invariant-loop-register : goal.invariant-loop-register
invariant-loop-register l =
    record {
      pushed : l.into.items ++ loads l.end (drop l.register-index l.kept) ≡ l.initial.into.items ++ loads l.below l.kept;
      at : l.end ≡ l.below + 8 * l.register-index;
    }
