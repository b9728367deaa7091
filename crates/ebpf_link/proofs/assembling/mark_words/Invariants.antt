use Rattle.std.proofs.Common.{◌≡◌}
use Rattle.ebpf_link.specs.Assembling.{mark_words}
use Rattle.ebpf_link.proofs.assembling.mark_words.Given as goal

abbrev pub invariant-loop-place : goal.invariant-loop-place
invariant-loop-place l = l.words.items ≡ mark_words l.layout.guards.items l.guards l.place
