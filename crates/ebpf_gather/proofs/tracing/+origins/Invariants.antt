use Rattle.std.specs.Prelude.{◌+◌, ◌*◌}
use Rattle.ebpf_gather.proofs.tracing.+origins.Given as goal

abbrev pub decreases-push_function : goal.decreases-push_function
decreases-push_function l = 3 * l.depth + 2

abbrev pub decreases-push_slot : goal.decreases-push_slot
decreases-push_slot l = 3 * l.depth + 1

abbrev pub decreases-push_call : goal.decreases-push_call
decreases-push_call l = 3 * l.depth
