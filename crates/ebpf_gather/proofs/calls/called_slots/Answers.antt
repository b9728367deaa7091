use Rattle.std.proofs.Common.{◌≡◌, ℕ, List, Result, Ok, Err, sym}
use Rattle.std.specs.Prelude.{IfOk}
use Rattle.ebpf_gather.specs.CallTrees.{IsShallow, tree_slots}
use Rattle.ebpf_gather.specs.declared.calls.TheConstants.{MOST_CALLS}
use Rattle.ebpf_gather.specs.declared.fault.CallFault.{CallFault}
use Rattle.ebpf_gather.proofs.CallTrees.{are_shallow}
use Rattle.ebpf_gather.proofs.calls.called_slots.Goals as goal
use Rattle.ebpf_object.specs.declared.function.Function.{Function}

if_counted : (bytes : List ℕ) (symbols : ℕ) (depth : ℕ) (function : Function) (told : Result ℕ CallFault)
    → told ≡ tree_slots bytes symbols depth function → IfOk told (λ _. IsShallow bytes symbols depth function)
if_counted bytes symbols depth function (Ok slots) e = are_shallow bytes symbols depth function slots (sym e)
if_counted bytes symbols depth function (Err fault) e = tt

pub returns-clause-shallow : goal.returns-clause-shallow
returns-clause-shallow c =
    if_counted c.args.object.now.bytes.now c.args.object.now.symbols MOST_CALLS c.args.function c.tree_slots.result c.tree_slots.ensures.value
