use Rattle.tcp_device.proofs.NextCall.{is_next}
use Rattle.tcp_device.specs.LoopMeaning.{in_memory, kept_in_file}
use Rattle.tcp_device.proofs.file_calls.next_call.Goals as goal

pub returns-in-Some-clause-first : goal.returns-in-Some-clause-first
returns-in-Some-clause-first c =
    is_next kept_in_file c.args.file.now c.in-Some.call.now c.in-Some.ensures.first.0 c.call_of.result c.in-Some.ensures.first.1 c.call_of.ensures c.in-Some.ensures.there

pub returns-in-Some-clause-first_in_memory : goal.returns-in-Some-clause-first_in_memory
returns-in-Some-clause-first_in_memory c =
    is_next in_memory c.args.file.now c.in-Some.call.now c.in-Some.ensures.first.0 c.call_of.result c.in-Some.ensures.first.1 c.call_of.ensures c.in-Some.ensures.there
