use Rattle.std.proofs.Common.{rules}
use Rattle.std.specs.Fmt.{decimal}
use Rattle.ebpf_asm.proofs.Columns.{in_columns}
use Rattle.ebpf_asm.proofs.listing.push_slot.Goals as goal

pub returns : goal.returns
returns c = search (rules, in_columns (decimal c.args.slot))
