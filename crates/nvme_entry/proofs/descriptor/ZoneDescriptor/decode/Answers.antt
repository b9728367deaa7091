use Rattle.std.proofs.Common.{rules, ◌≡◌, sym, ◌∙◌}
use Rattle.nvme_entry.specs.Descriptor.{AreDescriptorFields, descriptor_bytes}
use Rattle.nvme_entry.specs.steps.DescriptorFields.{descriptor_in}
use Rattle.nvme_entry.proofs.Descriptors.{is_read_back, read_back}
use Rattle.nvme_entry.proofs.WrittenAgain.{no_other_is_read}
use Rattle.nvme_entry.proofs.descriptor.ZoneDescriptor.decode.Goals as goal

pub returns-in_err-found-clause-read_back : goal.returns-in_err-found-clause-read_back
returns-in_err-found-clause-read_back c =
    let told : c.from_residual.result ≡ descriptor_in c.args.bytes.now = search rules in
    is_read_back c.args.bytes.now c.from_residual.result told

pub returns-then-eq-clause-read_back : goal.returns-then-eq-clause-read_back
returns-then-eq-clause-read_back c = is_read_back c.args.bytes.now _ c.in_ok-found.ensures

pub returns-else-eq-clause-read_back : goal.returns-else-eq-clause-read_back
returns-else-eq-clause-read_back c =
    no_other_is_read AreDescriptorFields descriptor_in descriptor_bytes read_back c.args.bytes.now c.encode.result c.in_ok-found.found c.in_ok-found.ensures c.encode.ensures (sym c.eq.ensures ∙ c.if-eq.false)
