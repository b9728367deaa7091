use Rattle.std.proofs.Common.{rules, ◌≡◌, ◌++◌}
use Rattle.durable_machine.specs.Events.{number_bytes}
use Rattle.durable_machine.proofs.Numbers.{are_number_bytes}
use Rattle.image_base.specs.Base.{magic}
use Rattle.image_base.proofs.Labels.{front_added}
use Rattle.image_base.proofs.front.add_front.Goals as goal

pub returns : goal.returns
returns c =
    let before = c.args.base.now.items in
    let opened : c.extend_from_slice.new.self.items ≡ before ++ magic = search rules in
    let version : c.to_le_bytes.result ≡ number_bytes 1 = are_number_bytes 1 c.to_le_bytes.result c.to_le_bytes.ensures in
    let profile : c.to_le_bytes-2.result ≡ number_bytes 2 = are_number_bytes 2 c.to_le_bytes-2.result c.to_le_bytes-2.ensures in
    front_added before c.extend_from_slice.new.self.items c.push.new.self.items c.extend_from_slice-2.new.self.items
    c.extend_from_slice-3.new.self.items c.to_le_bytes.result c.to_le_bytes-2.result opened c.in_ok-push.ensures.items
    c.in_ok-extend_from_slice-2.ensures.items c.in_ok-extend_from_slice-3.ensures.items version profile
