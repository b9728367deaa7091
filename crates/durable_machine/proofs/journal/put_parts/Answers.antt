use Rattle.std.proofs.Common.{rules, ◌≡◌, ◌<◌, ◌^◌, ◌++◌, length, length-append, arith, ap, ◌∙◌}
use Rattle.std.specs.Int.{to_le_bytes, w64}
use Rattle.durable_machine.proofs.Numbers.{are_number_bytes}
use Rattle.durable_machine.proofs.Spelling.{parts_added}
use Rattle.durable_machine.proofs.journal.put_parts.Goals as goal

pub returns-clause-added : goal.returns-clause-added
returns-clause-added c =
    let one = c.args.first.now in
    let two = c.args.second.now in
    let three = c.args.third.now in
    let size = c.in_ok-size.size in
    let counted : size ≡ length (one ++ two ++ three) = omega (arith, c.in_ok-size.ensures, length-append (one ++ two) three, length-append one two) in
    let digits : c.to_le_bytes.result ≡ to_le_bytes w64 (length (one ++ two ++ three)) = c.to_le_bytes.ensures ∙ ap (to_le_bytes w64) counted in
    parts_added c.args.events.now.items c.push.new.self.items c.extend_from_slice.new.self.items c.extend_from_slice-2.new.self.items c.extend_from_slice-3.new.self.items c.extend_from_slice-4.new.self.items c.to_le_bytes.result one two three
    c.in_ok-push.ensures.items c.in_ok-extend_from_slice.ensures.items c.in_ok-extend_from_slice-2.ensures.items c.in_ok-extend_from_slice-3.ensures.items c.in_ok-extend_from_slice-4.ensures.items
    (are_number_bytes (length (one ++ two ++ three)) c.to_le_bytes.result digits)

pub returns-clause-sized : goal.returns-clause-sized
returns-clause-sized c =
    let one = c.args.first.now in
    let two = c.args.second.now in
    let three = c.args.third.now in
    let size = c.in_ok-size.size in
    let fits : size < 2 ^ 64 = search rules in
    omega (arith, fits, c.in_ok-size.ensures, length-append (one ++ two) three, length-append one two)
