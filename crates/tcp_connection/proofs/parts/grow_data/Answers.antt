use Rattle.std.proofs.Common.{◌-◌, ℕ, sym, subst, arith}
use Rattle.tcp_connection.specs.declared.parts.Parts.{Parts}
use Rattle.tcp_connection.specs.steps.Parts.{AddsData, HasDataRoom}
use Rattle.tcp_connection.proofs.DataParts.{less_grown, room, whole_grown}
use Rattle.tcp_connection.proofs.parts.grow_data.Goals as goal

pub add_data-count-requires : goal.add_data-count-requires
add_data-count-requires c =
    subst (λ (m : ℕ). HasDataRoom c.args.pdu c.args.parts.now (c.args.common.pdu_length - m)) (sym c.come.ensures)
    (room c.args.expected.now c.args.parts.now c.args.common c.args.pdu c.requires)

pub returns-then-count-missing : goal.returns-then-count-missing
returns-then-count-missing c =
    let old : Parts = c.args.parts.now in
    less_grown c.args.expected.now old c.add_data-count.new.parts c.args.common c.args.pdu c.args.piece.now c.add_data-count.result c.requires
    (subst (λ (m : ℕ). AddsData c.args.pdu old c.add_data-count.new.parts c.args.piece.now (c.args.common.pdu_length - m) c.add_data-count.result)
    c.come.ensures c.add_data-count.ensures) (omega (arith, c.if-count-missing.true, c.come.ensures))

pub returns-else-count-missing : goal.returns-else-count-missing
returns-else-count-missing c =
    let old : Parts = c.args.parts.now in
    whole_grown c.args.expected.now old c.add_data-count.new.parts c.args.common c.args.pdu c.args.piece.now c.add_data-count.result c.requires
    (subst (λ (m : ℕ). AddsData c.args.pdu old c.add_data-count.new.parts c.args.piece.now (c.args.common.pdu_length - m) c.add_data-count.result)
    c.come.ensures c.add_data-count.ensures) (omega (arith, c.if-count-missing.false, c.come.ensures))
