use Rattle.std.proofs.Common.{◌∙◌, w16}
use Rattle.std.proofs.lemmas.Int.{to_z-of_z}
use Rattle.ebpf_link.proofs.MarkPieces.{mark_put}
use Rattle.ebpf_link.proofs.layout.Layout.push_mark.Goals as goal

pub returns-clause-pushed : goal.returns-clause-pushed
returns-clause-pushed c =
    let context = to_z-of_z w16 c.cell-context.result (record { sfits = c.cell-context.type_inv }) in
    let scratch = to_z-of_z w16 c.cell-scratch.result (record { sfits = c.cell-scratch.type_inv }) in
    mark_put c.mark_label.result _ c.args.at _ _ _ _ c.mark_end-instructions.result c.args.self.now.pieces.items
    c.push_begin.new.self.pieces.items c.push_all.new.self.pieces.items
    c.mark_label.ensures (context ∙ c.cell-context.ensures) (scratch ∙ c.cell-scratch.ensures) c.mark_end-instructions.ensures
    c.in_ok-push_begin.ensures.pushed c.in_ok-push_all.ensures.pushed
