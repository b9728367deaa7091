use Rattle.std.proofs.Common.{◌-◌, ◌++◌, ℕ, List, length, None, refl, sym, ap, subst, ◌∙◌, arith}
use Rattle.std.proofs.lemmas.List.{take_rest}
use Rattle.tcp_pdus.specs.Received.{header_bytes}
use Rattle.tcp_connection.specs.declared.parts.Parts.{Parts}
use Rattle.tcp_connection.specs.Reading.{behind_header, header_error}
use Rattle.tcp_connection.specs.steps.Parts.{Adds, Grows, pending_of}
use Rattle.tcp_connection.proofs.WholeHeaders.{failed, grown_on, less_grown, passed}
use Rattle.tcp_connection.proofs.parts.grow_header.Goals as goal

pub returns-then-len-wanted : goal.returns-then-len-wanted
returns-then-len-wanted c =
    let old : Parts = c.args.parts.now in
    let new : Parts = record old { header = c.add-first.new.bytes } in
    let adds : Adds old.header new.header c.args.piece.now (header_bytes c.args.pdu - length old.header.items) c.add-first.result =
    subst (λ (m : ℕ). Adds old.header new.header c.args.piece.now m c.add-first.result)
    (omega (arith, c.saturating_sub-missing.ensures, c.len.ensures, c.header_bytes-wanted.ensures)) c.add-first.ensures in
    less_grown c.args.expected.now old new c.args.common c.args.pdu c.args.piece.now c.add-first.result c.requires adds refl
    (omega (arith, c.if-len-wanted.true, c.len-2.ensures, c.header_bytes-wanted.ensures))

pub grow_data-more-requires : goal.grow_data-more-requires
grow_data-more-requires c =
    let old : Parts = c.args.parts.now in
    let new : Parts = record old { header = c.add-first.new.bytes } in
    let adds : Adds old.header new.header c.args.piece.now (header_bytes c.args.pdu - length old.header.items) c.add-first.result =
    subst (λ (m : ℕ). Adds old.header new.header c.args.piece.now m c.add-first.result)
    (omega (arith, c.saturating_sub-missing.ensures, c.len.ensures, c.header_bytes-wanted.ensures)) c.add-first.ensures in
    passed c.args.expected.now old new c.args.common c.args.pdu c.args.piece.now c.add-first.result c.requires adds refl
    (omega (arith, c.if-len-wanted.false, c.len-2.ensures, c.header_bytes-wanted.ensures))
    (ap (header_error c.args.expected.now c.args.common c.args.pdu) (sym c.as_slice.ensures.value) ∙ sym c.in-Ok.ensures)

pub returns-in-Ok : goal.returns-in-Ok
returns-in-Ok c =
    let old : Parts = c.args.parts.now in
    let new : Parts = record old { header = c.add-first.new.bytes } in
    let n : ℕ = c.add-first.result in
    let adds : Adds old.header new.header c.args.piece.now (header_bytes c.args.pdu - length old.header.items) n =
    subst (λ (m : ℕ). Adds old.header new.header c.args.piece.now m n)
    (omega (arith, c.saturating_sub-missing.ensures, c.len.ensures, c.header_bytes-wanted.ensures)) c.add-first.ensures in
    grown_on c.args.expected.now old new c.args.common c.args.pdu c.args.piece.now n c.requires adds refl
    (omega (arith, c.if-len-wanted.false, c.len-2.ensures, c.header_bytes-wanted.ensures))
    (ap (header_error c.args.expected.now c.args.common c.args.pdu) (sym c.as_slice.ensures.value) ∙ sym c.in-Ok.ensures)
    c.grow_data-more.new.parts c.grow_data-more.result.0 c.grow_data-more.result.1
    (subst (λ (p : List ℕ). Grows c.args.expected.now new c.grow_data-more.new.parts p c.grow_data-more.result.0 c.grow_data-more.result.1
    (behind_header c.args.pdu c.args.common (pending_of new ++ p) None))
    (take_rest c.args.piece.now n) c.grow_data-more.ensures)

pub returns-in-Err : goal.returns-in-Err
returns-in-Err c =
    let old : Parts = c.args.parts.now in
    let new : Parts = record old { header = c.add-first.new.bytes } in
    let adds : Adds old.header new.header c.args.piece.now (header_bytes c.args.pdu - length old.header.items) c.add-first.result =
    subst (λ (m : ℕ). Adds old.header new.header c.args.piece.now m c.add-first.result)
    (omega (arith, c.saturating_sub-missing.ensures, c.len.ensures, c.header_bytes-wanted.ensures)) c.add-first.ensures in
    failed c.args.expected.now old new c.args.common c.args.pdu c.args.piece.now c.add-first.result c.requires adds refl
    (omega (arith, c.if-len-wanted.false, c.len-2.ensures, c.header_bytes-wanted.ensures)) c.in-Err.error
    (ap (header_error c.args.expected.now c.args.common c.args.pdu) (sym c.as_slice.ensures.value) ∙ sym c.in-Err.ensures)
