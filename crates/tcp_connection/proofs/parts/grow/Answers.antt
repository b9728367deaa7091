use Rattle.std.proofs.Common.{◌++◌, ◌-◌, ℕ, List, length, take, refl, sym, ap, subst, ◌∙◌, arith}
use Rattle.std.proofs.lemmas.List.{take_rest}
use Rattle.tcp_pdus.specs.CommonHeader.{common_header_in}
use Rattle.tcp_connection.specs.declared.parts.Parts.{Parts}
use Rattle.tcp_connection.specs.Reading.{behind_common}
use Rattle.tcp_connection.specs.steps.Parts.{Adds, Grows, pending_of}
use Rattle.tcp_connection.proofs.CommonHeaders.{failed, grown_on, less_grown, passed}
use Rattle.tcp_connection.proofs.parts.grow.Goals as goal
use Rattle.std.proofs.Common.{Ok}

pub returns-then-len-lt-COMMON_HEADER_BYTES : goal.returns-then-len-lt-COMMON_HEADER_BYTES
returns-then-len-lt-COMMON_HEADER_BYTES c =
    let old : Parts = c.args.parts.now in
    let new : Parts = record old { header = c.add-first.new.bytes } in
    let adds : Adds old.header new.header c.args.piece.now (8 - length old.header.items) c.add-first.result =
    subst (λ (m : ℕ). Adds old.header new.header c.args.piece.now m c.add-first.result) (omega (arith, c.saturating_sub-missing.ensures, c.len.ensures))
    c.add-first.ensures in
    less_grown c.args.expected.now old new c.args.piece.now c.add-first.result c.requires adds refl (omega (arith, c.if-len-lt-COMMON_HEADER_BYTES.true, c.len-2.ensures))

pub grow_header-more-requires : goal.grow_header-more-requires
grow_header-more-requires c =
    let old : Parts = c.args.parts.now in
    let new : Parts = record old { header = c.add-first.new.bytes } in
    let adds : Adds old.header new.header c.args.piece.now (8 - length old.header.items) c.add-first.result =
    subst (λ (m : ℕ). Adds old.header new.header c.args.piece.now m c.add-first.result) (omega (arith, c.saturating_sub-missing.ensures, c.len.ensures))
    c.add-first.ensures in
    passed c.args.expected.now old new c.args.piece.now c.add-first.result c.requires adds refl c.read-common.result
    (omega (arith, c.if-len-lt-COMMON_HEADER_BYTES.false, c.len-2.ensures))
    (c.read-common.ensures ∙ ap (λ (h : List ℕ). common_header_in (take 8 h)) c.deref.ensures.value) c.in-Ok.pdu (sym c.in-Ok.ensures)

pub returns-in-Ok : goal.returns-in-Ok
returns-in-Ok c =
    let old : Parts = c.args.parts.now in
    let new : Parts = record old { header = c.add-first.new.bytes } in
    let n : ℕ = c.add-first.result in
    let adds : Adds old.header new.header c.args.piece.now (8 - length old.header.items) n =
    subst (λ (m : ℕ). Adds old.header new.header c.args.piece.now m n) (omega (arith, c.saturating_sub-missing.ensures, c.len.ensures))
    c.add-first.ensures in
    grown_on c.args.expected.now old new c.args.piece.now n c.requires adds refl c.read-common.result
    (omega (arith, c.if-len-lt-COMMON_HEADER_BYTES.false, c.len-2.ensures))
    (c.read-common.ensures ∙ ap (λ (h : List ℕ). common_header_in (take 8 h)) c.deref.ensures.value) c.in-Ok.pdu (sym c.in-Ok.ensures)
    c.grow_header-more.new.parts c.grow_header-more.result.0 c.grow_header-more.result.1
    (subst (λ (p : List ℕ). Grows c.args.expected.now new c.grow_header-more.new.parts p c.grow_header-more.result.0 c.grow_header-more.result.1
    (behind_common c.args.expected.now c.read-common.result (pending_of new ++ p) (Ok c.in-Ok.pdu)))
    (take_rest c.args.piece.now n) c.grow_header-more.ensures)

pub returns-in-Err : goal.returns-in-Err
returns-in-Err c =
    let old : Parts = c.args.parts.now in
    let new : Parts = record old { header = c.add-first.new.bytes } in
    let adds : Adds old.header new.header c.args.piece.now (8 - length old.header.items) c.add-first.result =
    subst (λ (m : ℕ). Adds old.header new.header c.args.piece.now m c.add-first.result) (omega (arith, c.saturating_sub-missing.ensures, c.len.ensures))
    c.add-first.ensures in
    failed c.args.expected.now old new c.args.piece.now c.add-first.result c.requires adds refl c.read-common.result
    (omega (arith, c.if-len-lt-COMMON_HEADER_BYTES.false, c.len-2.ensures))
    (c.read-common.ensures ∙ ap (λ (h : List ℕ). common_header_in (take 8 h)) c.deref.ensures.value) c.in-Err.error (sym c.in-Err.ensures)
