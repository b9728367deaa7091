use Rattle.std.proofs.Common.{rules, ◌≡◌, ◌+◌, ◌-◌, ◌++◌, List, ℕ, take, drop, replicate, length, sym, ◌∙◌, ap}
use Rattle.std.proofs.lemmas.List.{take_at}
use Rattle.durable_machine.specs.Journal.{payload_length}
use Rattle.durable_machine.specs.Seals.{seal_of}
use Rattle.durable_machine.proofs.ReadFrames.{rest_of}
use Rattle.durable_machine.proofs.Unwritten.{sealed_bytes, spells}
use Rattle.durable_machine.proofs.batch.Batch.seal.Goals as goal

pub returns-clause-is : goal.returns-clause-is
returns-clause-is c added are =
    let room = c.make_room.new.self in
    let put = c.put.new.bytes in
    let whole = c.whole_payload-whole.result in
    let counted : room.bytes.len ≡ length put = search rules in
    let same : c.len.result ≡ room.bytes.len = search rules in
    let back : take room.bytes.len (put ++ drop (length put) room.bytes.items) ≡ put = take_at put (drop (length put) room.bytes.items) room.bytes.len (sym counted) in
    sealed_bytes c.args.at whole room.bytes.len _ room.bytes.items c.seal_bytes-seal.result put _
    (sym c.in_ok-make_room.ensures.same ∙ spells room)
    (c.seal_bytes-seal.ensures ∙ ap (seal_of c.args.at) (rest_of 21 c.deref.result.now ∙ ap (λ (l : List ℕ). drop 21 l) c.deref.ensures.value))
    (c.put.ensures ∙ ap (λ (l : List ℕ). c.seal_bytes-seal.result ++ drop (0 + length c.seal_bytes-seal.result) l) c.deref_mut.ensures.value)
    counted (c.whole_payload-whole.ensures ∙ ap payload_length same)
    (c.in_ok-resize.ensures.items ∙ ap (λ (l : List ℕ). take (whole + 4096) l ++ replicate {A = ℕ} (whole + 4096 - room.bytes.len) 0) back) added are
