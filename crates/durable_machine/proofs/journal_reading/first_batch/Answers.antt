use Rattle.std.proofs.Common.{◌≡◌, inl, ◌<◌, ◌≤◌, ◌+◌, ◌-◌, ℕ, List, length, take, drop, sym, ◌∙◌, ap, subst, arith}
use Rattle.durable_machine.specs.Journal.{GivesBatch, payload_length}
use Rattle.durable_machine.proofs.Frames.{no_further, too_few}
use Rattle.durable_machine.proofs.ReadFrames.{rest_of, seal_sizes, front_events, no_room, not_sealed, too_short, not_closed, begins}
use Rattle.durable_machine.proofs.journal_reading.first_batch.Goals as goal
use Rattle.durable_machine.proofs.journal_reading.first_batch.Goals.{then-bytes-lt-SECTOR-via-then-bytes-lt-SECTOR, then-bytes-lt-SECTOR-via-else-bytes-lt-SECTOR+then-begins_closed, then-payload-whole-via-then-payload-whole, then-payload-whole-via-else-payload-whole+then-tail-ne-CLOSED}

pub returns-then-bytes-lt-SECTOR : goal.returns-then-bytes-lt-SECTOR
returns-then-bytes-lt-SECTOR c =
    elim c.then-bytes-lt-SECTOR.branch [
      | then-bytes-lt-SECTOR-via-then-bytes-lt-SECTOR w ↦ too_few c.args.at c.args.bytes.now (omega (arith, w.if-bytes-lt-SECTOR.true))
      | then-bytes-lt-SECTOR-via-else-bytes-lt-SECTOR+then-begins_closed w ↦ no_further c.args.at c.args.bytes.now (inl w.if-begins_closed.ensures)
    ]

pub returns-then-payload-room : goal.returns-then-payload-room
returns-then-payload-room c =
    let bytes = c.args.bytes.now in
    let payload = take (length bytes - 4096) (drop 4096 bytes) in
    no_room c.args.at bytes payload c.seal_length-room.result (rest_of 4096 bytes) c.seal_length-room.ensures c.if-payload-room.true

pub is_seal-requires : goal.is_seal-requires
is_seal-requires c =
    let payload = take (length c.args.bytes.now - 4096) (drop 4096 c.args.bytes.now) in
    seal_sizes payload c.split_at.result.0.now c.seal_length-room.result c.seal_length-room.ensures c.if-payload-room.false c.split_at.ensures.front

pub returns-then-not-is_seal : goal.returns-then-not-is_seal
returns-then-not-is_seal c =
    let at = c.args.at in
    let bytes = c.args.bytes.now in
    let payload = take (length bytes - 4096) (drop 4096 bytes) in
    let read = c.events_length-length.ensures in
    not_sealed at bytes payload c.seal_length-room.result (rest_of 4096 bytes) c.seal_length-room.ensures
    c.split_at.result.0.now c.split_at.result.1.now c.split_at-2.result.0.now c.split_at-2.result.1.now c.split_at.ensures.front c.split_at.ensures.back
    read.0 c.events_length-length.result read.1 c.split_at-2.ensures.front c.split_at-2.ensures.back c.if-not-is_seal.ensures

pub returns-then-payload-whole : goal.returns-then-payload-whole
returns-then-payload-whole c =
    let at = c.args.at in
    let bytes = c.args.bytes.now in
    let payload = take (length bytes - 4096) (drop 4096 bytes) in
    let read = c.events_length-length.ensures in
    elim c.then-payload-whole.branch [
      | then-payload-whole-via-then-payload-whole w ↦ too_short at bytes payload c.seal_length-room.result (rest_of 4096 bytes) c.seal_length-room.ensures
          c.split_at.result.0.now c.split_at.result.1.now c.split_at-2.result.0.now c.split_at-2.result.1.now c.split_at.ensures.front c.split_at.ensures.back
          read.0 c.events_length-length.result read.1 c.split_at-2.ensures.front c.split_at-2.ensures.back
          (subst (λ (k : ℕ). length payload < k) c.whole_payload-whole.ensures w.if-payload-whole.true)
      | then-payload-whole-via-else-payload-whole+then-tail-ne-CLOSED w ↦ not_closed at bytes payload c.seal_length-room.result (rest_of 4096 bytes) c.seal_length-room.ensures
          c.split_at.result.0.now c.split_at.result.1.now c.split_at-2.result.0.now c.split_at-2.result.1.now c.split_at.ensures.front c.split_at.ensures.back
          read.0 c.events_length-length.result read.1 c.split_at-2.ensures.front c.split_at-2.ensures.back
          w.if-tail-ne-CLOSED.true
    ]

pub returns : goal.returns
returns c =
    let at = c.args.at in
    let bytes = c.args.bytes.now in
    let payload = take (length bytes - 4096) (drop 4096 bytes) in
    let room = c.seal_length-room.result in
    let taken = c.events_length-length.result in
    let whole = c.whole_payload-whole.result in
    let read = c.events_length-length.ensures in
    let told = c.split_at-2.result.0.now in
    let tail = c.split_at-2.result.1.now in
    let batch = begins at bytes payload room (rest_of 4096 bytes) c.seal_length-room.ensures
    c.split_at.result.0.now c.split_at.result.1.now told tail c.split_at.ensures.front c.split_at.ensures.back read.0 taken read.1 c.split_at-2.ensures.front c.split_at-2.ensures.back
    c.if-not-is_seal.ensures c.if-begins_closed.ensures c.if-bytes-lt-SECTOR.false c.if-payload-room.false
    (subst (λ (k : ℕ). k ≤ length payload) c.whole_payload-whole.ensures c.if-payload-whole.false) c.if-tail-ne-CLOSED.false in
    let given : GivesBatch at (4096 + room) told (drop (payload_length (room + taken)) payload) bytes = (
      read.0,
      front_events at bytes payload room (rest_of 4096 bytes) c.seal_length-room.ensures
          c.split_at.result.0.now c.split_at.result.1.now told tail c.split_at.ensures.front c.split_at.ensures.back read.0 taken read.1 c.split_at-2.ensures.front c.split_at-2.ensures.back,
      batch.0,
      batch.1,
    ) in
    let left : take (length payload - whole) (drop whole payload) ≡ drop (payload_length (room + taken)) payload = rest_of whole payload ∙ ap (λ (k : ℕ). drop k payload) c.whole_payload-whole.ensures in
    subst (λ (rest : List ℕ). GivesBatch at (4096 + room) told rest bytes) (sym left) given
