-- What a batch that isn't written yet spells.
use Rattle.std.proofs.Common.{◌≡◌, ◌≤◌, ◌+◌, ◌-◌, ◌%◌, ◌<◌, ℕ, List, [], ◌++◌, length, drop, take, replicate, refl, sym, ◌∙◌, ap, arith, length-append, length-drop, length-take}
use Rattle.std.proofs.lemmas.List.{drop-append-le, drop-take, drop_all, length-replicate, take_all}
use Rattle.durable_machine.specs.declared.batch.Batch.{Batch}
use Rattle.durable_machine.specs.Events.{spelled}
use Rattle.durable_machine.specs.Seals.{events_of, seal_of}
use Rattle.durable_machine.specs.Journal.{payload_length}
use Rattle.durable_machine.specs.Staging.{IsPayload}
use Rattle.durable_machine.proofs.Crash.{is_payload}
use Rattle.durable_machine.proofs.Sealing.{length-seal}

pub spells : (batch : Batch) → events_of batch ≡ drop 21 batch.bytes.items
unfolding events_of
spells batch = refl

-- there is none where no more bytes than the seal's are
pub none_spelled : (batch : Batch) → length batch.bytes.items ≤ 21 → events_of batch ≡ []
none_spelled batch short = spells batch ∙ drop_all 21 batch.bytes.items short

pub size_spelled : (batch : Batch) → length (events_of batch) ≡ length batch.bytes.items - 21
size_spelled batch = ap length (spells batch) ∙ length-drop 21 batch.bytes.items

-- room for a seal has none
pub room_made : (old new : Batch) (n : ℕ) → n ≡ length old.bytes.items → n < 21 → new.bytes.items ≡ take 21 old.bytes.items ++ replicate {A = ℕ} (21 - n) 0 → events_of new ≡ events_of old
room_made old new n counted few made =
    none_spelled new
    (omega (
      arith,
      ap length made,
      length-append (take 21 old.bytes.items) (replicate {A = ℕ} (21 - n) 0),
      length-take 21 old.bytes.items,
      length-replicate {A = ℕ} (21 - n) 0,
      counted,
      few,
    ))
    ∙ sym (none_spelled old (omega (arith, counted, few)))

pub as_it_was : (old new : Batch) → new.bytes.items ≡ old.bytes.items → events_of new ≡ events_of old
as_it_was old new same = spells new ∙ ap (λ (l : List ℕ). drop 21 l) same ∙ sym (spells old)

-- it is cut
pub cut_off : (old new : Batch) (n : ℕ) → new.bytes.items ≡ take (21 + n) old.bytes.items → events_of new ≡ take n (events_of old)
cut_off old new n cut =
    spells new ∙ ap (λ (l : List ℕ). drop 21 l) cut ∙ drop-take 21 n old.bytes.items ∙ ap (λ (l : List ℕ). take n l) (sym (spells old))

pub not_cut : (batch : Batch) (n : ℕ) → length batch.bytes.items ≤ n → events_of batch ≡ take n (events_of batch)
not_cut batch n enough = sym (take_all n (events_of batch) (omega (arith, size_spelled batch, enough)))

-- what is put after the room for the seal is put after the events
pub put_behind : (old mid new : Batch) (more : List ℕ) → 21 ≤ length mid.bytes.items → events_of mid ≡ events_of old → new.bytes.items ≡ mid.bytes.items ++ more → events_of new ≡ events_of old ++ more
put_behind old mid new more room same is =
    spells new ∙ ap (λ (l : List ℕ). drop 21 l) is ∙ drop-append-le 21 mid.bytes.items more room
    ∙ ap (λ (l : List ℕ). l ++ more) (sym (spells mid) ∙ same)

-- the seal is put before the events, and zeros and a closed gate after them
pub sealed_bytes : (at whole n : ℕ) (events old seal put all : List ℕ) → events ≡ drop 21 old → seal ≡ seal_of at (drop 21 old)
    → put ≡ seal ++ drop (0 + length seal) old → n ≡ length put → whole ≡ payload_length n
    → all ≡ take (whole + 4096) put ++ replicate {A = ℕ} (whole + 4096 - n) 0
    → (added : List (List ℕ)) → events ≡ spelled added → IsPayload at added all
sealed_bytes at whole n events old seal put all are is_seal is_put counted size written added told_as =
    let long : length seal ≡ 21 = ap length is_seal ∙ length-seal at (drop 21 old) in
    let far : 0 + length seal ≡ 21 = omega (arith, long) in
    let told : put ≡ seal_of at events ++ events =
    is_put ∙ ap (λ (k : ℕ). seal ++ drop k old) far ∙ ap (λ (l : List ℕ). l ++ drop 21 old) is_seal ∙ ap (λ (l : List ℕ). seal_of at l ++ l) (sym are) in
    is_payload at added events put all whole n told_as told (size ∙ ap payload_length counted) counted written

-- in whole sectors
pub sealed_whole : (whole n : ℕ) (put all : List ℕ) → n ≡ length put → whole ≡ payload_length n → all ≡ take (whole + 4096) put ++ replicate {A = ℕ} (whole + 4096 - n) 0 → length all % 4096 ≡ 0
sealed_whole whole n put all counted size written =
    let enough : n ≤ whole = omega (arith, size) in
    let long : length all ≡ whole + 4096 =
    omega (
      arith,
      ap length written,
      length-append (take (whole + 4096) put) (replicate {A = ℕ} (whole + 4096 - n) 0),
      ap length (take_all (whole + 4096) put (omega (arith, counted, enough))),
      length-replicate {A = ℕ} (whole + 4096 - n) 0,
      counted,
      enough,
    ) in
    omega (arith, long, size)
