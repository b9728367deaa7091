-- A receiver behind a piece, and between PDUs.
use Rattle.std.proofs.Common.{◌≡◌, ◌≢◌, ℕ, ◌+◌, ◌≤◌, List, [], ◌++◌, length, take, drop, Option, Vec, refl, sym, ap, subst, ◌∙◌, length-append, arith}
use Rattle.std.specs.declared.alloc.Global.{Global}
use Rattle.std.proofs.lemmas.List.{nil_from_length}
use Rattle.tcp_pdus.specs.declared.received.HostPdu.{HostPdu}
use Rattle.tcp_pdus.specs.declared.received.HostPdu.TheVariants.{IcReq, H2cTermReq, CapsuleCmd, H2cData}
use Rattle.tcp_pdus.specs.Transfer.{data_header_in}
use Rattle.tcp_connection.specs.declared.expected.Expected.{Expected}
use Rattle.tcp_connection.specs.declared.expected.Progress.{Progress}
use Rattle.tcp_connection.specs.declared.expected.Progress.TheVariants.{Partial, Whole}
use Rattle.tcp_connection.specs.declared.parts.Parts.{Parts}
use Rattle.tcp_connection.specs.Reading.{reading}
use Rattle.tcp_connection.specs.Transfers.{Transfer, with_data}
use Rattle.tcp_connection.specs.Receiving.{IsBetween, ReceiverState, joined, next, next_by, tag_in, taken}
use Rattle.tcp_connection.specs.steps.Parts.{FitsData, Grows, HasRoom, IsBounded, IsHeld, IsReceiver, body_of, pending_of, state_of, transfers_after}
use Rattle.tcp_connection.proofs.Comes.{comes}
use Rattle.tcp_connection.proofs.Pieces.{read_again}
use Rattle.tcp_connection.proofs.Readings.{less_than_common}
use Rattle.tcp_connection.proofs.Standing.{whole_data, whole_stands}

-- two states with the same parts are the same
same_state : (e f : Expected) (a b : List ℕ) (p q : Progress) → e ≡ f → a ≡ b → p ≡ q
    → ◌≡◌ {A = ReceiverState} (record { expected = e; pending = a; progress = p }) (record { expected = f; pending = b; progress = q })
same_state e f a b p q same_expected same_bytes same_progress = cc

module _ (e : Expected) (old new : Parts) (p : List ℕ) (n : ℕ) (progress : Progress)
    (grows : Grows e old new p n progress (reading e (pending_of old ++ p))) where
  pub receiver_after : IsReceiver e new progress
  receiver_after = record {
    held = grows.held;
    read = ap (reading e) grows.grown
        ∙ read_again e (pending_of old ++ p) (comes e (pending_of old ++ p))
        ∙ ap (λ (q : Progress). (q, length (take (reading e (pending_of old ++ p)).1 (pending_of old ++ p)))) (sym grows.to)
        ∙ ap (λ (bytes : List ℕ). (progress, length bytes)) (sym grows.grown);
  }

  pub state_after : state_of e new progress ≡ (taken (state_of e old Partial) p).0
  state_after = same_state e e (pending_of new) _ progress _ refl grows.grown grows.to

  pub count_after : n ≡ (taken (state_of e old Partial) p).1
  count_after = omega (arith, grows.count)

-- ---- the next PDU

-- a receiver to which nothing of a PDU has come
module _ (e : Expected) (parts : Parts) (header : parts.header.items ≡ []) (none : parts.data.items ≡ []) (rest : parts.transfer.items ≡ []) where
  no_body : body_of parts ≡ []
  no_body =
      nil_from_length (body_of parts) (omega (arith, length-append parts.data.items parts.transfer.items, ap length none, ap length rest))

  pub nothing : pending_of parts ≡ []
  nothing =
      nil_from_length (pending_of parts) (omega (arith, length-append parts.header.items (body_of parts), ap length header, ap length no_body))

  pub empty_receiver : HasRoom parts → IsBounded e → IsReceiver e parts Partial
  empty_receiver room bounded = record {
    held = record {
      room = room;
      bounded = bounded;
      few = record {
        header = omega (arith, ap length header);
        «data» = omega (arith, ap length none);
        transfer = omega (arith, ap length rest);
      };
      short = λ _. no_body;
      placed = λ pdu long passes. absurd (omega (arith, long, ap length header));
    };
    read = less_than_common e (pending_of parts) (omega (arith, ap length nothing));
  }

-- behind a PDU that is no H2CData
module _ (e : Expected) (old new : Parts) (header : new.header.items ≡ []) (none : new.data.items ≡ [])
    (transfer : new.transfer ≡ old.transfer) where
  module _ (apart : old.transfer.items ≡ []) where
    still_apart : new.transfer.items ≡ []
    still_apart = ap (λ (v : Vec ℕ Global). v.items) transfer ∙ apart

    other_next : ◌≡◌ {A = ReceiverState} (state_of e new Partial) (record { expected = e; pending = []; progress = Partial })
    other_next = same_state e e (pending_of new) [] Partial Partial refl (nothing e new header none still_apart) refl

    other_receiver : HasRoom new → IsHeld e old → IsReceiver e new Partial
    other_receiver room held = empty_receiver e new header none still_apart room held.bounded

  pub next_is : (pdu : HostPdu) → IsReceiver e old (Whole pdu) → pdu ≢ H2cData
      → state_of e new Partial ≡ next_by (Whole pdu) (state_of e old (Whole pdu))
  next_is IcReq receiver other = other_next (whole_stands e old IcReq receiver (comes e (pending_of old))).apart
  next_is H2cTermReq receiver other = other_next (whole_stands e old H2cTermReq receiver (comes e (pending_of old))).apart
  next_is CapsuleCmd receiver other = other_next (whole_stands e old CapsuleCmd receiver (comes e (pending_of old))).apart
  next_is H2cData receiver other = absurd (other refl)

  pub next_receiver : (pdu : HostPdu) → HasRoom new → IsReceiver e old (Whole pdu) → pdu ≢ H2cData → IsReceiver e new Partial
  next_receiver IcReq room receiver other =
      other_receiver (whole_stands e old IcReq receiver (comes e (pending_of old))).apart room receiver.held
  next_receiver H2cTermReq room receiver other =
      other_receiver (whole_stands e old H2cTermReq receiver (comes e (pending_of old))).apart room receiver.held
  next_receiver CapsuleCmd room receiver other =
      other_receiver (whole_stands e old CapsuleCmd receiver (comes e (pending_of old))).apart room receiver.held
  next_receiver H2cData room receiver other = absurd (other refl)

-- behind any PDU
pub data_fits : (e : Expected) (old : Parts) (pdu : HostPdu) → IsReceiver e old (Whole pdu) → FitsData pdu e.transfers old
data_fits e old IcReq receiver = tt
data_fits e old H2cTermReq receiver = tt
data_fits e old CapsuleCmd receiver = tt
data_fits e old H2cData receiver = let whole = whole_data e old receiver in record { header = whole.long; fits = whole.fits }

module _ (e : Expected) (transfers : List (Option Transfer)) (old new : Parts)
    (header : new.header.items ≡ []) (none : new.data.items ≡ []) (rest : new.transfer.items ≡ []) where
  ended_state : (then : Expected) → record e { transfers = transfers } ≡ then
      → state_of (record e { transfers = transfers }) new Partial ≡ record { expected = then; pending = []; progress = Partial }
  ended_state then same =
      same_state (record e { transfers = transfers }) then (pending_of new) [] Partial Partial same
      (nothing (record e { transfers = transfers }) new header none rest) refl

  pub end_is : (pdu : HostPdu) → transfers ≡ transfers_after pdu old e.transfers → IsReceiver e old (Whole pdu)
      → state_of (record e { transfers = transfers }) new Partial ≡ next_by (Whole pdu) (state_of e old (Whole pdu))
  end_is IcReq is receiver = ended_state e (ap (λ (them : List (Option Transfer)). record e { transfers = them }) is)
  end_is H2cTermReq is receiver = ended_state e (ap (λ (them : List (Option Transfer)). record e { transfers = them }) is)
  end_is CapsuleCmd is receiver = ended_state e (ap (λ (them : List (Option Transfer)). record e { transfers = them }) is)
  end_is H2cData is receiver =
      let whole = whole_data e old receiver in
      ended_state (joined (pending_of old) e)
      (ap (λ (them : List (Option Transfer)). record e { transfers = them })
      (is
      ∙ ap (λ (h : List ℕ). with_data (data_header_in h).tag old.transfer.items e.transfers) (sym whole.header)
      ∙ ap (λ (sent : List ℕ). with_data (tag_in (pending_of old)) sent e.transfers) (sym whole.sent)))

  pub end_receiver : HasRoom new → IsBounded e → IsReceiver (record e { transfers = transfers }) new Partial
  end_receiver room bounded = empty_receiver (record e { transfers = transfers }) new header none rest room bounded

whole_between : (s : ReceiverState) (pdu : HostPdu) → IsBetween (next_by (Whole pdu) s)
whole_between s IcReq = record { nothing = refl; partial = refl }
whole_between s H2cTermReq = record { nothing = refl; partial = refl }
whole_between s CapsuleCmd = record { nothing = refl; partial = refl }
whole_between s H2cData = record { nothing = refl; partial = refl }

-- behind a whole PDU
pub next_between : (s : ReceiverState) (pdu : HostPdu) → s.progress ≡ Whole pdu → IsBetween (next s)
next_between s pdu is =
    let P : Progress → Type 0 = λ p. IsBetween (next_by p s) in subst P (sym is) (whole_between s pdu)
