-- A PDU that grows by bytes of a piece.
use Rattle.std.proofs.Common.{◌≡◌, ℕ, ◌+◌, ◌-◌, ◌<◌, ◌≤◌, List, [], ◌++◌, length, take, drop, Ok, Vec, refl, sym, ap, subst, ◌∙◌, inl, inr, ◌⊎◌, length-append, length-drop, arith}
use Rattle.std.specs.declared.alloc.Global.{Global}
use Rattle.std.proofs.lemmas.List.{nil_from_length, take_all}
use Rattle.tcp_pdus.specs.declared.fatal_error.FatalError.{FatalError}
use Rattle.tcp_pdus.specs.declared.received.HostPdu.{HostPdu}
use Rattle.tcp_pdus.specs.declared.received.HostPdu.TheVariants.{IcReq, H2cTermReq, CapsuleCmd, H2cData}
use Rattle.tcp_pdus.specs.CommonHeader.{common_header_in}
use Rattle.tcp_pdus.specs.Received.{checked, header_bytes}
use Rattle.tcp_connection.specs.declared.expected.Expected.{Expected}
use Rattle.tcp_connection.specs.declared.expected.Progress.{Progress}
use Rattle.tcp_connection.specs.declared.expected.Progress.TheVariants.{Partial, Failed}
use Rattle.tcp_connection.specs.declared.parts.Parts.{Parts}
use Rattle.tcp_connection.specs.steps.Parts.{Adds, Grows, IsApart, IsHeld, IsPlaced, body_of, pending_of}
use Rattle.tcp_connection.proofs.Filling.{Fills, all, all_length, front, header_front, new_length, pending_length, rest, stages, within}

-- a PDU that grew to what was wanted
pub grows_to : (e : Expected) (old new : Parts) (p : List ℕ) (n w : ℕ) (progress : Progress) (wanted : Progress × ℕ) → IsHeld e new
    → length (pending_of old) + n ≡ w → n ≤ length p
    → pending_of new ≡ take w (pending_of old ++ p) → wanted ≡ (progress, w) → Grows e old new p n progress wanted
grows_to e old new p n w progress wanted held count most grown is =
    let P : Progress × ℕ → Type 0 = λ x. Grows e old new p n progress x in
    subst P (sym is) (record { held = held; to = refl; count = count; within = most; grown = grown })

-- that grew first to a part of it, and then to all
pub grows_on : (e : Expected) (old mid new : Parts) (p : List ℕ) (n more : ℕ) (progress : Progress) (wanted later : Progress × ℕ)
    → length (pending_of mid) ≡ length (pending_of old) + n → n ≤ length p
    → pending_of mid ++ drop n p ≡ pending_of old ++ p → length (drop n p) + n ≡ length p → later ≡ wanted
    → Grows e mid new (drop n p) more progress later → Grows e old new p (n + more) progress wanted
grows_on e old mid new p n more progress wanted later long most same left is g =
    record {
      held = g.held;
      to = g.to ∙ ap (λ (x : Progress × ℕ). x.0) is;
      count = omega (arith, g.count, long, ap (λ (x : Progress × ℕ). x.1) is);
      within = omega (arith, g.within, left);
      grown = g.grown ∙ ap (λ (x : List ℕ). take later.1 x) same
          ∙ ap (λ (x : Progress × ℕ). take x.1 (pending_of old ++ p)) is;
    }

-- nothing in both parts of the data, where there is none
both_none : (e : Expected) (parts : Parts) → body_of parts ≡ [] → (pdu : HostPdu) → IsApart pdu parts
both_none e parts none =
    let long = length-append parts.data.items parts.transfer.items in
    let first : parts.data.items ≡ [] = nil_from_length parts.data.items (omega (arith, ap length none, long)) in
    let second : parts.transfer.items ≡ [] = nil_from_length parts.transfer.items (omega (arith, ap length none, long)) in
    λ pdu. elim pdu as (λ q. IsApart q parts) [ IcReq ↦ second | H2cTermReq ↦ second | CapsuleCmd ↦ second | H2cData ↦ first ]

-- where data stands has nothing to do with the header
still_apart : (pdu : HostPdu) (parts : Parts) (header : Vec ℕ Global) → IsApart pdu parts → IsApart pdu (record parts { header = header })
still_apart IcReq parts header apart = apart
still_apart H2cTermReq parts header apart = apart
still_apart CapsuleCmd parts header apart = apart
still_apart H2cData parts header apart = apart

-- ---- the header grows

-- a header that grew by bytes of a piece, up to what was wanted, and its PDU in parts
pub record GrowsHeader (e : Expected) (old new : Parts) (p : List ℕ) (w n : ℕ) : Type 0 where
  pub held : IsHeld e old
  pub adds : Adds old.header new.header p (w - length old.header.items) n
  pub same : new ≡ record old { header = new.header }
  pub behind : length old.header.items < w → body_of old ≡ []
  pub few : w ≤ 128

module _ (e : Expected) (old new : Parts) (p : List ℕ) (w n : ℕ) (g : GrowsHeader e old new p w n) where
  fills : Fills w old.header.items new.header.items p n
  fills = record { count = g.adds.count; added = g.adds.added }

  body_same : body_of new ≡ body_of old
  body_same = ap body_of g.same

  pending_is : pending_of new ≡ new.header.items ++ body_of old
  pending_is = ap (λ (b : List ℕ). new.header.items ++ b) body_same

  pub most : n ≤ length p
  most = within w old.header.items new.header.items p n fills

  pub grown_length : length (pending_of new) ≡ length (pending_of old) + n
  grown_length =
      ap length pending_is ∙ pending_length w old.header.items new.header.items (body_of old) p n fills g.behind

  pub and_rest : pending_of new ++ drop n p ≡ pending_of old ++ p
  and_rest =
      ap (λ (x : List ℕ). x ++ drop n p) pending_is ∙ rest w old.header.items new.header.items (body_of old) p n fills g.behind

  pub grown_front : pending_of new ≡ take (length (pending_of old) + n) (pending_of old ++ p)
  grown_front = pending_is ∙ front w old.header.items new.header.items (body_of old) p n fills g.behind

  pub front_of_header : (k : ℕ) → k ≤ length new.header.items → take k (pending_of old ++ p) ≡ take k new.header.items
  front_of_header k long = header_front w old.header.items new.header.items (body_of old) p n fills g.behind k long

  pub left : length (drop n p) + n ≡ length p
  left = omega (arith, length-drop n p, most)

  -- either enough had come before, or nothing had come behind the header, which is now at most as long as was wanted
  pub cases : ((w ≤ length old.header.items) × (n ≡ 0) × (new.header.items ≡ old.header.items))
      ⊎ ((length old.header.items < w) × (length new.header.items ≤ w) × (body_of new ≡ []))
  cases =
      elim (stages w old.header.items new.header.items p n fills) [
        | inl same ↦ inl same
        | inr grown ↦ inr (grown.0, grown.1, body_same ∙ g.behind grown.0)
      ]

  pub grown_header : length new.header.items ≡ length old.header.items + n
  grown_header = new_length w old.header.items new.header.items p n fills

  -- what is held then, where what was wanted is no more than a header
  pub held_then : ((pdu : HostPdu) → 8 ≤ length new.header.items → length old.header.items < w
      → checked e.awaits (common_header_in (take 8 new.header.items)) ≡ Ok pdu → w ≤ header_bytes pdu) → IsHeld e new
  held_then in_header =
      let Q : Parts → Type 0 = λ parts. IsHeld e parts in
      subst Q (sym g.same) (record {
        room = record { header = omega (arith, g.held.room.header, g.adds.room); «data» = g.held.room.«data»; transfer = g.held.room.transfer };
        bounded = g.held.bounded;
        few = record {
          header = elim cases [
            | inl same ↦ omega (arith, ap length same.2, g.held.few.header)
            | inr grown ↦ omega (arith, grown.1, g.few)
          ];
          «data» = g.held.few.«data»;
          transfer = g.held.few.transfer;
        };
        short = λ short. g.held.short (omega (arith, short, grown_header));
        placed = λ pdu long passes.
            elim cases [
              | inl same ↦
                  (let before : IsPlaced pdu old =
                  g.held.placed pdu (omega (arith, long, ap length same.2))
                  (ap (λ (h : List ℕ). checked e.awaits (common_header_in (take 8 h))) (sym same.2) ∙ passes) in
                  record {
                    most = omega (arith, ap length same.2, before.most);
                    in_order = λ short. before.in_order (omega (arith, ap length same.2, short));
                    apart = still_apart pdu old new.header before.apart;
                  })
              | inr grown ↦
                  (let fits : w ≤ header_bytes pdu = in_header pdu long grown.0 passes in
                  record {
                    most = omega (arith, grown.1, fits);
                    in_order = λ short. g.behind grown.0;
                    apart = still_apart pdu old new.header (both_none e old (g.behind grown.0) pdu);
                  })
            ];
      })

  -- all of the piece is used up, where not enough comes
  pub far_header : length new.header.items < w → pending_of new ≡ pending_of old ++ p
  far_header short = pending_is ∙ all w old.header.items new.header.items (body_of old) p n fills g.behind short

  pub far_length : length new.header.items < w → length (pending_of old ++ p) ≡ length new.header.items
  far_length short = all_length w old.header.items new.header.items (body_of old) p n fills g.behind short

  pub long_enough : length new.header.items ≤ length (pending_of old ++ p)
  long_enough =
      omega (arith, ap length and_rest, length-append (pending_of new) (drop n p), ap length pending_is, length-append new.header.items (body_of old))

  -- it grew to what it has, less than what was wanted,
  pub less_grows : (wanted : Progress × ℕ) → IsHeld e new → length new.header.items < w → wanted ≡ (Partial, length (pending_of old ++ p))
      → Grows e old new p n Partial wanted
  less_grows wanted held short is =
      grows_to e old new p n (length (pending_of old ++ p)) Partial wanted held
      (omega (arith, ap length (far_header short), grown_length)) most
      (far_header short ∙ sym (take_all (length (pending_of old ++ p)) (pending_of old ++ p) (omega arith))) is

  -- or just to what was wanted, where a check fails
  pub fails_grows : (error : FatalError) (wanted : Progress × ℕ) → IsHeld e new → length new.header.items ≡ w → body_of new ≡ []
      → wanted ≡ (Failed error, w) → Grows e old new p n (Failed error) wanted
  fails_grows error wanted held whole none is =
      let long : length (pending_of old) + n ≡ w =
      omega (arith, grown_length, length-append new.header.items (body_of new), ap length none, whole) in
      grows_to e old new p n w (Failed error) wanted held long most
      (grown_front ∙ ap (λ (k : ℕ). take k (pending_of old ++ p)) long) is
