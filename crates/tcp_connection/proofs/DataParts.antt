-- What a PDU grows to behind its header.
use Rattle.std.proofs.Common.{◌≡◌, ℕ, ◌+◌, ◌-◌, ◌<◌, ◌≤◌, min, List, [], ◌++◌, length, take, None, Ok, Vec, vec_len, vec_capacity, refl, sym, ap, subst, ◌∙◌, append_assoc, append-nil, length-append, arith}
use Rattle.std.specs.declared.alloc.Global.{Global}
use Rattle.std.proofs.lemmas.List.{length-take}
use Rattle.std.proofs.Math.Seq.{take-append-add}
use Rattle.tcp_pdus.specs.declared.common_header.CommonHeader.{CommonHeader}
use Rattle.tcp_pdus.specs.declared.received.HostPdu.{HostPdu}
use Rattle.tcp_pdus.specs.declared.received.HostPdu.TheVariants.{IcReq, H2cTermReq, CapsuleCmd, H2cData}
use Rattle.tcp_pdus.specs.CommonHeader.{common_header_in}
use Rattle.tcp_pdus.specs.Received.{checked, header_bytes}
use Rattle.tcp_connection.specs.declared.expected.Expected.{Expected}
use Rattle.tcp_connection.specs.declared.expected.Progress.TheVariants.{Partial, Whole}
use Rattle.tcp_connection.specs.declared.parts.Parts.{Parts}
use Rattle.tcp_connection.specs.Reading.{behind_header}
use Rattle.tcp_connection.specs.steps.Parts.{Adds, AddsData, Grows, HasDataRoom, IsApart, IsHeld, IsPlaced, PassesHeader, body_of, pending_of}
use Rattle.tcp_connection.proofs.Growing.{grows_to}
use Rattle.tcp_connection.proofs.Lengths.{header_more, length_fits}
use Rattle.tcp_connection.proofs.Readings.{at_pdu, less_than_pdu}

same_pdu : (e : Expected) (h : CommonHeader) (pdu other : HostPdu) → checked e.awaits h ≡ Ok pdu → checked e.awaits h ≡ Ok other → pdu ≡ other
same_pdu e h pdu other first second = cc

placed_in : (e : Expected) (old : Parts) (common : CommonHeader) (pdu : HostPdu) → PassesHeader e old common pdu → IsPlaced pdu old
placed_in e old common pdu passes =
    passes.held.placed pdu (omega (arith, passes.long, header_more pdu)) (ap (checked e.awaits) (sym passes.is) ∙ passes.passes)

-- ---- there is room for what is missing

-- the lengths of the parts
pending_length : (parts : Parts)
    → length (pending_of parts) ≡ length parts.header.items + length parts.data.items + length parts.transfer.items
pending_length parts =
    omega (arith, length-append parts.header.items (body_of parts), length-append parts.data.items parts.transfer.items)

-- data that isn't an H2CData's
room_for : (e : Expected) (old : Parts) (common : CommonHeader) (pdu : HostPdu) (most : ℕ) → PassesHeader e old common pdu
    → old.transfer.items ≡ [] → common.pdu_length ≤ header_bytes pdu + most → most ≤ 8192
    → vec_len old.data + (common.pdu_length - length (pending_of old)) ≤ vec_capacity old.data
room_for e old common pdu most passes none few small =
    omega (arith, pending_length old, ap length none, passes.long, passes.most, few, small, passes.held.room.«data», old.data.ok.0)

pub room : (e : Expected) (old : Parts) (common : CommonHeader) (pdu : HostPdu) → PassesHeader e old common pdu
    → HasDataRoom pdu old (common.pdu_length - length (pending_of old))
room e old common IcReq passes =
    room_for e old common IcReq 0 passes (placed_in e old common IcReq passes).apart (omega (arith, (length_fits e.awaits common IcReq passes.passes).most)) (omega arith)
room e old common H2cTermReq passes =
    room_for e old common H2cTermReq 128 passes (placed_in e old common H2cTermReq passes).apart (omega (arith, (length_fits e.awaits common H2cTermReq passes.passes).most)) (omega arith)
room e old common CapsuleCmd passes =
    room_for e old common CapsuleCmd 8192 passes (placed_in e old common CapsuleCmd passes).apart
    (omega (arith, (length_fits e.awaits common CapsuleCmd passes.passes).most, passes.held.bounded)) (omega arith)
room e old common H2cData passes =
    let none = (placed_in e old common H2cData passes).apart in
    let few = (length_fits e.awaits common H2cData passes.passes).most in
    omega (arith, pending_length old, ap length none, passes.long, passes.most, few, passes.held.room.transfer, old.transfer.ok.0)

-- ---- data grows

-- what holds of data that grew
pub record GrewData (e : Expected) (old new : Parts) (p : List ℕ) (n : ℕ) : Type 0 where
  pub held : IsHeld e new
  pub pending : pending_of new ≡ pending_of old ++ take n p

module _ (e : Expected) (old : Parts) (common : CommonHeader) (pdu : HostPdu) (p : List ℕ) (missing n : ℕ) (passes : PassesHeader e old common pdu) where
  long_header : 8 ≤ length old.header.items
  long_header = omega (arith, passes.long, header_more pdu)

  -- the PDU is the only one that the header can be of
  placed_now : (new : Parts) → new.header.items ≡ old.header.items → IsApart pdu new → (other : HostPdu)
      → checked e.awaits (common_header_in (take 8 new.header.items)) ≡ Ok other → IsPlaced other new
  placed_now new same apart other found =
      let it : pdu ≡ other =
      same_pdu e common pdu other passes.passes (ap (checked e.awaits) (passes.is ∙ ap (λ (h : List ℕ). common_header_in (take 8 h)) (sym same)) ∙ found) in
      let P : HostPdu → Type 0 = λ q. IsPlaced q new in
      subst P it (record {
        most = omega (arith, ap length same, passes.long);
        in_order = λ short. absurd (omega (arith, ap length same, passes.long, short));
        apart = apart;
      })

  -- an H2CData's is added to what came of it,
  transfer_grew : (transfer : Vec ℕ Global) → Adds old.transfer transfer p missing n → IsApart pdu (record old { transfer = transfer })
      → length old.transfer.items + missing ≤ 131072 → GrewData e old (record old { transfer = transfer }) p n
  transfer_grew transfer adds apart few =
      let longer : length transfer.items ≡ length old.transfer.items + n =
      omega (arith, ap length adds.added, length-append old.transfer.items (take n p), length-take n p, adds.count) in
      record {
        held = record {
          room = record { header = passes.held.room.header; «data» = passes.held.room.«data»; transfer = omega (arith, passes.held.room.transfer, adds.room) };
          bounded = passes.held.bounded;
          few = record { header = passes.held.few.header; «data» = passes.held.few.«data»; transfer = omega (arith, longer, adds.count, few) };
          short = λ short. absurd (omega (arith, long_header, short));
          placed = λ other long found. placed_now (record old { transfer = transfer }) refl apart other found;
        };
        pending = ap (λ (x : List ℕ). old.header.items ++ (old.data.items ++ x)) adds.added
            ∙ ap (λ (x : List ℕ). old.header.items ++ x) (sym (append_assoc old.data.items old.transfer.items (take n p)))
            ∙ sym (append_assoc old.header.items (body_of old) (take n p));
      }

  -- and other data is
  data_grew : («data» : Vec ℕ Global) → Adds old.data «data» p missing n → IsApart pdu (record old { «data» = «data» })
      → old.transfer.items ≡ [] → length old.data.items + missing ≤ 8192 → GrewData e old (record old { «data» = «data» }) p n
  data_grew «data» adds apart none few =
      let longer : length «data».items ≡ length old.data.items + n =
      omega (arith, ap length adds.added, length-append old.data.items (take n p), length-take n p, adds.count) in
      let body_grew : «data».items ++ old.transfer.items ≡ body_of old ++ take n p =
      ap (λ (x : List ℕ). «data».items ++ x) none ∙ append-nil «data».items ∙ adds.added
      ∙ ap (λ (x : List ℕ). x ++ take n p) (sym (append-nil old.data.items) ∙ ap (λ (x : List ℕ). old.data.items ++ x) (sym none)) in
      record {
        held = record {
          room = record { header = passes.held.room.header; «data» = omega (arith, passes.held.room.«data», adds.room); transfer = passes.held.room.transfer };
          bounded = passes.held.bounded;
          few = record { header = passes.held.few.header; «data» = omega (arith, longer, adds.count, few); transfer = passes.held.few.transfer };
          short = λ short. absurd (omega (arith, long_header, short));
          placed = λ other long found. placed_now (record old { «data» = «data» }) refl apart other found;
        };
        pending = ap (λ (x : List ℕ). old.header.items ++ x) body_grew ∙ sym (append_assoc old.header.items (body_of old) (take n p));
      }

-- few enough bytes of data that isn't an H2CData's
few_for : (e : Expected) (old : Parts) (common : CommonHeader) (pdu : HostPdu) (most : ℕ) → PassesHeader e old common pdu
    → old.transfer.items ≡ [] → common.pdu_length ≤ header_bytes pdu + most → most ≤ 8192
    → length old.data.items + (common.pdu_length - length (pending_of old)) ≤ 8192
few_for e old common pdu most passes none few small =
    omega (arith, pending_length old, ap length none, passes.long, passes.most, few, small)

pub grew : (e : Expected) (old new : Parts) (common : CommonHeader) (pdu : HostPdu) (p : List ℕ) (n : ℕ) → PassesHeader e old common pdu
    → AddsData pdu old new p (common.pdu_length - length (pending_of old)) n → GrewData e old new p n
grew e old new common IcReq p n passes adds =
    let apart = (placed_in e old common IcReq passes).apart in
    let Q : Parts → Type 0 = λ parts. GrewData e old parts p n in
    subst Q (sym adds.1) (data_grew e old common IcReq p _ n passes new.data adds.0 apart apart
    (few_for e old common IcReq 0 passes apart (omega (arith, (length_fits e.awaits common IcReq passes.passes).most)) (omega arith)))
grew e old new common H2cTermReq p n passes adds =
    let apart = (placed_in e old common H2cTermReq passes).apart in
    let Q : Parts → Type 0 = λ parts. GrewData e old parts p n in
    subst Q (sym adds.1) (data_grew e old common H2cTermReq p _ n passes new.data adds.0 apart apart
    (few_for e old common H2cTermReq 128 passes apart (omega (arith, (length_fits e.awaits common H2cTermReq passes.passes).most)) (omega arith)))
grew e old new common CapsuleCmd p n passes adds =
    let apart = (placed_in e old common CapsuleCmd passes).apart in
    let Q : Parts → Type 0 = λ parts. GrewData e old parts p n in
    subst Q (sym adds.1) (data_grew e old common CapsuleCmd p _ n passes new.data adds.0 apart apart
    (few_for e old common CapsuleCmd 8192 passes apart
    (omega (arith, (length_fits e.awaits common CapsuleCmd passes.passes).most, passes.held.bounded)) (omega arith)))
grew e old new common H2cData p n passes adds =
    let apart = (placed_in e old common H2cData passes).apart in
    let few = (length_fits e.awaits common H2cData passes.passes).most in
    let Q : Parts → Type 0 = λ parts. GrewData e old parts p n in
    subst Q (sym adds.1) (transfer_grew e old common H2cData p _ n passes new.transfer adds.0 apart
    (omega (arith, pending_length old, ap length apart, passes.long, passes.most, few)))

-- how many were added
pub added_count : (old new : Parts) (pdu : HostPdu) (p : List ℕ) (missing n : ℕ) → AddsData pdu old new p missing n → n ≡ min missing (length p)
added_count old new IcReq p missing n adds = adds.0.count
added_count old new H2cTermReq p missing n adds = adds.0.count
added_count old new CapsuleCmd p missing n adds = adds.0.count
added_count old new H2cData p missing n adds = adds.0.count

module _ (e : Expected) (old new : Parts) (common : CommonHeader) (pdu : HostPdu) (p : List ℕ) (n : ℕ) (passes : PassesHeader e old common pdu)
    (adds : AddsData pdu old new p (common.pdu_length - length (pending_of old)) n) where
  count : n ≡ min (common.pdu_length - length (pending_of old)) (length p)
  count = added_count old new pdu p (common.pdu_length - length (pending_of old)) n adds

  all_long : length (pending_of old ++ p) ≡ length (pending_of old) + length p
  all_long = length-append (pending_of old) p

  is_front : take (length (pending_of old) + n) (pending_of old ++ p) ≡ pending_of old ++ take n p
  is_front = take-append-add (pending_of old) p n

  -- less than is missing
  pub less_grown : n < common.pdu_length - length (pending_of old)
      → Grows e old new p n Partial (behind_header pdu common (pending_of old ++ p) None)
  less_grown short =
      let g = grew e old new common pdu p n passes adds in
      let w : length (pending_of old) + n ≡ length (pending_of old ++ p) = omega (arith, count, short, all_long) in
      grows_to e old new p n (length (pending_of old ++ p)) Partial (behind_header pdu common (pending_of old ++ p) None) g.held
      w (omega (arith, count))
      (g.pending ∙ sym is_front ∙ ap (λ (k : ℕ). take k (pending_of old ++ p)) w)
      (less_than_pdu e (pending_of old ++ p) common pdu (omega (arith, w, short)))

  -- all that is missing
  pub whole_grown : common.pdu_length - length (pending_of old) ≤ n
      → Grows e old new p n (Whole pdu) (behind_header pdu common (pending_of old ++ p) None)
  whole_grown enough =
      let g = grew e old new common pdu p n passes adds in
      let w : length (pending_of old) + n ≡ common.pdu_length = omega (arith, count, enough, passes.most) in
      grows_to e old new p n common.pdu_length (Whole pdu) (behind_header pdu common (pending_of old ++ p) None) g.held
      w (omega (arith, count))
      (g.pending ∙ sym is_front ∙ ap (λ (k : ℕ). take k (pending_of old ++ p)) w)
      (at_pdu e (pending_of old ++ p) common pdu (omega (arith, w, all_long, count)))
