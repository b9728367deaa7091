-- Headers: which bytes they may have, and of which request they are.
use Rattle.std.proofs.Common.{◌≡◌, ℕ, zero, suc, ◌+◌, ◌/◌, ◌%◌, ◌^◌, ◌<◌, ◌≤◌, ◌==◌, cond, Bool, true, false, List, [], ◌∷◌, ◌++◌, length, drop, replicate, refl, sym, ap, subst, ◌∙◌, append_assoc, inl, inr, ◌⊎◌, lit<, lit≤, arith}
use Rattle.std.proofs.lemmas.Bool.{eqb-false, eqb-true}
use Rattle.std.proofs.lemmas.List.{nil_from_length}
use Rattle.byteorder.specs.Endian.{little_bytes, little_number}
use Rattle.common_definitions.specs.Bytes.{AreBytes}
use Rattle.common_definitions.proofs.Proved.{bytes_from, bytes_to, front_spelled}
use Rattle.zone_state.specs.declared.state.FaultState.TheVariants.{ReadOnly, Offline}
use Rattle.event_frames.specs.Requests.{Fits, ToldRequest, Submitted, Turned, Faulted, Drained, Saved}
use Rattle.event_frames.specs.Frames.{header, request_frame, request_header, state_number}
use Rattle.event_frames.specs.Streams.{IsAllowed, IsHeader}
use Rattle.event_frames.specs.steps.Held.{entry_bytes, input_bytes, request_in, state_numbered}

-- what holds at each of 16 places
pub each_place : (P : ℕ → Type 0) → P 0 → P 1 → P 2 → P 3 → P 4 → P 5 → P 6 → P 7 → P 8 → P 9 → P 10 → P 11 → P 12 → P 13 → P 14 → P 15 → (k : ℕ) → k < 16 → P k
each_place P p0 p1 p2 p3 p4 p5 p6 p7 p8 p9 p10 p11 p12 p13 p14 p15 zero lt = p0
each_place P p0 p1 p2 p3 p4 p5 p6 p7 p8 p9 p10 p11 p12 p13 p14 p15 (suc zero) lt = p1
each_place P p0 p1 p2 p3 p4 p5 p6 p7 p8 p9 p10 p11 p12 p13 p14 p15 (suc (suc zero)) lt = p2
each_place P p0 p1 p2 p3 p4 p5 p6 p7 p8 p9 p10 p11 p12 p13 p14 p15 (suc (suc (suc zero))) lt = p3
each_place P p0 p1 p2 p3 p4 p5 p6 p7 p8 p9 p10 p11 p12 p13 p14 p15 (suc (suc (suc (suc zero)))) lt = p4
each_place P p0 p1 p2 p3 p4 p5 p6 p7 p8 p9 p10 p11 p12 p13 p14 p15 (suc (suc (suc (suc (suc zero))))) lt = p5
each_place P p0 p1 p2 p3 p4 p5 p6 p7 p8 p9 p10 p11 p12 p13 p14 p15 (suc (suc (suc (suc (suc (suc zero)))))) lt = p6
each_place P p0 p1 p2 p3 p4 p5 p6 p7 p8 p9 p10 p11 p12 p13 p14 p15 (suc (suc (suc (suc (suc (suc (suc zero))))))) lt = p7
each_place P p0 p1 p2 p3 p4 p5 p6 p7 p8 p9 p10 p11 p12 p13 p14 p15 (suc (suc (suc (suc (suc (suc (suc (suc zero)))))))) lt = p8
each_place P p0 p1 p2 p3 p4 p5 p6 p7 p8 p9 p10 p11 p12 p13 p14 p15 (suc (suc (suc (suc (suc (suc (suc (suc (suc zero))))))))) lt = p9
each_place P p0 p1 p2 p3 p4 p5 p6 p7 p8 p9 p10 p11 p12 p13 p14 p15 (suc (suc (suc (suc (suc (suc (suc (suc (suc (suc zero)))))))))) lt = p10
each_place P p0 p1 p2 p3 p4 p5 p6 p7 p8 p9 p10 p11 p12 p13 p14 p15 (suc (suc (suc (suc (suc (suc (suc (suc (suc (suc (suc zero))))))))))) lt = p11
each_place P p0 p1 p2 p3 p4 p5 p6 p7 p8 p9 p10 p11 p12 p13 p14 p15 (suc (suc (suc (suc (suc (suc (suc (suc (suc (suc (suc (suc zero)))))))))))) lt = p12
each_place P p0 p1 p2 p3 p4 p5 p6 p7 p8 p9 p10 p11 p12 p13 p14 p15 (suc (suc (suc (suc (suc (suc (suc (suc (suc (suc (suc (suc (suc zero))))))))))))) lt = p13
each_place P p0 p1 p2 p3 p4 p5 p6 p7 p8 p9 p10 p11 p12 p13 p14 p15 (suc (suc (suc (suc (suc (suc (suc (suc (suc (suc (suc (suc (suc (suc zero)))))))))))))) lt = p14
each_place P p0 p1 p2 p3 p4 p5 p6 p7 p8 p9 p10 p11 p12 p13 p14 p15 (suc (suc (suc (suc (suc (suc (suc (suc (suc (suc (suc (suc (suc (suc (suc zero))))))))))))))) lt = p15
each_place P p0 p1 p2 p3 p4 p5 p6 p7 p8 p9 p10 p11 p12 p13 p14 p15 (suc (suc (suc (suc (suc (suc (suc (suc (suc (suc (suc (suc (suc (suc (suc (suc k)))))))))))))))) lt = absurd (omega (arith, lt))

-- a list of 16 bytes, one after another
pub sixteen : (P : List ℕ → Type 0) → ((b0 b1 b2 b3 b4 b5 b6 b7 b8 b9 b10 b11 b12 b13 b14 b15 : ℕ) → P (b0 ∷ b1 ∷ b2 ∷ b3 ∷ b4 ∷ b5 ∷ b6 ∷ b7 ∷ b8 ∷ b9 ∷ b10 ∷ b11 ∷ b12 ∷ b13 ∷ b14 ∷ b15 ∷ [])) → (h : List ℕ) → length h ≡ 16 → P h
sixteen P f (b0 ∷ b1 ∷ b2 ∷ b3 ∷ b4 ∷ b5 ∷ b6 ∷ b7 ∷ b8 ∷ b9 ∷ b10 ∷ b11 ∷ b12 ∷ b13 ∷ b14 ∷ b15 ∷ []) long = f b0 b1 b2 b3 b4 b5 b6 b7 b8 b9 b10 b11 b12 b13 b14 b15
sixteen P f _ long = absurd (omega (arith, long))

-- equal fields make equal headers
same_header : (kind part part' queue queue' number number' size size' : ℕ) → part ≡ part' → queue ≡ queue' → number ≡ number' → size ≡ size'
    → header kind part queue number size ≡ header kind part' queue' number' size'
same_header kind part part' queue queue' number number' size size' a b c d =
    ap (λ (x : ℕ). header kind x queue number size) a ∙ ap (λ (x : ℕ). header kind part' x number size) b
    ∙ ap (λ (x : ℕ). header kind part' queue' x size) c ∙ ap (λ (x : ℕ). header kind part' queue' number' x) d

-- the third byte of a length, behind two with a sum
third : (none : Bool) (b : ℕ) → b ≤ cond none 2 1 → (b ≤ 1) ⊎ ((none ≡ true) × (b ≤ 2))
third true b few = inr (refl, few)
third false b few = inl few

-- a number of a state is that of the state that it stands for
numbered_again : (number : ℕ) → 1 ≤ number → number ≤ 2 → state_number (state_numbered number) ≡ number
numbered_again zero least most = absurd (omega (arith, least))
numbered_again (suc zero) least most = refl
numbered_again (suc (suc zero)) least most = refl
numbered_again (suc (suc (suc n))) least most = absurd (omega (arith, most))

-- the parts of a frame are that of the request that they are of
pub record AreFrameOf (head entry input : List ℕ) (r : ToldRequest) : Type 0 where
  pub frame : request_frame r ≡ head ++ entry ++ input
  pub fits : Fits r

module _ (b1 b2 b3 b4 b5 b6 b7 b8 b9 b10 b11 b12 b13 b14 b15 : ℕ) where
  abbrev cells : ℕ → List ℕ
  cells kind = kind ∷ b1 ∷ b2 ∷ b3 ∷ b4 ∷ b5 ∷ b6 ∷ b7 ∷ b8 ∷ b9 ∷ b10 ∷ b11 ∷ b12 ∷ b13 ∷ b14 ∷ b15 ∷ []

  abbrev queue_in : ℕ
  queue_in = little_number 2 (b2 ∷ b3 ∷ [])

  abbrev number_in : ℕ
  number_in = little_number 4 (b4 ∷ b5 ∷ b6 ∷ b7 ∷ [])

  abbrev size_in : ℕ
  size_in = little_number 4 (b8 ∷ b9 ∷ b10 ∷ b11 ∷ [])

  -- bytes spell the header of the fields in them
  spelled : (kind : ℕ) → AreBytes (cells kind) → b12 ≡ 0 → b13 ≡ 0 → b14 ≡ 0 → b15 ≡ 0 → header kind b1 queue_in number_in size_in ≡ cells kind
  spelled kind are z12 z13 z14 z15 =
      let queue = front_spelled 2 (b2 ∷ b3 ∷ []) (lit≤ tt) (bytes_to 2 (drop 2 (cells kind)) (bytes_from 2 (cells kind) are)) in
      let number = front_spelled 4 (b4 ∷ b5 ∷ b6 ∷ b7 ∷ []) (lit≤ tt) (bytes_to 4 (drop 4 (cells kind)) (bytes_from 4 (cells kind) are)) in
      let size = front_spelled 4 (b8 ∷ b9 ∷ b10 ∷ b11 ∷ []) (lit≤ tt) (bytes_to 4 (drop 8 (cells kind)) (bytes_from 8 (cells kind) are)) in
      ap (λ (q : List ℕ). kind ∷ b1 ∷ (q ++ little_bytes 4 number_in ++ little_bytes 4 size_in ++ replicate 4 0)) queue
      ∙ ap (λ (n : List ℕ). kind ∷ b1 ∷ b2 ∷ b3 ∷ (n ++ little_bytes 4 size_in ++ replicate 4 0)) number
      ∙ ap (λ (s : List ℕ). kind ∷ b1 ∷ b2 ∷ b3 ∷ b4 ∷ b5 ∷ b6 ∷ b7 ∷ (s ++ replicate 4 0)) size
      ∙ rw (z12, z13, z14, z15) refl

  -- a byte that may only be 0
  none : (b : ℕ) → b ≤ 0 → b ≡ 0
  none b few = omega (arith, few)

  submission : IsHeader (cells 1) → AreBytes (cells 1) → (entry input : List ℕ) → length entry ≡ 64 → length input ≡ size_in
      → AreFrameOf (cells 1) entry input (Submitted queue_in entry input)
  submission right are entry input whole all =
      let z1 = (none b1 (right 1 (lit< tt)).most) in
      let no_number : 0 ≡ number_in = omega (arith, (right 4 (lit< tt)).most, (right 5 (lit< tt)).most, (right 6 (lit< tt)).most, (right 7 (lit< tt)).most) in
      let same = same_header 1 0 b1 queue_in queue_in 0 number_in (length input) size_in (sym z1) refl no_number all ∙ spelled 1 are (none b12 (right 12 (lit< tt)).most) (none b13 (right 13 (lit< tt)).most) (none b14 (right 14 (lit< tt)).most) (none b15 (right 15 (lit< tt)).most) in
      let low : b10 ≤ cond (b8 + b9 == 0) 2 1 = (right 10 (lit< tt)).most in
      let high : b11 ≤ 0 = (right 11 (lit< tt)).most in
      let few : size_in ≤ 131072 =
      elim (third (b8 + b9 == 0) b10 low) [
        | inl one ↦ omega (arith, one, high, are 8, are 9)
        | inr two ↦ (let none = eqb-true (b8 + b9) 0 two.0 in omega (arith, none, two.1, high, are 8, are 9))
      ] in
      record {
        frame = ap (λ (h : List ℕ). h ++ (entry ++ input)) same ∙ sym (append_assoc (cells 1) entry input);
        fits = (omega (arith, are 2, are 3), whole, omega (arith, few, all));
      }

  -- nothing goes with it
  regroup : (head : List ℕ) → head ++ [] ≡ head ++ [] ++ []
  regroup head = sym (append_assoc head [] [])

  turn : IsHeader (cells 2) → AreBytes (cells 2) → AreFrameOf (cells 2) [] [] (Turned b1)
  turn right are =
      let no_queue : 0 ≡ queue_in = omega (arith, (right 2 (lit< tt)).most, (right 3 (lit< tt)).most) in
      let no_size : 0 ≡ size_in = omega (arith, (right 8 (lit< tt)).most, (right 9 (lit< tt)).most, (right 10 (lit< tt)).most, (right 11 (lit< tt)).most) in
      record {
        frame = ap (λ (h : List ℕ). h ++ []) (same_header 2 b1 b1 0 queue_in 0 number_in 0 size_in refl no_queue (omega (arith, (right 4 (lit< tt)).most, (right 5 (lit< tt)).most, (right 6 (lit< tt)).most, (right 7 (lit< tt)).most)) no_size ∙ spelled 2 are (none b12 (right 12 (lit< tt)).most) (none b13 (right 13 (lit< tt)).most) (none b14 (right 14 (lit< tt)).most) (none b15 (right 15 (lit< tt)).most)) ∙ regroup (cells 2);
        fits = are 1;
      }

  fault : IsHeader (cells 3) → AreBytes (cells 3) → AreFrameOf (cells 3) [] [] (Faulted number_in (state_numbered b1))
  fault right are =
      let no_queue : 0 ≡ queue_in = omega (arith, (right 2 (lit< tt)).most, (right 3 (lit< tt)).most) in
      let no_size : 0 ≡ size_in = omega (arith, (right 8 (lit< tt)).most, (right 9 (lit< tt)).most, (right 10 (lit< tt)).most, (right 11 (lit< tt)).most) in
      record {
        frame = ap (λ (h : List ℕ). h ++ []) (same_header 3 (state_number (state_numbered b1)) b1 0 queue_in number_in number_in 0 size_in (numbered_again b1 (right 1 (lit< tt)).least (right 1 (lit< tt)).most) no_queue refl no_size ∙ spelled 3 are (none b12 (right 12 (lit< tt)).most) (none b13 (right 13 (lit< tt)).most) (none b14 (right 14 (lit< tt)).most) (none b15 (right 15 (lit< tt)).most)) ∙ regroup (cells 3);
        fits = omega (arith, are 4, are 5, are 6, are 7);
      }

  drain : IsHeader (cells 4) → AreBytes (cells 4) → AreFrameOf (cells 4) [] [] (Drained number_in)
  drain right are =
      let no_queue : 0 ≡ queue_in = omega (arith, (right 2 (lit< tt)).most, (right 3 (lit< tt)).most) in
      let no_size : 0 ≡ size_in = omega (arith, (right 8 (lit< tt)).most, (right 9 (lit< tt)).most, (right 10 (lit< tt)).most, (right 11 (lit< tt)).most) in
      record {
        frame = ap (λ (h : List ℕ). h ++ []) (same_header 4 0 b1 0 queue_in number_in number_in 0 size_in (sym (none b1 (right 1 (lit< tt)).most)) no_queue refl no_size ∙ spelled 4 are (none b12 (right 12 (lit< tt)).most) (none b13 (right 13 (lit< tt)).most) (none b14 (right 14 (lit< tt)).most) (none b15 (right 15 (lit< tt)).most)) ∙ regroup (cells 4);
        fits = omega (arith, are 4, are 5, are 6, are 7);
      }

  save : IsHeader (cells 5) → AreBytes (cells 5) → AreFrameOf (cells 5) [] [] (Saved)
  save right are =
      let no_queue : 0 ≡ queue_in = omega (arith, (right 2 (lit< tt)).most, (right 3 (lit< tt)).most) in
      let no_size : 0 ≡ size_in = omega (arith, (right 8 (lit< tt)).most, (right 9 (lit< tt)).most, (right 10 (lit< tt)).most, (right 11 (lit< tt)).most) in
      record {
        frame = ap (λ (h : List ℕ). h ++ []) (same_header 5 0 b1 0 queue_in 0 number_in 0 size_in (sym (none b1 (right 1 (lit< tt)).most)) no_queue (omega (arith, (right 4 (lit< tt)).most, (right 5 (lit< tt)).most, (right 6 (lit< tt)).most, (right 7 (lit< tt)).most)) no_size ∙ spelled 5 are (none b12 (right 12 (lit< tt)).most) (none b13 (right 13 (lit< tt)).most) (none b14 (right 14 (lit< tt)).most) (none b15 (right 15 (lit< tt)).most)) ∙ regroup (cells 5);
        fits = tt;
      }

  -- nothing goes with the header of another request than a submission
  alone : (kind : ℕ) (r : ToldRequest) (entry input : List ℕ) → length entry ≡ 0 → length input ≡ 0 → AreFrameOf (cells kind) [] [] r → AreFrameOf (cells kind) entry input r
  alone kind r entry input none_there nor_there frame =
      subst (λ (e : List ℕ). AreFrameOf (cells kind) e input r) (sym (nil_from_length entry none_there))
      (subst (λ (i : List ℕ). AreFrameOf (cells kind) [] i r) (sym (nil_from_length input nor_there)) frame)

  by_kind : (kind : ℕ) → IsHeader (cells kind) → AreBytes (cells kind) → (entry input : List ℕ) → length entry ≡ entry_bytes (cells kind)
      → length input ≡ input_bytes (cells kind) → AreFrameOf (cells kind) entry input (request_in (cells kind) entry input)
  by_kind zero right are entry input e i = absurd (omega (arith, (right 0 (lit< tt)).least))
  by_kind (suc zero) right are entry input e i = submission right are entry input e i
  by_kind (suc (suc zero)) right are entry input e i = alone 2 (Turned b1) entry input e i (turn right are)
  by_kind (suc (suc (suc zero))) right are entry input e i = alone 3 (Faulted number_in (state_numbered b1)) entry input e i (fault right are)
  by_kind (suc (suc (suc (suc zero)))) right are entry input e i = alone 4 (Drained number_in) entry input e i (drain right are)
  by_kind (suc (suc (suc (suc (suc zero))))) right are entry input e i = alone 5 Saved entry input e i (save right are)
  by_kind (suc (suc (suc (suc (suc (suc n)))))) right are entry input e i = absurd (omega (arith, (right 0 (lit< tt)).most))

-- a header that is right, with as many bytes as go with it, is the frame of the request in it
pub is_frame : (head entry input : List ℕ) → length head ≡ 16 → IsHeader head → AreBytes head → length entry ≡ entry_bytes head → length input ≡ input_bytes head
    → AreFrameOf head entry input (request_in head entry input)
is_frame head entry input long =
    sixteen (λ (h : List ℕ). IsHeader h → AreBytes h → length entry ≡ entry_bytes h → length input ≡ input_bytes h → AreFrameOf h entry input (request_in h entry input))
    (λ b0 b1 b2 b3 b4 b5 b6 b7 b8 b9 b10 b11 b12 b13 b14 b15 right are e i. by_kind b1 b2 b3 b4 b5 b6 b7 b8 b9 b10 b11 b12 b13 b14 b15 b0 right are entry input e i) head long

-- ---- the headers of requests

-- the third byte of the length of as much data as a command moves
third_of : (n : ℕ) (none : Bool) → (n % 256 + n / 256 % 256 == 0) ≡ none → n ≤ 131072 → n / 65536 % 256 ≤ cond none 2 1
third_of n true e few = omega (arith, few)
third_of n false e few =
    let some : n % 256 + n / 256 % 256 ≡ 0 → ⊥ = eqb-false (n % 256 + n / 256 % 256) 0 e in
    elim (small (n / 65536 % 256) (omega (arith, few))) [
      | inl one ↦ one
      | inr two ↦ absurd (some (omega (arith, few, two)))
    ]
  where
    small : (b : ℕ) → b ≤ 2 → (b ≤ 1) ⊎ (b ≡ 2)
    small zero few = inl (omega arith)
    small (suc zero) few = inl (omega arith)
    small (suc (suc zero)) few = inr refl
    small (suc (suc (suc b))) few = absurd (omega (arith, few))

submission_right : (queue : ℕ) (entry input : List ℕ) → length input ≤ 131072 → IsHeader (request_header (Submitted queue entry input))
submission_right queue entry input few = each_place (IsAllowed (request_header (Submitted queue entry input)))
    (record { least = omega arith; most = omega arith })
    (record { least = omega arith; most = omega arith })
    (record { least = omega arith; most = omega arith })
    (record { least = omega arith; most = omega arith })
    (record { least = omega arith; most = omega arith })
    (record { least = omega arith; most = omega arith })
    (record { least = omega arith; most = omega arith })
    (record { least = omega arith; most = omega arith })
    (record { least = omega arith; most = omega arith })
    (record { least = omega arith; most = omega arith })
    (record { least = omega arith; most = third_of (length input) _ refl few })
    (record { least = omega arith; most = omega (arith, few) })
    (record { least = omega arith; most = omega arith })
    (record { least = omega arith; most = omega arith })
    (record { least = omega arith; most = omega arith })
    (record { least = omega arith; most = omega arith })

turn_right : (run : ℕ) → run < 2 ^ 8 → IsHeader (request_header (Turned run))
turn_right run fits = each_place (IsAllowed (request_header (Turned run)))
    (record { least = omega arith; most = omega arith })
    (record { least = omega arith; most = omega (arith, fits) })
    (record { least = omega arith; most = omega arith })
    (record { least = omega arith; most = omega arith })
    (record { least = omega arith; most = omega arith })
    (record { least = omega arith; most = omega arith })
    (record { least = omega arith; most = omega arith })
    (record { least = omega arith; most = omega arith })
    (record { least = omega arith; most = omega arith })
    (record { least = omega arith; most = omega arith })
    (record { least = omega arith; most = omega arith })
    (record { least = omega arith; most = omega arith })
    (record { least = omega arith; most = omega arith })
    (record { least = omega arith; most = omega arith })
    (record { least = omega arith; most = omega arith })
    (record { least = omega arith; most = omega arith })

read_only_right : (zone : ℕ) → IsHeader (request_header (Faulted zone ReadOnly))
read_only_right zone = each_place (IsAllowed (request_header (Faulted zone ReadOnly)))
    (record { least = omega arith; most = omega arith })
    (record { least = omega arith; most = omega arith })
    (record { least = omega arith; most = omega arith })
    (record { least = omega arith; most = omega arith })
    (record { least = omega arith; most = omega arith })
    (record { least = omega arith; most = omega arith })
    (record { least = omega arith; most = omega arith })
    (record { least = omega arith; most = omega arith })
    (record { least = omega arith; most = omega arith })
    (record { least = omega arith; most = omega arith })
    (record { least = omega arith; most = omega arith })
    (record { least = omega arith; most = omega arith })
    (record { least = omega arith; most = omega arith })
    (record { least = omega arith; most = omega arith })
    (record { least = omega arith; most = omega arith })
    (record { least = omega arith; most = omega arith })

offline_right : (zone : ℕ) → IsHeader (request_header (Faulted zone Offline))
offline_right zone = each_place (IsAllowed (request_header (Faulted zone Offline)))
    (record { least = omega arith; most = omega arith })
    (record { least = omega arith; most = omega arith })
    (record { least = omega arith; most = omega arith })
    (record { least = omega arith; most = omega arith })
    (record { least = omega arith; most = omega arith })
    (record { least = omega arith; most = omega arith })
    (record { least = omega arith; most = omega arith })
    (record { least = omega arith; most = omega arith })
    (record { least = omega arith; most = omega arith })
    (record { least = omega arith; most = omega arith })
    (record { least = omega arith; most = omega arith })
    (record { least = omega arith; most = omega arith })
    (record { least = omega arith; most = omega arith })
    (record { least = omega arith; most = omega arith })
    (record { least = omega arith; most = omega arith })
    (record { least = omega arith; most = omega arith })

drain_right : (turns : ℕ) → IsHeader (request_header (Drained turns))
drain_right turns = each_place (IsAllowed (request_header (Drained turns)))
    (record { least = omega arith; most = omega arith })
    (record { least = omega arith; most = omega arith })
    (record { least = omega arith; most = omega arith })
    (record { least = omega arith; most = omega arith })
    (record { least = omega arith; most = omega arith })
    (record { least = omega arith; most = omega arith })
    (record { least = omega arith; most = omega arith })
    (record { least = omega arith; most = omega arith })
    (record { least = omega arith; most = omega arith })
    (record { least = omega arith; most = omega arith })
    (record { least = omega arith; most = omega arith })
    (record { least = omega arith; most = omega arith })
    (record { least = omega arith; most = omega arith })
    (record { least = omega arith; most = omega arith })
    (record { least = omega arith; most = omega arith })
    (record { least = omega arith; most = omega arith })

save_right : (unit : Unit {0}) → IsHeader (request_header (Saved))
save_right unit = each_place (IsAllowed (request_header (Saved)))
    (record { least = omega arith; most = omega arith })
    (record { least = omega arith; most = omega arith })
    (record { least = omega arith; most = omega arith })
    (record { least = omega arith; most = omega arith })
    (record { least = omega arith; most = omega arith })
    (record { least = omega arith; most = omega arith })
    (record { least = omega arith; most = omega arith })
    (record { least = omega arith; most = omega arith })
    (record { least = omega arith; most = omega arith })
    (record { least = omega arith; most = omega arith })
    (record { least = omega arith; most = omega arith })
    (record { least = omega arith; most = omega arith })
    (record { least = omega arith; most = omega arith })
    (record { least = omega arith; most = omega arith })
    (record { least = omega arith; most = omega arith })
    (record { least = omega arith; most = omega arith })

-- each byte of a request's header may stand where it does
pub is_right : (r : ToldRequest) → Fits r → IsHeader (request_header r)
is_right (Submitted queue entry input) fits = submission_right queue entry input fits.2
is_right (Turned run) fits = turn_right run fits
is_right (Faulted zone ReadOnly) fits = read_only_right zone
is_right (Faulted zone Offline) fits = offline_right zone
is_right (Drained turns) fits = drain_right turns
is_right Saved fits = save_right tt
