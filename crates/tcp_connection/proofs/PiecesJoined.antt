-- A receiver behind two pieces.
use Rattle.std.proofs.Common.{◌≡◌, ℕ, ◌+◌, ◌-◌, ◌≤◌, List, ◌++◌, length, take, inl, inr, refl, sym, ap, ◌∙◌, append_assoc, length-append, arith}
use Rattle.std.proofs.lemmas.Bool.{cases_lt}
use Rattle.std.proofs.lemmas.List.{take-append-le, take_all}
use Rattle.tcp_pdus.specs.Received.{header_bytes}
use Rattle.tcp_connection.specs.declared.expected.Expected.{Expected}
use Rattle.tcp_connection.specs.declared.expected.Progress.{Progress}
use Rattle.tcp_connection.specs.declared.expected.Progress.TheVariants.{Partial, Whole, Failed}
use Rattle.tcp_connection.specs.ReceiverLaws.{PiecesJoin}
use Rattle.tcp_connection.specs.Reading.{reading}
use Rattle.tcp_connection.specs.Receiving.{ReceiverState, taken_by}
use Rattle.tcp_connection.proofs.Comes.{Comes, bad_common, bad_header, comes, common_of, less, whole}
use Rattle.tcp_connection.proofs.Pieces.{settled, within}
use Rattle.tcp_connection.proofs.Readings.{no_failure, no_whole}

-- what a receiver that reads these bytes is behind what they come to
abbrev pub behind : Expected → List ℕ → Progress × ℕ → ReceiverState
behind e bytes r = record { expected = e; pending = take r.1 bytes; progress = r.0 }

same_pair : (s t : ReceiverState) (m n : ℕ) → s ≡ t → m ≡ n → ◌≡◌ {A = ReceiverState × ℕ} (s, m) (t, n)
same_pair s t m n same_state same_count = cc

module _ (e : Expected) (x a b : List ℕ) where
  all_is : x ++ (a ++ b) ≡ (x ++ a) ++ b
  all_is = sym (append_assoc x a b)

  front : take (length (x ++ a)) (x ++ (a ++ b)) ≡ take (length (x ++ a)) (x ++ a)
  front = ap (take (length (x ++ a))) all_is ∙ take-append-le (length (x ++ a)) (x ++ a) b (omega arith)

  longer : length (x ++ a) ≤ length (x ++ (a ++ b))
  longer = omega (arith, ap length all_is, length-append (x ++ a) b)

  -- what comes to something doesn't come to more,
  stays : ((n : ℕ) → reading e (x ++ a) ≡ (Partial, n) → ⊥) → reading e (x ++ (a ++ b)) ≡ reading e (x ++ a)
  stays more =
      settled e (x ++ a) (x ++ (a ++ b)) (length (x ++ a)) (omega arith) longer (sym front) (comes e (x ++ a)) more (within e (x ++ a) (comes e (x ++ a)))

  -- and what is behind it isn't read
  stays_behind : ((n : ℕ) → reading e (x ++ a) ≡ (Partial, n) → ⊥)
      → behind e (x ++ a) (reading e (x ++ a)) ≡ behind e (x ++ (a ++ b)) (reading e (x ++ (a ++ b)))
  stays_behind more =
      let inside = within e (x ++ a) (comes e (x ++ a)) in
      let bytes : take (reading e (x ++ a)).1 (x ++ a) ≡ take (reading e (x ++ a)).1 (x ++ (a ++ b)) =
      sym (ap (take (reading e (x ++ a)).1) all_is ∙ take-append-le (reading e (x ++ a)).1 (x ++ a) b inside) in
      ap (λ (taken : List ℕ). record { expected = e; pending = taken; progress = (reading e (x ++ a)).0 }) bytes
      ∙ ap (λ (r : Progress × ℕ). behind e (x ++ (a ++ b)) r) (sym (stays more))

  -- what comes to nothing yet is read whole, whatever comes behind it
  reads_on_to : reading e (x ++ a) ≡ (Partial, length (x ++ a)) → ((n : ℕ) → reading e (x ++ (a ++ b)) ≡ (Partial, n) → ⊥)
      → length (x ++ a) ≤ (reading e (x ++ (a ++ b))).1
  reads_on_to is more =
      elim (cases_lt (reading e (x ++ (a ++ b))).1 (length (x ++ a))) [
        | inl short ↦
            absurd (more (length (x ++ a))
            (sym (settled e (x ++ (a ++ b)) (x ++ a) (length (x ++ a)) longer (omega arith) front (comes e (x ++ (a ++ b))) more (omega (arith, short))) ∙ is))
        | inr enough ↦ enough
      ]

  reads_on : reading e (x ++ a) ≡ (Partial, length (x ++ a)) → Comes e (x ++ (a ++ b)) → length (x ++ a) ≤ (reading e (x ++ (a ++ b))).1
  reads_on is (less all) = omega (arith, longer, ap (λ (r : Progress × ℕ). r.1) all)
  reads_on is (bad_common error long fails all) = reads_on_to is (λ n partial. no_failure error 8 n (sym all ∙ partial))
  reads_on is (bad_header pdu error has fails all) = reads_on_to is (λ n partial. no_failure error (header_bytes pdu) n (sym all ∙ partial))
  reads_on is (whole pdu has passes enough all) =
      reads_on_to is (λ n partial. no_whole pdu (common_of (x ++ (a ++ b))).pdu_length n (sym all ∙ partial))

  -- what the second piece makes of what the first came to
  after : ReceiverState × ℕ
  after = taken_by (reading e (x ++ a)).0 (behind e (x ++ a) (reading e (x ++ a))) b

  Joins : Type 0
  Joins =
      ◌≡◌ {A = ReceiverState × ℕ} (after.0, ((reading e (x ++ a)).1 - length x) + after.1)
      (behind e (x ++ (a ++ b)) (reading e (x ++ (a ++ b))), (reading e (x ++ (a ++ b))).1 - length x)

  settles : (p : Progress) → (reading e (x ++ a)).0 ≡ p → taken_by p (behind e (x ++ a) (reading e (x ++ a))) b ≡ (behind e (x ++ a) (reading e (x ++ a)), 0)
      → ((n : ℕ) → reading e (x ++ a) ≡ (Partial, n) → ⊥) → Joins
  unfolding after Joins
  settles p is none more =
      let same : after ≡ (behind e (x ++ a) (reading e (x ++ a)), 0) =
      ap (λ (q : Progress). taken_by q (behind e (x ++ a) (reading e (x ++ a))) b) is ∙ none in
      same_pair _ _ _ _ (ap (λ (t : ReceiverState × ℕ). t.0) same ∙ stays_behind more)
      (omega (arith, ap (λ (t : ReceiverState × ℕ). t.1) same, ap (λ (r : Progress × ℕ). r.1) (stays more)))

  goes_on : Comes e (x ++ a) → Joins
  unfolding after Joins
  goes_on (less is) =
      let same : after ≡ taken_by Partial (record { expected = e; pending = x ++ a; progress = Partial }) b =
      ap (λ (r : Progress × ℕ). taken_by r.0 (behind e (x ++ a) r) b) is
      ∙ ap (λ (bytes : List ℕ). taken_by Partial (record { expected = e; pending = bytes; progress = Partial }) b)
      (take_all (length (x ++ a)) (x ++ a) (omega arith)) in
      same_pair _ _ _ _
      (ap (λ (t : ReceiverState × ℕ). t.0) same ∙ ap (λ (bytes : List ℕ). behind e bytes (reading e bytes)) (append_assoc x a b))
      (omega (
        arith,
        ap (λ (t : ReceiverState × ℕ). t.1) same,
        ap (λ (bytes : List ℕ). (reading e bytes).1) (append_assoc x a b),
        ap (λ (r : Progress × ℕ). r.1) is,
        length-append x a,
        reads_on is (comes e (x ++ (a ++ b))),
      ))
  goes_on (bad_common error long fails is) =
      settles (Failed error) (ap (λ (r : Progress × ℕ). r.0) is) refl (λ n partial. no_failure error 8 n (sym is ∙ partial))
  goes_on (bad_header pdu error has fails is) =
      settles (Failed error) (ap (λ (r : Progress × ℕ). r.0) is) refl (λ n partial. no_failure error (header_bytes pdu) n (sym is ∙ partial))
  goes_on (whole pdu has passes all is) =
      settles (Whole pdu) (ap (λ (r : Progress × ℕ). r.0) is) refl (λ n partial. no_whole pdu (common_of (x ++ a)).pdu_length n (sym is ∙ partial))

-- by what had come before
joined : (e : Expected) (x : List ℕ) (p : Progress) (a b : List ℕ)
    → let s : ReceiverState = record { expected = e; pending = x; progress = p } in
    let one = taken_by p s a in
    let two = taken_by one.0.progress one.0 b in (two.0, one.1 + two.1) ≡ taken_by p s (a ++ b)
unfolding after Joins
joined e x Partial a b = goes_on e x a b (comes e (x ++ a))
joined e x (Whole pdu) a b = refl
joined e x (Failed error) a b = refl

pub pieces_join : PiecesJoin
pieces_join = λ s first second. joined s.expected s.pending s.progress first second
