-- What is read of a stream doesn't depend on how it is cut.
use Rattle.std.proofs.Common.{◌≡◌, ℕ, ◌≤◌, List, length, take, drop, Ok, sym, ap, ◌∙◌, arith}
use Rattle.std.proofs.lemmas.List.{length-take-le, take-append-drop, take-append-le, take_all}
use Rattle.tcp_pdus.specs.declared.received.HostPdu.{HostPdu}
use Rattle.tcp_pdus.specs.CommonHeader.{common_header_in}
use Rattle.tcp_pdus.specs.Received.{checked, header_bytes}
use Rattle.tcp_connection.specs.declared.expected.Expected.{Expected}
use Rattle.tcp_connection.specs.declared.expected.Progress.{Progress}
use Rattle.tcp_connection.specs.declared.expected.Progress.TheVariants.{Partial}
use Rattle.tcp_connection.specs.Reading.{behind_common, behind_header, header_error, reading}
use Rattle.tcp_connection.proofs.Comes.{Comes, bad_common, bad_header, comes, common_of, header_within, less, whole}
use Rattle.tcp_connection.proofs.Lengths.{header_more}
use Rattle.tcp_connection.proofs.Readings.{at_common, at_header, at_pdu, no_failure, no_whole}

-- a front of a front
front_of : (n k : ℕ) (xs : List ℕ) → n ≤ k → k ≤ length xs → take n xs ≡ take n (take k xs)
front_of n k xs small inside =
    ap (take n) (sym (take-append-drop k xs)) ∙ take-append-le n (take k xs) (drop k xs) (omega (arith, length-take-le k xs inside, small))

-- two lists of bytes with the same front, as long as what is read of the first
module _ (e : Expected) (x y : List ℕ) (k : ℕ) (in_x : k ≤ length x) (in_y : k ≤ length y) (agree : take k x ≡ take k y) where
  same_front : (n : ℕ) → n ≤ k → take n y ≡ take n x
  same_front n within = front_of n k y within in_y ∙ ap (take n) (sym agree) ∙ sym (front_of n k x within in_x)

  same_common : 8 ≤ k → common_header_in (take 8 y) ≡ common_of x
  same_common long = ap common_header_in (same_front 8 long)

  same_header : (pdu : HostPdu) → checked e.awaits (common_of x) ≡ Ok pdu → header_bytes pdu ≤ k
      → reading e y ≡ behind_header pdu (common_of x) y (header_error e (common_of x) pdu (take (header_bytes pdu) x))
  same_header pdu passes long =
      at_common e y (common_of x) (omega (arith, header_more pdu, long, in_y)) (same_common (omega (arith, header_more pdu, long)))
      ∙ ap (behind_common e (common_of x) y) passes
      ∙ at_header e y (common_of x) pdu (take (header_bytes pdu) x) (omega (arith, long, in_y)) (same_front (header_bytes pdu) long)

  -- come to the same, where that is a whole PDU or a fault
  pub settled : Comes e x → ((n : ℕ) → reading e x ≡ (Partial, n) → ⊥) → (reading e x).1 ≤ k → reading e y ≡ reading e x
  settled (less is) more within = absurd (more (length x) is)
  settled (bad_common error long fails is) more within =
      at_common e y (common_of x) (omega (arith, in_y, ap (λ (r : Progress × ℕ). r.1) is, within))
      (same_common (omega (arith, ap (λ (r : Progress × ℕ). r.1) is, within)))
      ∙ ap (behind_common e (common_of x) y) fails ∙ sym is
  settled (bad_header pdu error has fails is) more within =
      same_header pdu has.passes (omega (arith, ap (λ (r : Progress × ℕ). r.1) is, within))
      ∙ ap (behind_header pdu (common_of x) y) fails ∙ sym is
  settled (whole pdu has passes all is) more within =
      let long : (common_of x).pdu_length ≤ k = omega (arith, ap (λ (r : Progress × ℕ). r.1) is, within) in
      same_header pdu has.passes (omega (arith, long, header_within e x pdu has.passes))
      ∙ ap (behind_header pdu (common_of x) y) passes
      ∙ at_pdu e y (common_of x) pdu (omega (arith, long, in_y)) ∙ sym is

-- no more is read than there is
pub within : (e : Expected) (x : List ℕ) → Comes e x → (reading e x).1 ≤ length x
within e x (less is) = omega (arith, ap (λ (r : Progress × ℕ). r.1) is)
within e x (bad_common error long fails is) = omega (arith, long, ap (λ (r : Progress × ℕ). r.1) is)
within e x (bad_header pdu error has fails is) = omega (arith, has.enough, ap (λ (r : Progress × ℕ). r.1) is)
within e x (whole pdu has passes all is) = omega (arith, all, ap (λ (r : Progress × ℕ). r.1) is)

-- the front that is read comes to the same
again : (e : Expected) (x : List ℕ) → ((n : ℕ) → reading e x ≡ (Partial, n) → ⊥) → reading e (take (reading e x).1 x) ≡ reading e x
again e x more =
    let w = (reading e x).1 in
    let inside : w ≤ length x = within e x (comes e x) in
    let long : length (take w x) ≡ w = length-take-le w x inside in
    settled e x (take w x) w inside (omega (arith, long)) (sym (take_all w (take w x) (omega (arith, long)))) (comes e x) more (omega arith)

-- and is all of itself
pub read_again : (e : Expected) (x : List ℕ) → Comes e x
    → reading e (take (reading e x).1 x) ≡ ((reading e x).0, length (take (reading e x).1 x))
read_again e x (less is) =
    let all : take (reading e x).1 x ≡ x = take_all (reading e x).1 x (omega (arith, ap (λ (r : Progress × ℕ). r.1) is)) in
    ap (reading e) all ∙ is
    ∙ ap (λ (bytes : List ℕ). (Partial, length bytes)) (sym all)
    ∙ ap (λ (p : Progress). (p, length (take (reading e x).1 x))) (sym (ap (λ (r : Progress × ℕ). r.0) is))
read_again e x (bad_common error long fails is) =
    again e x (λ n partial. no_failure error 8 n (sym is ∙ partial))
    ∙ ap (λ (n : ℕ). ((reading e x).0, n)) (sym (length-take-le (reading e x).1 x (within e x (bad_common error long fails is))))
read_again e x (bad_header pdu error has fails is) =
    again e x (λ n partial. no_failure error (header_bytes pdu) n (sym is ∙ partial))
    ∙ ap (λ (n : ℕ). ((reading e x).0, n)) (sym (length-take-le (reading e x).1 x (within e x (bad_header pdu error has fails is))))
read_again e x (whole pdu has passes all is) =
    again e x (λ n partial. no_whole pdu (common_of x).pdu_length n (sym is ∙ partial))
    ∙ ap (λ (n : ℕ). ((reading e x).0, n)) (sym (length-take-le (reading e x).1 x (within e x (whole pdu has passes all is))))
