-- Two pieces of a connection's stream.
use Rattle.std.proofs.Common.{◌≡◌, ℕ, ◌+◌, Bool, true, false, cond, ◌&&◌, nat_le, nat_lt, List, [], ◌++◌, length, refl, sym, ap, subst, ◌∙◌, append-nil, append_assoc}
use Rattle.tcp_connection.specs.declared.expected.Progress.{Progress}
use Rattle.tcp_connection.specs.declared.expected.Progress.TheVariants.{Partial, Whole, Failed}
use Rattle.tcp_connection.specs.Receiving as receiving
use Rattle.tcp_connection.specs.declared.state.ConnectionState.{ConnectionState}
use Rattle.tcp_connection.specs.Connection.{Step, taken, takes, took}
use Rattle.tcp_connection.specs.Dealing.{dealt_by}
use Rattle.tcp_connection.specs.Laws.{StepsJoin}
use Rattle.tcp_connection.specs.Laws as connection
use Rattle.tcp_target.specs.Places.{PlaceState, goes_on}
use Rattle.tcp_target.specs.PlaceEvents.{received, stepped}
use Rattle.tcp_target.specs.PlacePieces.{PlacePiecesJoin, end_of, received_both}
use Rattle.tcp_target.specs.PlacePieces as pieces

-- a step of the connection at a place, and how many bytes it takes
abbrev at_place : PlaceState → Step → PlaceState × ℕ
at_place p t = (stepped (t.state, t.sent) p, t.count)

-- bytes come while something is taken, or while nothing is
abbrev received_if : Bool → List ℕ → PlaceState → PlaceState × ℕ
received_if b piece p = cond {A = PlaceState × ℕ} b (at_place p (taken p.connection piece)) (p, 0)

goes : (piece : List ℕ) (p : PlaceState) → goes_on p ≡ true → received piece p ≡ at_place p (taken p.connection piece)
goes piece p is = ap (λ (b : Bool). received_if b piece p) is

stays : (piece : List ℕ) (p : PlaceState) → goes_on p ≡ false → received piece p ≡ (p, 0)
stays piece p is = ap (λ (b : Bool). received_if b piece p) is

-- within a PDU nothing is sent
quiet : (s : ConnectionState) (piece : List ℕ) → (receiving.taken s.receiver piece).0.progress ≡ Partial → (taken s piece).sent ≡ []
quiet s piece is =
    elim (takes s) as (λ b. (cond {A = Step} b (took s piece) (record { state = s; sent = []; count = 0 })).sent ≡ []) [
      | true ↦ ap (λ (g : Progress). (dealt_by g (record s { receiver = (receiving.taken s.receiver piece).0 })).1) is
      | false ↦ refl
    ]

module _ (law : StepsJoin) (first second : List ℕ) (p : PlaceState) where
  abbrev Joins : Progress → Type 0
  Joins g = pieces.JoinsAt g (received_both first second p) (received first p) (received (first ++ second) p)

  -- while nothing is taken
  idle : (g : Progress) → goes_on p ≡ false → Joins g
  idle (Whole pdu) is = stays first p is ∙ sym (stays (first ++ second) p is)
  idle (Failed error) is = stays first p is ∙ sym (stays (first ++ second) p is)
  idle Partial is =
      ap (λ (one : PlaceState × ℕ). (let two = received second one.0 in (two.0, one.1 + two.1))) (stays first p is)
      ∙ ap (λ (two : PlaceState × ℕ). (two.0, 0 + two.1)) (stays second p is)
      ∙ sym (stays (first ++ second) p is)

  -- behind a PDU
  behind : taken p.connection first ≡ taken p.connection (first ++ second) → goes_on p ≡ true → received first p ≡ received (first ++ second) p
  behind same is = goes first p is ∙ ap (at_place p) same ∙ sym (goes (first ++ second) p is)

  -- within one
  within : end_of first p ≡ Partial → goes_on p ≡ true → Joins Partial
  within ends is =
      let one : Step = taken p.connection first in
      let two : Step = taken one.state second in
      let q : PlaceState = stepped (one.state, one.sent) p in
      let same : p.unsent ++ one.sent ≡ p.unsent = ap (λ (sent : List ℕ). p.unsent ++ sent) (quiet p.connection first ends) ∙ append-nil p.unsent in
      let still : goes_on q ≡ true =
      ap (λ (unsent : List ℕ). p.is_open && nat_le (length unsent) 262144 && nat_lt p.executing 128) same ∙ is in
      ap (λ (r : PlaceState × ℕ). (let n = received second r.0 in (n.0, r.1 + n.1))) (goes first p is)
      ∙ ap (λ (n : PlaceState × ℕ). (n.0, one.count + n.1)) (goes second q still)
      ∙ ap (λ (unsent : List ℕ). (record p { connection = two.state; unsent = unsent }, one.count + two.count)) (append_assoc p.unsent one.sent two.sent)
      ∙ ap (at_place p) (subst (λ (g : Progress). connection.JoinsAt g p.connection first second) ends (law p.connection first second))
      ∙ sym (goes (first ++ second) p is)

  going : (g : Progress) → end_of first p ≡ g → goes_on p ≡ true → Joins g
  going Partial ends is = within ends is
  going (Whole pdu) ends is =
      behind (subst (λ (g : Progress). connection.JoinsAt g p.connection first second) ends (law p.connection first second)) is
  going (Failed error) ends is =
      behind (subst (λ (g : Progress). connection.JoinsAt g p.connection first second) ends (law p.connection first second)) is

  joins_if : (b : Bool) → goes_on p ≡ b → Joins (end_of first p)
  joins_if true is = going (end_of first p) refl is
  joins_if false is = idle (end_of first p) is

pub place_pieces_join : StepsJoin → PlacePiecesJoin
place_pieces_join law first second p = joins_if law first second p (goes_on p) refl
