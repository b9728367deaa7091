-- Two pieces of the stream of a connection that has a number.
use Rattle.std.proofs.Common.{◌≡◌, ℕ, ◌+◌, zero, suc, List, [], ◌∷◌, ◌++◌, refl, ap, ◌∙◌}
use Rattle.std.proofs.lemmas.List.{set-set}
use Rattle.std.specs.Prelude.{slice_index_or, slice_set}
use Rattle.tcp_connection.specs.declared.expected.Progress.{Progress}
use Rattle.tcp_connection.specs.declared.expected.Progress.TheVariants.{Partial, Whole, Failed}
use Rattle.tcp_target.specs.PlaceEvents.{received}
use Rattle.tcp_target.specs.PlacePieces as places
use Rattle.tcp_target.specs.Places.{PlaceState, vacant}
use Rattle.tcp_target.specs.QueuePieces.{QueuePiecesJoin, taken_at, taken_both_at}
use Rattle.tcp_target.specs.Queues.{QueuesState, place_at, with_place}

-- what is made of a place is there, also where there is none
put_at : (piece : List ℕ) (places : List PlaceState) (number : ℕ)
    → let p = slice_index_or places number vacant in
    slice_index_or (slice_set places number (received piece p).0) number vacant ≡ (received piece p).0
put_at piece [] zero = refl
put_at piece [] (suc number) = refl
put_at piece (first ∷ places) zero = refl
put_at piece (first ∷ places) (suc number) = put_at piece places number

module _ (number : ℕ) (first second : List ℕ) (s : QueuesState) where
  -- what a place and a count come to
  abbrev at_number : PlaceState × ℕ → QueuesState × ℕ
  at_number r = (with_place number r.0 s, r.1)

  abbrev p : PlaceState
  p = place_at number s

  within : places.received_both first second p ≡ received (first ++ second) p → taken_both_at number first second s ≡ taken_at number (first ++ second) s
  within joins =
      let one : PlaceState × ℕ = received first p in
      let t : QueuesState = with_place number one.0 s in
      ap (λ (q : PlaceState). (let two = received second q in (with_place number two.0 t, one.1 + two.1))) (put_at first s.places number)
      ∙ ap (λ (all : List PlaceState). (record s { places = all }, one.1 + (received second one.0).1)) (set-set s.places number one.0 (received second one.0).0)
      ∙ ap at_number joins

  joins_by : (g : Progress) → places.JoinsAt g (places.received_both first second p) (received first p) (received (first ++ second) p)
      → places.JoinsAt g (taken_both_at number first second s) (taken_at number first s) (taken_at number (first ++ second) s)
  joins_by Partial joins = within joins
  joins_by (Whole pdu) joins = ap at_number joins
  joins_by (Failed error) joins = ap at_number joins

pub queue_pieces_join : places.PlacePiecesJoin → QueuePiecesJoin
queue_pieces_join law number first second s =
    let p : PlaceState = place_at number s in joins_by number first second s (places.end_of first p) (law first second p)
