-- What holds of the connections of I/O queues, where one place is another.
use Rattle.std.proofs.Common.{◌≡◌, ◌≢◌, ℕ, ◌≤◌, ◌==◌, Bool, true, false, zero, suc, List, length, replicate, set, refl, sym, ap, subst, ◌∙◌, inl, inr}
use Rattle.std.specs.Prelude.{slice_index_or}
use Rattle.std.proofs.lemmas.Bool.{cases_lt, eqb-false, eqb-true}
use Rattle.std.proofs.lemmas.List.{get_or-set_other, get_or-set_same, get_or_past, length-set}
use Rattle.tcp_connection.specs.Order.{IsSettled}
use Rattle.tcp_target.specs.declared.role.Role.{Role}
use Rattle.tcp_target.specs.declared.role.Role.TheVariants.{Unconnected, Io}
use Rattle.tcp_target.specs.Associations.{role_at}
use Rattle.tcp_target.specs.Places.{PlaceState, vacant}
use Rattle.tcp_target.proofs.PlaceOrder.{PlaceMoves}
use Rattle.tcp_target.specs.Queues.{QueuesState, no_queues, place_at, with_place}
use Rattle.tcp_target.proofs.Roles.{role_in}

-- a host has the connection, which has dealt with each PDU that came whole
pub record IsUsed (p : PlaceState) : Type 0 where
  pub is_open : p.is_open ≡ true
  pub settled : IsSettled p.connection

-- so it is where it has an I/O queue
pub record IsFine (p : PlaceState) (role : Role) : Type 0 where
  pub settled : p.is_open ≡ true → IsSettled p.connection
  pub io : (id queue : ℕ) → role ≡ Io id queue → IsUsed p

abbrev pub AreFine : QueuesState → Type 0
AreFine q = (number : ℕ) → IsFine (place_at number q) (role_at number q.associations)

-- an I/O queue that there is now was there before
abbrev pub WasIo : Role → Role → Type 0
WasIo old new = (id queue : ℕ) → new ≡ Io id queue → old ≡ Io id queue

abbrev pub WereIo : QueuesState → QueuesState → Type 0
WereIo q r = (number : ℕ) → WasIo (role_at number q.associations) (role_at number r.associations)

pub same_io : (role : Role) → WasIo role role
same_io role id queue is = is

pub fine_as : (p : PlaceState) (old new : Role) → WasIo old new → IsFine p old → IsFine p new
fine_as p old new was fine = record { settled = fine.settled; io = λ id queue is. fine.io id queue (was id queue is) }

fine_behind : (went came : List (List ℕ)) (p q : PlaceState) (old new : Role) → PlaceMoves went came p q → q.is_open ≡ p.is_open → WasIo old new
    → IsFine p old → IsFine q new
fine_behind went came p q old new moves same was fine = record {
  settled = λ held. moves.settles (fine.settled (sym same ∙ held));
  io = λ id queue is. (let used = fine.io id queue (was id queue is) in
      record { is_open = same ∙ used.is_open; settled = moves.settles used.settled });
}

-- ---- a place is another

module _ (n : ℕ) (p : PlaceState) (q r : QueuesState) (is : r.places ≡ (with_place n p q).places) where
  at : (number : ℕ) → place_at number r ≡ place_at number (with_place n p q)
  at number = ap (λ (all : List PlaceState). slice_index_or all number vacant) is

  elsewhere : (number : ℕ) → number ≢ n → place_at number r ≡ place_at number q
  elsewhere number unlike = at number ∙ get_or-set_other q.places n number p vacant unlike

  -- there is such a place, or the one that isn't there is as before
  pub here : (P : PlaceState → Type 0) → P p → P (place_at n q) → P (place_at n r)
  here P put before = elim (cases_lt n (length q.places)) [
    | inl within ↦ subst P (sym (at n ∙ get_or-set_same q.places n p vacant within)) put
    | inr beyond ↦
        (let longer : length (set q.places n p) ≤ n = subst (λ (size : ℕ). size ≤ n) (sym (length-set q.places n p)) beyond in
        subst P (get_or_past q.places n vacant beyond ∙ sym (at n ∙ get_or_past (set q.places n p) n vacant longer)) before)
  ]

  -- what is fine of it, and of all others
  pub fine_where : (number : ℕ) (b : Bool) → (number == n) ≡ b → IsFine (place_at n r) (role_at n r.associations)
      → (number ≢ n → WasIo (role_at number q.associations) (role_at number r.associations)) → AreFine q
      → IsFine (place_at number r) (role_at number r.associations)
  fine_where number true same put was fine =
      subst (λ (m : ℕ). IsFine (place_at m r) (role_at m r.associations)) (sym (eqb-true number n same)) put
  fine_where number false other put was fine =
      let unlike = eqb-false number n other in
      subst (λ (it : PlaceState). IsFine it (role_at number r.associations)) (sym (elsewhere number unlike))
      (fine_as (place_at number q) (role_at number q.associations) (role_at number r.associations) (was unlike) (fine number))

  pub fine_put : (went came : List (List ℕ)) → PlaceMoves went came (place_at n q) p → p.is_open ≡ (place_at n q).is_open → WereIo q r
      → AreFine q → AreFine r
  fine_put went came moves same was fine number =
      fine_where number (number == n) refl
      (here (λ it. IsFine it (role_at n r.associations))
      (fine_behind went came (place_at n q) p (role_at n q.associations) (role_at n r.associations) moves same (was n) (fine n))
      (fine_as (place_at n q) (role_at n q.associations) (role_at n r.associations) (was n) (fine n)))
      (λ unlike. was number) fine

-- ---- at first

at_first : (n number : ℕ) → IsFine (slice_index_or (replicate n vacant) number vacant) (role_in (replicate n Unconnected) number)
at_first zero number = record { settled = λ held on. refl; io = λ id queue is. absurd cc }
at_first (suc n) zero = record { settled = λ held on. refl; io = λ id queue is. absurd cc }
at_first (suc n) (suc number) = at_first n number

pub begins_fine : AreFine no_queues
begins_fine number = at_first 40 number
