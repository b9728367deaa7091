-- Two pieces of the stream of a connection: what comes on a queue of a controller comes of its host.
use Rattle.std.proofs.Common.{◌≡◌, ℕ, ◌+◌, ◌<◌, ◌==◌, zero, suc, Bool, true, false, cond, List, ◌++◌, length, Option, None, inl, inr, refl, sym, ap, ◌∙◌, add-zero, zero-add, arith}
use Rattle.std.proofs.lemmas.Bool.{cases_lt, ne_eqb}
use Rattle.std.proofs.lemmas.List.{get_or-set_same, set-set, set_past}
use Rattle.std.specs.Prelude.{slice_index_or, slice_set}
use Rattle.tcp_connection.specs.declared.expected.Progress.{Progress}
use Rattle.tcp_connection.specs.declared.expected.Progress.TheVariants.{Partial, Whole, Failed}
use Rattle.tcp_target.specs.declared.role.Role.{Role}
use Rattle.tcp_target.specs.declared.role.Role.TheVariants.{Unconnected, Admin, Io, Ended}
use Rattle.tcp_target.specs.Associations.{role_at}
use Rattle.tcp_target.specs.PlacePieces.{JoinsAt, end_of}
use Rattle.tcp_target.specs.QueuePieces.{taken_at, taken_both_at}
use Rattle.tcp_target.specs.QueuePieces as queues
use Rattle.tcp_target.specs.Queues.{QueuesState, place_at}
use Rattle.tcp_target.specs.Events.{heard_at, heard_on}
use Rattle.tcp_target.specs.Pieces.{PiecesJoin, taken_both_on, taken_on}
use Rattle.tcp_target.specs.Target.{TargetState, with_queues}
use Rattle.tcp_target.specs.Clocks.{started_controller}
use Rattle.tcp_target.specs.declared.clocks.ControllerClock.{ControllerClock}

-- the clocks of controllers where bytes come on a connection of a role
abbrev heard_clocks : Role → List ControllerClock → List ControllerClock
heard_clocks Unconnected clocks = clocks
heard_clocks (Admin id) clocks = slice_set clocks id started_controller
heard_clocks (Io id queue) clocks =
    (let clock = slice_index_or clocks id started_controller in slice_set clocks id (record clock { queues = None }))
heard_clocks Ended clocks = clocks

-- and where so many do
abbrev clocks_for : Bool → Role → List ControllerClock → List ControllerClock
clocks_for none role clocks = cond {A = List ControllerClock} none clocks (heard_clocks role clocks)

heard_is : (role : Role) (t : TargetState) → heard_on role t ≡ record t { controller_clocks = heard_clocks role t.controller_clocks }
heard_is Unconnected t = refl
heard_is (Admin id) t = refl
heard_is (Io id queue) t = refl
heard_is Ended t = refl

heard_if : (none : Bool) (role : Role) (t : TargetState)
    → cond {A = TargetState} none t (heard_on role t) ≡ record t { controller_clocks = clocks_for none role t.controller_clocks }
heard_if true role t = refl
heard_if false role t = heard_is role t

-- a host that is heard again is as one that was heard
again_on_io : (id : ℕ) (clocks : List ControllerClock) (quiet : ControllerClock) → quiet.queues ≡ None
    → slice_set (slice_set clocks id quiet) id (let clock = slice_index_or (slice_set clocks id quiet) id started_controller in record clock { queues = None })
    ≡ slice_set clocks id quiet
again_on_io id clocks quiet is =
    let other : ControllerClock = (let clock = slice_index_or (slice_set clocks id quiet) id started_controller in record clock { queues = None }) in
    set-set clocks id quiet other ∙ elim (cases_lt id (length clocks)) [
      | inl within ↦
          let same : slice_index_or (slice_set clocks id quiet) id started_controller ≡ quiet = get_or-set_same clocks id quiet started_controller within in
          ap (λ (clock : ControllerClock). slice_set clocks id (record clock { queues = None })) same
          ∙ ap (λ (o : Option ℕ). slice_set clocks id (record quiet { queues = o })) (sym is)
      | inr beyond ↦ set_past clocks id other beyond ∙ sym (set_past clocks id quiet beyond)
    ]

again : (role : Role) (clocks : List ControllerClock) → heard_clocks role (heard_clocks role clocks) ≡ heard_clocks role clocks
again Unconnected clocks = refl
again (Admin id) clocks = set-set clocks id started_controller started_controller
again (Io id queue) clocks = (let clock = slice_index_or clocks id started_controller in again_on_io id clocks (record clock { queues = None }) refl)
again Ended clocks = refl

some : (count : ℕ) → 0 < count → (count == 0) ≡ false
some count less = ne_eqb count 0 (λ is. omega arith)

-- bytes that come twice are heard as all of them at once
twice : (one two : ℕ) (role : Role) (clocks : List ControllerClock)
    → clocks_for (two == 0) role (clocks_for (one == 0) role clocks) ≡ clocks_for (one + two == 0) role clocks
twice zero two role clocks = ap (λ (n : ℕ). clocks_for (n == 0) role clocks) (sym (zero-add two))
twice (suc one) zero role clocks = ap (λ (n : ℕ). clocks_for (n == 0) role clocks) (sym (add-zero (suc one)))
twice (suc one) (suc two) role clocks =
    ap (λ (b : Bool). clocks_for (suc two == 0) role (clocks_for b role clocks)) (some (suc one) (omega arith))
    ∙ ap (λ (b : Bool). clocks_for b role (heard_clocks role clocks)) (some (suc two) (omega arith))
    ∙ again role clocks
    ∙ sym (ap (λ (b : Bool). clocks_for b role clocks) (some (suc one + suc two) (omega arith)))

module _ (number : ℕ) (first second : List ℕ) (t : TargetState) where
  -- the target where its queues come to this, and so many bytes are taken
  abbrev at_queues : QueuesState × ℕ → TargetState × ℕ
  at_queues r = (heard_at number r.1 (with_queues r.0 t), r.1)

  abbrev role : Role
  role = role_at number t.queues.associations

  abbrev all : QueuesState × ℕ → TargetState × ℕ
  all r = (record t { queues = r.0; controller_clocks = clocks_for (r.1 == 0) role t.controller_clocks }, r.1)

  within : taken_both_at number first second t.queues ≡ taken_at number (first ++ second) t.queues
      → taken_both_on number first second t ≡ taken_on number (first ++ second) t
  within joins =
      let one : QueuesState × ℕ = taken_at number first t.queues in
      let two : QueuesState × ℕ = taken_at number second one.0 in
      ap (λ (u : TargetState). (let n = taken_on number second u in (n.0, one.1 + n.1))) (heard_if (one.1 == 0) role (with_queues one.0 t))
      ∙ ap (λ (u : TargetState). (u, one.1 + two.1))
      (heard_if (two.1 == 0) role (record t { queues = two.0; controller_clocks = clocks_for (one.1 == 0) role t.controller_clocks }))
      ∙ ap (λ (clocks : List ControllerClock). (record t { queues = two.0; controller_clocks = clocks }, one.1 + two.1)) (twice one.1 two.1 role t.controller_clocks)
      ∙ ap all joins
      ∙ sym (ap (λ (u : TargetState). (u, (taken_at number (first ++ second) t.queues).1))
      (heard_if ((taken_at number (first ++ second) t.queues).1 == 0) role (with_queues (taken_at number (first ++ second) t.queues).0 t)))

  joins_by : (g : Progress)
      → JoinsAt g (taken_both_at number first second t.queues) (taken_at number first t.queues) (taken_at number (first ++ second) t.queues)
      → JoinsAt g (taken_both_on number first second t) (taken_on number first t) (taken_on number (first ++ second) t)
  joins_by Partial joins = within joins
  joins_by (Whole pdu) joins = ap at_queues joins
  joins_by (Failed error) joins = ap at_queues joins

pub pieces_join : queues.QueuePiecesJoin → PiecesJoin
pieces_join law number first second t = joins_by number first second t (end_of first (place_at number t.queues)) (law number first second t.queues)
