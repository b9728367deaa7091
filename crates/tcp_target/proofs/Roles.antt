-- What lists of roles and tables of controllers hold once one place is another.
use Rattle.std.proofs.Common.{◌≡◌, ◌≢◌, ℕ, zero, suc, ◌<◌, ◌==◌, Bool, true, false, cond, List, [], ◌∷◌, length, map, set, find, Option, None, Some, ◌⊎◌, inl, inr, is_some, refl, ap, sym, subst, ◌∙◌, arith}
use Rattle.std.specs.Prelude.{slice_get, unwrap_or}
use Rattle.std.proofs.lemmas.Bool.{eq-eqb, eqb-false, or_parts}
use Rattle.tcp_target.specs.declared.role.Role.{Role}
use Rattle.tcp_target.specs.declared.role.Role.TheVariants.{Unconnected, Admin, Io, Ended}
use Rattle.tcp_target.specs.declared.table.Association.{Association}
use Rattle.tcp_target.specs.Roles.{is_queue_of, without, without_io}
use Rattle.tcp_target.specs.Table.{has_connection, standing, with_id}

-- ---- roles

abbrev pub role_in : List Role → ℕ → Role
role_in roles number = unwrap_or (slice_get roles number) Unconnected

-- where one role is another, each role is that one or was there before
pub role_set : (roles : List Role) (k n : ℕ) (put q : Role) → role_in (set roles k put) n ≡ q
    → ((n ≡ k) × (put ≡ q)) ⊎ (role_in roles n ≡ q)
role_set [] k n put q is = inr is
role_set (r ∷ roles) zero zero put q is = inl (refl, is)
role_set (r ∷ roles) zero (suc n) put q is = inr is
role_set (r ∷ roles) (suc k) zero put q is = inr is
role_set (r ∷ roles) (suc k) (suc n) put q is = elim (role_set roles k n put q is) [
  | inl here ↦ inl (ap (λ (m : ℕ). suc m) here.0, here.1)
  | inr before ↦ inr before
]

pub role_mapped : (f : Role → Role) → f Unconnected ≡ Unconnected → (roles : List Role) (n : ℕ) → role_in (map f roles) n ≡ f (role_in roles n)
role_mapped f same [] n = sym same
role_mapped f same (r ∷ roles) zero = refl
role_mapped f same (r ∷ roles) (suc n) = role_mapped f same roles n

uncut : (b : Bool) (r q : Role) → Ended ≢ q → cond b Ended r ≡ q → (b ≡ false) × (r ≡ q)
uncut true r q unlike is = absurd (unlike is)
uncut false r q unlike is = (refl, is)

ended_admin : (k : ℕ) → Ended ≢ Admin k
ended_admin k e = cc

ended_io : (k q : ℕ) → Ended ≢ Io k q
ended_io k q e = cc

-- a queue that is left once the I/O queues of a controller have ended was there before, and an I/O queue is another controller's
pub left_admin_io : (id k : ℕ) (r : Role) → without_io id r ≡ Admin k → r ≡ Admin k
left_admin_io id k Unconnected is = is
left_admin_io id k (Admin c) is = is
left_admin_io id k (Io c q) is = (uncut (c == id) (Io c q) (Admin k) (ended_admin k) is).1
left_admin_io id k Ended is = is

pub left_io_io : (id k q : ℕ) (r : Role) → without_io id r ≡ Io k q → (r ≡ Io k q) × (k ≢ id)
left_io_io id k q Unconnected is = absurd (cc)
left_io_io id k q (Admin c) is = absurd (cc)
left_io_io id k q (Io c p) is =
    let left = uncut (c == id) (Io c p) (Io k q) (ended_io k q) is in
    let same : c ≡ k = cc in
    (left.1, subst (λ (x : ℕ). x ≢ id) same (eqb-false c id left.0))
left_io_io id k q Ended is = absurd (cc)

-- and so it is once the controller has ended
pub left_admin : (id k : ℕ) (r : Role) → without id r ≡ Admin k → (r ≡ Admin k) × (k ≢ id)
left_admin id k Unconnected is = absurd (cc)
left_admin id k (Admin c) is =
    let left = uncut (c == id) (Admin c) (Admin k) (ended_admin k) is in
    let same : c ≡ k = cc in
    (left.1, subst (λ (x : ℕ). x ≢ id) same (eqb-false c id left.0))
left_admin id k (Io c q) is = let left = uncut (c == id) (Io c q) (Admin k) (ended_admin k) is in absurd (cc)
left_admin id k Ended is = absurd (cc)

pub left_io : (id k q : ℕ) (r : Role) → without id r ≡ Io k q → (r ≡ Io k q) × (k ≢ id)
left_io id k q Unconnected is = absurd (cc)
left_io id k q (Admin c) is = let left = uncut (c == id) (Admin c) (Io k q) (ended_io k q) is in absurd (cc)
left_io id k q (Io c p) is =
    let left = uncut (c == id) (Io c p) (Io k q) (ended_io k q) is in
    let same : c ≡ k = cc in
    (left.1, subst (λ (x : ℕ). x ≢ id) same (eqb-false c id left.0))
left_io id k q Ended is = absurd (cc)

-- an I/O queue without a connection is nobody's
pub nobody_has : (roles : List Role) (n id queue : ℕ) → has_connection id queue roles ≡ false → role_in roles n ≢ Io id queue
nobody_has [] n id queue none is = cc
nobody_has (r ∷ roles) zero id queue none is =
    let not_first = (or_parts (is_queue_of id queue r) (has_connection id queue roles) none).0 in
    let first : is_queue_of id queue (Io id queue) ≡ true = rw (eq-eqb id id refl) (eq-eqb queue queue refl) in
    let found : is_queue_of id queue r ≡ true = ap (is_queue_of id queue) is ∙ first in
    cc
nobody_has (r ∷ roles) (suc n) id queue none is =
    nobody_has roles n id queue (or_parts (is_queue_of id queue r) (has_connection id queue roles) none).1 is

-- ---- the table of controllers

module _ {X : Type 0} where
  pub get_set_other : (xs : List X) (k n : ℕ) (x : X) → n ≢ k → slice_get (set xs k x) n ≡ slice_get xs n
  get_set_other [] k n x unlike = refl
  get_set_other (y ∷ ys) zero zero x unlike = absurd (unlike refl)
  get_set_other (y ∷ ys) zero (suc n) x unlike = refl
  get_set_other (y ∷ ys) (suc k) zero x unlike = refl
  get_set_other (y ∷ ys) (suc k) (suc n) x unlike = get_set_other ys k n x (λ e. unlike (ap (λ (m : ℕ). suc m) e))

  pub get_set_same : (xs : List X) (k : ℕ) (x : X) → k < length xs → slice_get (set xs k x) k ≡ Some x
  get_set_same [] k x within = absurd (omega arith)
  get_set_same (y ∷ ys) zero x within = refl
  get_set_same (y ∷ ys) (suc k) x within = get_set_same ys k x (omega arith)

pub stands_within : (table : List (Option Association)) (id : ℕ) → is_some (with_id id table) ≡ true → id < length table
stands_within [] id some = absurd (cc)
stands_within (place ∷ table) zero some = omega arith
stands_within (place ∷ table) (suc id) some = let within = stands_within table id some in omega (arith, within)

-- another controller is as it was; the one that is put there is there
pub with_other : (table : List (Option Association)) (id k : ℕ) (a : Option Association) → k ≢ id → with_id k (set table id a) ≡ with_id k table
with_other table id k a unlike = ap standing (get_set_other table id k a unlike)

pub with_put : (table : List (Option Association)) (id : ℕ) (a : Option Association) → id < length table → with_id id (set table id a) ≡ a
with_put table id a within = ap standing (get_set_same table id a within)

-- an identifier that is free is one of 1 to 4
chosen : (b : Bool) (x n : ℕ) (rest : Option ℕ) → x < 5 → (rest ≡ Some n → n < 5) → cond b (Some x) rest ≡ Some n → n < 5
chosen true x n rest small later is = let same : x ≡ n = cc in subst (λ (m : ℕ). m < 5) same small
chosen false x n rest small later is = later is

pub found_below : (test : ℕ → Bool) (n : ℕ) → find test (1 ∷ 2 ∷ 3 ∷ 4 ∷ []) ≡ Some n → n < 5
found_below test n is =
    chosen (test 1) 1 n (find test (2 ∷ 3 ∷ 4 ∷ [])) (omega arith)
    (chosen (test 2) 2 n (find test (3 ∷ 4 ∷ [])) (omega arith)
    (chosen (test 3) 3 n (find test (4 ∷ [])) (omega arith)
    (chosen (test 4) 4 n None (omega arith) (λ none. absurd (cc))))) is
