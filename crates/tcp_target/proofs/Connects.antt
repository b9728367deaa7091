-- What a Connect that succeeds has found.
use Rattle.std.proofs.Common.{◌≡◌, ℕ, ◌==◌, Bool, true, false, not, cond, ◌&&◌, ◌||◌, List, length, Option, None, Some, Ok, is_some, refl, ap, sym, subst, ◌∙◌}
use Rattle.std.specs.Prelude.{nat_le, unwrap_or}
use Rattle.std.proofs.lemmas.Bool.{and_parts, not-true}
use Rattle.common_definitions.specs.Bytes.{field}
use Rattle.common_definitions.specs.Checks.{first_failed}
use Rattle.common_definitions.proofs.Proved.{demanded, none_failed, passed, value_given}
use Rattle.tcp_target.specs.declared.connect_checks.TheConstants.{CONNECT_CONTROLLER_BUSY, DATA_SGL_LENGTH_INVALID}
use Rattle.tcp_target.specs.declared.connected.Connected.{Connected}
use Rattle.tcp_target.specs.declared.connected.Controllers.{Controllers}
use Rattle.tcp_target.specs.declared.connected.NamedController.{NamedController}
use Rattle.tcp_target.specs.declared.connect_request.ConnectRequest.{ConnectRequest}
use Rattle.tcp_target.specs.ConnectChecks.{connect_checks, controller_of, has_queue, has_room, is_free}
use Rattle.tcp_target.specs.Connected.{connected, invalid_in_entry, refusal}
use Rattle.tcp_target.specs.ConnectData.{connect_data_in}
use Rattle.tcp_target.specs.declared.associations.Associations.{Associations}
use Rattle.tcp_target.specs.declared.role.Role.{Role}
use Rattle.tcp_target.specs.declared.table.Association.{Association}
use Rattle.tcp_target.specs.Associations.{answer_of, controllers_for, named_for}
use Rattle.tcp_target.specs.Table.{free_id, has_connection, is_ready, named_by, ready_at, with_id}

-- an admin queue's controller is the one that was free; an I/O queue's is ready, and the queue had no connection
pub record Enters (c : Connected) (s : Associations) : Type 0 where
  pub admin : (c.queue.id == 0) ≡ true → free_id s.controllers ≡ Some c.controller
  pub ready : (c.queue.id == 0) ≡ false → is_ready c.controller s.controllers ≡ true
  pub alone : (c.queue.id == 0) ≡ false → has_connection c.controller c.queue.id s.roles ≡ false

unwrapped : (o : Option ℕ) → is_some o ≡ true → o ≡ Some (unwrap_or o 0)
unwrapped None some = absurd (cc)
unwrapped (Some n) some = refl

-- where what was named is free, it is ready and alone
module _ (id queue : ℕ) (roles : List Role) where
  free_ready : (o : Option Association) → is_free (named_by o id queue roles) ≡ true → ready_at o ≡ true
  free_ready None free = absurd (cc)
  free_ready (Some a) free = (and_parts a.is_ready (not (has_connection id queue roles)) free).0

  free_alone : (o : Option Association) → is_free (named_by o id queue roles) ≡ true → has_connection id queue roles ≡ false
  free_alone None free = absurd (cc)
  free_alone (Some a) free = not-true (has_connection id queue roles) (and_parts a.is_ready (not (has_connection id queue roles)) free).1

module _ (request : ConnectRequest) (bytes nqn : List ℕ) (s : Associations) (c : Connected) where
  abbrev controllers : Controllers
  controllers = controllers_for bytes request.queue s

  abbrev named : ℕ
  named = (connect_data_in bytes).controller

  room_of : (b : Bool) → b ≡ true → (not b || is_some controllers.free) ≡ true → is_some controllers.free ≡ true
  room_of true is room = room
  room_of false is room = absurd (cc)

  queue_of : (b : Bool) → b ≡ false → (b || (nat_le request.queue 8 && is_free controllers.named)) ≡ true → is_free controllers.named ≡ true
  queue_of true is there = absurd (cc)
  queue_of false is there = (and_parts (nat_le request.queue 8) (is_free controllers.named) there).1

  -- the data is whole, so it names a controller
  is_named : (length bytes == 1024) ≡ true → controllers.named ≡ named_by (with_id named s.controllers) named request.queue s.roles
  is_named whole = ap (λ (b : Bool). named_for (cond b (Some (field bytes 16 2)) None) request.queue s) whole

  controller_is : (b : Bool) → (request.queue == 0) ≡ b → controller_of request named controllers.free ≡ cond b (unwrap_or controllers.free 0) named
  controller_is b is = ap (λ (x : Bool). cond x (unwrap_or controllers.free 0) named) is

  pub enters : answer_of request bytes nqn s ≡ Ok c → Enters c s
  enters given =
      let checks = connect_checks request bytes nqn controllers in
      let made = connected request (controller_of request named controllers.free) in
      let none : first_failed checks ≡ None = none_failed (first_failed checks) made c given in
      let same : c ≡ made = value_given (first_failed checks) made c (sym given) in
      let whole = demanded (length bytes == 1024) (refusal DATA_SGL_LENGTH_INVALID) (passed checks 1 none) in
      let queue = demanded (has_queue request controllers.named) (invalid_in_entry 42) (passed checks 4 none) in
      let room = demanded (has_room request controllers.free) (refusal CONNECT_CONTROLLER_BUSY) (passed checks 6 none) in
      subst (λ (x : Connected). Enters x s) (sym same) (record {
        admin = λ is. unwrapped controllers.free (room_of (request.queue == 0) is room)
            ∙ ap (λ (n : ℕ). Some n) (sym (controller_is true is));
        ready = λ is.
            let free = subst (λ (n : Option NamedController). is_free n ≡ true) (is_named whole) (queue_of (request.queue == 0) is queue) in
            ap (λ (id : ℕ). is_ready id s.controllers) (controller_is false is)
            ∙ free_ready named request.queue s.roles (with_id named s.controllers) free;
        alone = λ is.
            let free = subst (λ (n : Option NamedController). is_free n ≡ true) (is_named whole) (queue_of (request.queue == 0) is queue) in
            ap (λ (id : ℕ). has_connection id request.queue s.roles) (controller_is false is)
            ∙ free_alone named request.queue s.roles (with_id named s.controllers) free;
      })
