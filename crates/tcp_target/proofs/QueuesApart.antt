-- Associations keep each queue to one connection.
use Rattle.std.proofs.Common.{◌≡◌, ◌≢◌, ℕ, ◌<◌, ◌==◌, Bool, true, false, cond, List, [], ◌∷◌, length, map, set, Option, None, Some, Result, Ok, Err, inl, inr, is_some, is_none, refl, ap, sym, subst, ◌∙◌}
use Rattle.std.proofs.lemmas.Bool.{eqb-true, eqb-false}
use Rattle.std.proofs.lemmas.List.{length-set}
use Rattle.common_definitions.proofs.Proved.{found_passes}
use Rattle.tcp_connection.specs.declared.queue.Outcome.{Outcome}
use Rattle.tcp_target.specs.declared.connected.Connected.{Connected}
use Rattle.tcp_target.specs.declared.connect_data.Host.{Host}
use Rattle.tcp_target.specs.declared.connect_request.ConnectRequest.{ConnectRequest}
use Rattle.tcp_target.specs.ConnectData.{connect_data_in}
use Rattle.tcp_target.specs.declared.associations.Associations.{Associations}
use Rattle.tcp_target.specs.declared.role.Role.{Role}
use Rattle.tcp_target.specs.declared.role.Role.TheVariants.{Unconnected, Admin, Io, Ended}
use Rattle.tcp_target.specs.declared.table.Association.{Association}
use Rattle.tcp_target.specs.Associations.{answer_of, ended, ended_with, joined, left, readied, role_at, with_status, without_role}
use Rattle.tcp_target.specs.Roles.{without, without_io}
use Rattle.tcp_target.specs.Table.{free_id, has_connection, is_free, is_ready, ready_at, with_id}
use Rattle.tcp_target.specs.Apart.{AreApart, AreSound}
use Rattle.tcp_target.proofs.Connects.{Enters, enters}
use Rattle.tcp_target.proofs.Roles.{found_below, left_admin, left_admin_io, left_io, left_io_io, nobody_has, role_in, role_mapped, role_set, stands_within, with_other, with_put}

both : (o : Option Association) → is_none o ≡ true → is_some o ≡ true → ⊥
both None none some = cc
both (Some a) none some = cc

stands : (o : Option Association) → ready_at o ≡ true → is_some o ≡ true
stands None ready = absurd (cc)
stands (Some a) ready = refl

-- queues that there are now were there before, as long as they are apart they stay so
record AreLeft (old new : List Role) : Type 0 where
  admin : (number id : ℕ) → role_in new number ≡ Admin id → role_in old number ≡ Admin id
  io : (number id queue : ℕ) → role_in new number ≡ Io id queue → role_in old number ≡ Io id queue

left_apart : (s t : Associations) → AreLeft s.roles t.roles → AreApart s → AreApart t
left_apart s t left apart = record {
  admin = λ one other id a b. apart.admin one other id (left.admin one id a) (left.admin other id b);
  io = λ one other id queue a b. apart.io one other id queue (left.io one id queue a) (left.io other id queue b);
}

-- ---- a connection ends

module _ (s : Associations) (sound : AreSound s) where
  left_roles : (number : ℕ) → AreLeft s.roles (set s.roles number Unconnected)
  left_roles number = record {
    admin = λ n id is. elim (role_set s.roles number n Unconnected (Admin id) is) [ inl here ↦ absurd (cc) | inr before ↦ before ];
    io = λ n id queue is. elim (role_set s.roles number n Unconnected (Io id queue) is) [ inl here ↦ absurd (cc) | inr before ↦ before ];
  }

  pub unconnected_sound : (number : ℕ) → AreSound (without_role number s)
  unconnected_sound number = let left = left_roles number in record {
    apart = left_apart s (without_role number s) left sound.apart;
    controllers = record {
      admin = λ n id is. sound.controllers.admin n id (left.admin n id is);
      io = λ n id queue is. sound.controllers.io n id queue (left.io n id queue is);
      places = sound.controllers.places;
    };
  }

  -- ---- a controller ends

  module _ (id : ℕ) where
    was_admin : (n k : ℕ) → role_in (map (λ role. without id role) s.roles) n ≡ Admin k → (role_in s.roles n ≡ Admin k) × (k ≢ id)
    was_admin n k is =
        left_admin id k (role_in s.roles n) (sym (role_mapped (λ role. without id role) refl s.roles n) ∙ is)

    was_io : (n k q : ℕ) → role_in (map (λ role. without id role) s.roles) n ≡ Io k q → (role_in s.roles n ≡ Io k q) × (k ≢ id)
    was_io n k q is =
        left_io id k q (role_in s.roles n) (sym (role_mapped (λ role. without id role) refl s.roles n) ∙ is)

    pub ended_sound : AreSound (ended id s)
    ended_sound = record {
      apart = left_apart s (ended id s) (record { admin = λ n k is. (was_admin n k is).0; io = λ n k q is. (was_io n k q is).0 }) sound.apart;
      controllers = record {
        admin = λ n k is.
            let was = was_admin n k is in
            ap is_some (with_other s.controllers id k None was.1) ∙ sound.controllers.admin n k was.0;
        io = λ n k q is.
            let was = was_io n k q is in
            ap ready_at (with_other s.controllers id k None was.1) ∙ sound.controllers.io n k q was.0;
        places = length-set s.controllers id None ∙ sound.controllers.places;
      };
    }

  -- ---- a controller becomes ready, or isn't any more

  module _ (id : ℕ) (ready : Bool) where
    -- it is there as before
    status_stands : (o : Option Association) → with_id id s.controllers ≡ o → (k : ℕ) → is_some (with_id k s.controllers) ≡ true
        → is_some (with_id k (with_status id ready o s.controllers)) ≡ true
    status_stands None at k some = some
    status_stands (Some a) at k some =
        let put = Some (record a { is_ready = ready }) in
        let within = stands_within s.controllers id (ap is_some at) in
        elim (k == id) as (λ b. (k == id) ≡ b → is_some (with_id k (set s.controllers id put)) ≡ true) [
          | true ↦ λ is. ap (λ (n : ℕ). is_some (with_id n (set s.controllers id put))) (eqb-true k id is)
              ∙ ap is_some (with_put s.controllers id put within)
          | false ↦ λ is. ap is_some (with_other s.controllers id k put (eqb-false k id is)) ∙ some
        ] refl

    -- the others are ready as before,
    status_others : (o : Option Association) (k : ℕ) → k ≢ id → is_ready k s.controllers ≡ true
        → is_ready k (with_status id ready o s.controllers) ≡ true
    status_others None k unlike is = is
    status_others (Some a) k unlike is =
        ap ready_at (with_other s.controllers id k (Some (record a { is_ready = ready })) unlike) ∙ is

    status_places : (o : Option Association) → length (with_status id ready o s.controllers) ≡ 5
    status_places None = sound.controllers.places
    status_places (Some a) = length-set s.controllers id (Some (record a { is_ready = ready })) ∙ sound.controllers.places

  -- and all are where it becomes ready
  status_all : (id : ℕ) (o : Option Association) → with_id id s.controllers ≡ o → (k : ℕ) → is_ready k s.controllers ≡ true
      → is_ready k (with_status id true o s.controllers) ≡ true
  status_all id None at k is = is
  status_all id (Some a) at k is =
      let put = Some (record a { is_ready = true }) in
      let within = stands_within s.controllers id (ap is_some at) in
      elim (k == id) as (λ b. (k == id) ≡ b → is_ready k (set s.controllers id put) ≡ true) [
        | true ↦ λ same. ap (λ (n : ℕ). is_ready n (set s.controllers id put)) (eqb-true k id same)
            ∙ ap ready_at (with_put s.controllers id put within)
        | false ↦ λ unlike. ap ready_at (with_other s.controllers id k put (eqb-false k id unlike)) ∙ is
      ] refl

  kept_admin : (id n k : ℕ) → role_in (map (λ role. without_io id role) s.roles) n ≡ Admin k → role_in s.roles n ≡ Admin k
  kept_admin id n k is =
      left_admin_io id k (role_in s.roles n) (sym (role_mapped (λ role. without_io id role) refl s.roles n) ∙ is)

  kept_io : (id n k q : ℕ) → role_in (map (λ role. without_io id role) s.roles) n ≡ Io k q → (role_in s.roles n ≡ Io k q) × (k ≢ id)
  kept_io id n k q is =
      left_io_io id k q (role_in s.roles n) (sym (role_mapped (λ role. without_io id role) refl s.roles n) ∙ is)

  pub readied_sound : (id : ℕ) (ready : Bool) → AreSound (readied id ready s)
  readied_sound id true = record {
    apart = left_apart s (readied id true s) (record { admin = λ n k is. is; io = λ n k q is. is }) sound.apart;
    controllers = record {
      admin = λ n k is. status_stands id true (with_id id s.controllers) refl k (sound.controllers.admin n k is);
      io = λ n k q is. status_all id (with_id id s.controllers) refl k (sound.controllers.io n k q is);
      places = status_places id true (with_id id s.controllers);
    };
  }
  readied_sound id false = record {
    apart = left_apart s (readied id false s) (record { admin = kept_admin id; io = λ n k q is. (kept_io id n k q is).0 }) sound.apart;
    controllers = record {
      admin = λ n k is. status_stands id false (with_id id s.controllers) refl k (sound.controllers.admin n k (kept_admin id n k is));
      io = λ n k q is.
          let was = kept_io id n k q is in
          status_others id false (with_id id s.controllers) k was.1 (sound.controllers.io n k q was.0);
      places = status_places id false (with_id id s.controllers);
    };
  }

  -- ---- a connection has a queue

  module _ (number : ℕ) (c : Connected) (host : Host) (enters : Enters c s) where
    abbrev made : Option Association
    made = Some (record { host = host; is_ready = false })

    abbrev admin_entered : Associations
    admin_entered = record { controllers = set s.controllers c.controller made; roles = set s.roles number (Admin c.controller) }

    abbrev io_entered : Associations
    io_entered = record { controllers = s.controllers; roles = set s.roles number (Io c.controller c.queue.id) }

    -- an I/O queue that there is once an admin queue has come was there before
    was_queue : (n id queue : ℕ) → role_in (set s.roles number (Admin c.controller)) n ≡ Io id queue → role_in s.roles n ≡ Io id queue
    was_queue n id queue is =
        elim (role_set s.roles number n (Admin c.controller) (Io id queue) is) [ inl here ↦ absurd (cc) | inr before ↦ before ]

    -- and an admin queue once an I/O queue has come
    was_admin_queue : (n id : ℕ) → role_in (set s.roles number (Io c.controller c.queue.id)) n ≡ Admin id → role_in s.roles n ≡ Admin id
    was_admin_queue n id is =
        elim (role_set s.roles number n (Io c.controller c.queue.id) (Admin id) is) [ inl here ↦ absurd (cc) | inr before ↦ before ]

    -- the one that is made was nobody's
    unowned : free_id s.controllers ≡ Some c.controller → (k : ℕ) → is_some (with_id k s.controllers) ≡ true → k ≢ c.controller
    unowned free k some same =
        let none : is_none (with_id c.controller s.controllers) ≡ true = found_passes (λ id. is_free s.controllers id) (1 ∷ 2 ∷ 3 ∷ 4 ∷ []) c.controller free in
        let some_there : is_some (with_id c.controller s.controllers) ≡ true = subst (λ (n : ℕ). is_some (with_id n s.controllers) ≡ true) same some in
        both (with_id c.controller s.controllers) none some_there

    admin_sound : free_id s.controllers ≡ Some c.controller → AreSound admin_entered
    admin_sound free =
        let within : c.controller < length s.controllers =
        subst (λ (most : ℕ). c.controller < most) (sym sound.controllers.places) (found_below (λ id. is_free s.controllers id) c.controller free) in
        record {
          apart = record {
            admin = λ one other id a b. elim (role_set s.roles number one (Admin c.controller) (Admin id) a) [
              | inl here ↦ elim (role_set s.roles number other (Admin c.controller) (Admin id) b) [
                | inl there ↦ here.0 ∙ sym there.0
                | inr before ↦
                    let same : c.controller ≡ id = cc in
                    absurd (unowned free id (sound.controllers.admin other id before) (sym same))
              ]
              | inr first ↦ elim (role_set s.roles number other (Admin c.controller) (Admin id) b) [
                | inl there ↦
                    let same : c.controller ≡ id = cc in
                    absurd (unowned free id (sound.controllers.admin one id first) (sym same))
                | inr before ↦ sound.apart.admin one other id first before
              ]
            ];
            io = λ one other id queue a b. sound.apart.io one other id queue (was_queue one id queue a) (was_queue other id queue b);
          };
          controllers = record {
            admin = λ n k is. elim (role_set s.roles number n (Admin c.controller) (Admin k) is) [
              | inl here ↦
                  let same : c.controller ≡ k = cc in
                  subst (λ (m : ℕ). is_some (with_id m (set s.controllers c.controller made)) ≡ true) same
                  (ap is_some (with_put s.controllers c.controller made within))
              | inr before ↦
                  let some = sound.controllers.admin n k before in
                  ap is_some (with_other s.controllers c.controller k made (unowned free k some)) ∙ some
            ];
            io = λ n k q is.
                let ready = sound.controllers.io n k q (was_queue n k q is) in
                ap ready_at (with_other s.controllers c.controller k made (unowned free k (stands (with_id k s.controllers) ready))) ∙ ready;
            places = length-set s.controllers c.controller made ∙ sound.controllers.places;
          };
        }

    io_sound : is_ready c.controller s.controllers ≡ true → has_connection c.controller c.queue.id s.roles ≡ false → AreSound io_entered
    io_sound ready alone = record {
      apart = record {
        admin = λ one other id a b. sound.apart.admin one other id (was_admin_queue one id a) (was_admin_queue other id b);
        io = λ one other id queue a b. elim (role_set s.roles number one (Io c.controller c.queue.id) (Io id queue) a) [
          | inl here ↦ elim (role_set s.roles number other (Io c.controller c.queue.id) (Io id queue) b) [
            | inl there ↦ here.0 ∙ sym there.0
            | inr before ↦ absurd (nobody_has s.roles other c.controller c.queue.id alone (before ∙ sym here.1))
          ]
          | inr first ↦ elim (role_set s.roles number other (Io c.controller c.queue.id) (Io id queue) b) [
            | inl there ↦ absurd (nobody_has s.roles one c.controller c.queue.id alone (first ∙ sym there.1))
            | inr before ↦ sound.apart.io one other id queue first before
          ]
        ];
      };
      controllers = record {
        admin = λ n k is. sound.controllers.admin n k (was_admin_queue n k is);
        io = λ n k q is. elim (role_set s.roles number n (Io c.controller c.queue.id) (Io k q) is) [
          | inl here ↦
              let same : c.controller ≡ k = cc in
              subst (λ (m : ℕ). is_ready m s.controllers ≡ true) same ready
          | inr before ↦ sound.controllers.io n k q before
        ];
        places = sound.controllers.places;
      };
    }

    entered_as : (b : Bool) → (c.queue.id == 0) ≡ b
        → AreSound (record {
          controllers = cond b (set s.controllers c.controller made) s.controllers;
          roles = set s.roles number (cond b (Admin c.controller) (Io c.controller c.queue.id));
        })
    entered_as true is = admin_sound (enters.admin is)
    entered_as false is = io_sound (enters.ready is) (enters.alone is)

  pub joined_sound : (number : ℕ) (request : ConnectRequest) (bytes nqn : List ℕ) (answer : Result Connected Outcome)
      → answer_of request bytes nqn s ≡ answer → AreSound (joined number bytes answer s)
  joined_sound number request bytes nqn (Ok c) is =
      entered_as number c (connect_data_in bytes).host (enters request bytes nqn s c is) (c.queue.id == 0) refl
  joined_sound number request bytes nqn (Err outcome) is = sound

  role_ended : (role : Role) → AreSound (ended_with role s)
  role_ended Unconnected = sound
  role_ended (Admin id) = ended_sound id
  role_ended (Io id queue) = sound
  role_ended Ended = sound

pub left_sound : (s : Associations) → AreSound s → (number : ℕ) → AreSound (left number s)
left_sound s sound number =
    unconnected_sound (ended_with (role_at number s) s) (role_ended s sound (role_at number s)) number
