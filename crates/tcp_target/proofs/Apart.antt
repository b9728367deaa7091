-- Each queue has a connection of its own, in every state of a target.
use Rattle.std.proofs.Common.{◌≡◌, ℕ, ◌==◌, true, false, cond, zero, suc, List, replicate, Option, None, Some, Result, Ok, Err, refl, subst, sym}
use Rattle.tcp_pdus.specs.Direction.{identifier_of}
use Rattle.tcp_connection.specs.declared.queue.Outcome.{Outcome}
use Rattle.tcp_admin.specs.declared.answer.Answer.{Answer}
use Rattle.tcp_admin.specs.declared.answer.Answer.TheVariants.{Completed, Kept}
use Rattle.tcp_admin.specs.Admin.{response}
use Rattle.tcp_admin.specs.Properties.{is_just_ready, set_by, set_state}
use Rattle.tcp_admin.specs.Properties as properties
use Rattle.tcp_target.specs.declared.connected.Connected.{Connected}
use Rattle.tcp_target.specs.declared.connect_request.ConnectRequest.{ConnectRequest}
use Rattle.tcp_target.specs.ConnectRequest.{request_in}
use Rattle.tcp_target.specs.declared.role.Role.{Role}
use Rattle.tcp_target.specs.declared.role.Role.TheVariants.{Unconnected, Admin, Io, Ended}
use Rattle.tcp_target.specs.Associations.{no_associations, role_at}
use Rattle.tcp_target.specs.Places.{ready_at}
use Rattle.tcp_target.specs.QueueCommands.{connect_answer_at, connect_data_at, connected}
use Rattle.tcp_target.specs.Queues.{QueuesState, free_number, opened_at, place_at, received_at, sent_at}
use Rattle.tcp_target.specs.Apart.{AreSound, HasQueuesApart, QueuesStayApart}
use Rattle.tcp_target.specs.Commands.{completed_by, connected_with, with_made}
use Rattle.tcp_target.specs.Events.{count_of, heard_at, heard_on, opened_as}
use Rattle.tcp_target.specs.Time.{ticked}
use Rattle.tcp_target.specs.Target.{TargetState, controller_at, heard, heard_on_io, with_controller, with_queues}
use Rattle.tcp_target.proofs.Ticking.{taken_queues, ticked_queues}
use Rattle.tcp_target.proofs.QueuesApart.{joined_sound, left_sound, readied_sound}
use Rattle.tcp_target.proofs.Roles.{role_in}
use Rattle.tcp_target.proofs.Served.{HoldsOfEach, of_served}

-- ---- at first no connection has a queue

none_has : (n number : ℕ) → role_in (replicate n Unconnected) number ≡ Unconnected
none_has zero number = refl
none_has (suc n) zero = refl
none_has (suc n) (suc number) = none_has n number

begins : AreSound no_associations
begins = record {
  apart = record {
    admin = λ one other id a b. let none = none_has 40 one in absurd (cc);
    io = λ one other id queue a b. let none = none_has 40 one in absurd (cc);
  };
  controllers = record {
    admin = λ number id is. let none = none_has 40 number in absurd (cc);
    io = λ number id queue is. let none = none_has 40 number in absurd (cc);
    places = refl;
  };
}

-- ---- what leaves associations as they are

opens : (t : TargetState) (number : Option ℕ) → HasQueuesApart t → HasQueuesApart (opened_as number (with_queues (opened_at number t.queues) t))
opens t None sound = sound
opens t (Some number) sound = sound

heard_sound : (t : TargetState) (role : Role) → HasQueuesApart t → HasQueuesApart (heard_on role t)
heard_sound t Unconnected sound = sound
heard_sound t (Admin id) sound = sound
heard_sound t (Io id queue) sound = sound
heard_sound t Ended sound = sound

heard_at_sound : (number count : ℕ) (t : TargetState) → HasQueuesApart t → HasQueuesApart (heard_at number count t)
heard_at_sound number count t sound =
    elim (count == 0) as (λ b. HasQueuesApart (cond b t (heard_on (role_at number t.queues.associations) t))) [
      | true ↦ sound
      | false ↦ heard_sound t (role_at number t.queues.associations) sound
    ]

-- ---- what the target executes

module _ (number : ℕ) (entry : List ℕ) (t : TargetState) (sound : HasQueuesApart t) where
  made : (request : ConnectRequest) (answer : Result Connected Outcome) (u : TargetState) → HasQueuesApart u → HasQueuesApart (with_made request answer u)
  made request (Err outcome) u same = same
  made request (Ok c) u same =
      elim (c.queue.id == 0) as (λ b. HasQueuesApart (cond b (heard c.controller (with_controller c.controller (properties.begun c.controller request.keep_alive_timeout) u)) (heard_on_io c.controller u))) [
        | true ↦ same
        | false ↦ same
      ]

  connects : (request : ConnectRequest) → HasQueuesApart (connected_with number entry request t)
  connects request =
      made request (connect_answer_at number request t.subsystem.nqn t.queues)
      (with_queues (connected number (identifier_of entry) request t.subsystem.nqn t.queues) t)
      (joined_sound t.queues.associations sound number request (connect_data_at number t.queues) t.subsystem.nqn
      (connect_answer_at number request t.subsystem.nqn t.queues) refl)

  completes : (answer : Answer) (bytes : List ℕ) → AreSound (completed_by answer number entry bytes t.queues).associations
  completes (Completed outcome) bytes = sound
  completes Kept bytes = sound

  each : HoldsOfEach HasQueuesApart number entry t
  each = record {
    nothing = sound;
    refused = λ status. sound;
    connects = connects (request_in entry);
    sets = λ id.
        readied_sound t.queues.associations sound id (is_just_ready (set_state (set_by entry (controller_at id t)) (controller_at id t)).status);
    gets = λ id. sound;
    commands = λ id. let r = response entry t.subsystem t.format (controller_at id t) in completes r.answer r.«data»;
  }

-- ---- time

ticks : (milliseconds : ℕ) (t : TargetState) → HasQueuesApart t → HasQueuesApart (ticked milliseconds t)
ticks milliseconds t sound = subst (λ (q : QueuesState). AreSound q.associations) (sym (ticked_queues milliseconds t)) sound

pub queues_stay_apart : QueuesStayApart
queues_stay_apart = record {
  begins = λ subsystem format. begins;
  opens = λ t sound. opens t (free_number t.queues) sound;
  receives = λ number piece t sound.
      heard_at_sound number (count_of number piece t) (with_queues (received_at number piece t.queues) t) sound;
  serves = λ number t sound. of_served HasQueuesApart number t (ready_at (place_at number t.queues)) sound (λ entry. each number entry t sound);
  sends = λ number count t sound. (let u : TargetState = with_queues (sent_at number count t.queues) t in
      subst (λ (q : QueuesState). AreSound q.associations) (sym (taken_queues number count u)) sound);
  hands_over = λ number t sound. sound;
  executes = λ number entry outcome bytes t sound. sound;
  ends_run = λ number command outcome t sound. sound;
  closes = λ number t sound. left_sound t.queues.associations sound number;
  ticks = ticks;
}
