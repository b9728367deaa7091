-- What happens on one connection leaves all others as they were.
use Rattle.std.proofs.Common.{ℕ, ◌==◌, true, false, cond, List, Result, Ok, Err, refl, subst, sym}
use Rattle.std.proofs.lemmas.List.{get_or-set_other}
use Rattle.tcp_pdus.specs.Direction.{identifier_of}
use Rattle.tcp_connection.specs.declared.queue.Outcome.{Outcome}
use Rattle.tcp_admin.specs.declared.answer.Answer.{Answer}
use Rattle.tcp_admin.specs.declared.answer.Answer.TheVariants.{Completed, Kept}
use Rattle.tcp_admin.specs.Admin.{response}
use Rattle.tcp_admin.specs.Properties as properties
use Rattle.tcp_target.specs.declared.connected.Connected.{Connected}
use Rattle.tcp_target.specs.declared.connect_request.ConnectRequest.{ConnectRequest}
use Rattle.tcp_target.specs.ConnectRequest.{request_in}
use Rattle.tcp_target.specs.declared.role.Role.{Role}
use Rattle.tcp_target.specs.declared.role.Role.TheVariants.{Unconnected, Admin, Io, Ended}
use Rattle.tcp_target.specs.Associations.{role_at}
use Rattle.tcp_target.specs.Places.{ready_at, vacant}
use Rattle.tcp_target.specs.QueueCommands.{connect_answer_at, connected}
use Rattle.tcp_target.specs.QueueLaws.{OthersAreSame}
use Rattle.tcp_target.specs.Queues.{QueuesState, place_at, received_at, sent_at}
use Rattle.tcp_target.specs.Commands.{completed_by, connected_with, served, with_made}
use Rattle.tcp_target.specs.Events.{count_of, heard_at, heard_on}
use Rattle.tcp_target.specs.Laws.{ConnectionsStay}
use Rattle.tcp_target.specs.Target.{TargetState, controller_at, heard, heard_on_io, with_controller, with_queues}
use Rattle.tcp_target.proofs.Ticking.{taken_queues}
use Rattle.tcp_target.proofs.Served.{HoldsOfEach, of_served}

module _ (number : ℕ) where
  -- what is heard of a host changes no place
  heard_same : (t u : TargetState) (role : Role) → OthersAreSame number t.queues u.queues
      → OthersAreSame number t.queues (heard_on role u).queues
  heard_same t u Unconnected same = same
  heard_same t u (Admin id) same = same
  heard_same t u (Io id queue) same = same
  heard_same t u Ended same = same

  heard_at_same : (t u : TargetState) (count : ℕ) → OthersAreSame number t.queues u.queues
      → OthersAreSame number t.queues (heard_at number count u).queues
  heard_at_same t u count same =
      elim (count == 0) as (λ b. OthersAreSame number t.queues (cond b u (heard_on (role_at number u.queues.associations) u)).queues) [
        | true ↦ same
        | false ↦ heard_same t u (role_at number u.queues.associations) same
      ]

  module _ (entry : List ℕ) (t : TargetState) where
    -- Connect
    made : (request : ConnectRequest) (answer : Result Connected Outcome) (u : TargetState) → OthersAreSame number t.queues u.queues
        → OthersAreSame number t.queues (with_made request answer u).queues
    made request (Err outcome) u same = same
    made request (Ok c) u same =
        elim (c.queue.id == 0) as (λ b. OthersAreSame number t.queues (cond b (heard c.controller (with_controller c.controller (properties.begun c.controller request.keep_alive_timeout) u)) (heard_on_io c.controller u)).queues) [
          | true ↦ same
          | false ↦ same
        ]

    connects : (request : ConnectRequest) → OthersAreSame number t.queues (connected_with number entry request t).queues
    connects request =
        made request (connect_answer_at number request t.subsystem.nqn t.queues)
        (with_queues (connected number (identifier_of entry) request t.subsystem.nqn t.queues) t)
        (λ other unlike. get_or-set_other t.queues.places number other _ vacant unlike)

    completes : (answer : Answer) (bytes : List ℕ) → OthersAreSame number t.queues (completed_by answer number entry bytes t.queues)
    completes (Completed outcome) bytes other unlike = get_or-set_other t.queues.places number other _ vacant unlike
    completes Kept bytes other unlike = get_or-set_other t.queues.places number other _ vacant unlike

    each : HoldsOfEach (λ u. OthersAreSame number t.queues u.queues) number entry t
    each = record {
      nothing = λ other unlike. refl;
      refused = λ status other unlike. get_or-set_other t.queues.places number other _ vacant unlike;
      connects = connects (request_in entry);
      sets = λ id other unlike. get_or-set_other t.queues.places number other _ vacant unlike;
      gets = λ id other unlike. get_or-set_other t.queues.places number other _ vacant unlike;
      commands = λ id. let r = response entry t.subsystem t.format (controller_at id t) in completes r.answer r.«data»;
    }

  serves : (t : TargetState) → OthersAreSame number t.queues (served number t).queues
  serves t = of_served (λ u. OthersAreSame number t.queues u.queues) number t (ready_at (place_at number t.queues)) (λ other unlike. refl)
      (λ entry. each entry t)

pub connections_stay : ConnectionsStay
connections_stay = record {
  receives = λ number piece t. heard_at_same number t (with_queues (received_at number piece t.queues) t) (count_of number piece t)
      (λ other unlike. get_or-set_other t.queues.places number other _ vacant unlike);
  serves = λ number t. serves number t;
  sends = λ number count t. (let u : TargetState = with_queues (sent_at number count t.queues) t in
      subst (λ (q : QueuesState). OthersAreSame number t.queues q) (sym (taken_queues number count u))
      (λ other unlike. get_or-set_other t.queues.places number other _ vacant unlike));
  hands_over = λ number t other unlike. get_or-set_other t.queues.places number other _ vacant unlike;
  executes = λ number entry outcome bytes t other unlike. get_or-set_other t.queues.places number other _ vacant unlike;
  ends_run = λ number command outcome t other unlike. get_or-set_other t.queues.places number other _ vacant unlike;
  closes = λ number t other unlike. get_or-set_other t.queues.places number other _ vacant unlike;
}
