-- A target stays the same subsystem.
use Rattle.std.proofs.Common.{◌≡◌, ℕ, zero, suc, ◌==◌, Bool, true, false, cond, List, Option, None, Some, Result, Ok, Err, map, refl, sym, subst}
use Rattle.std.specs.Prelude.{slice_index}
use Rattle.tcp_pdus.specs.Direction.{identifier_of}
use Rattle.tcp_connection.specs.Executing.{Execution}
use Rattle.tcp_connection.specs.declared.queue.Outcome.{Outcome}
use Rattle.tcp_admin.specs.Laws.{IsSubsystem}
use Rattle.tcp_admin.specs.declared.subsystem.Subsystem.{Subsystem}
use Rattle.tcp_target.specs.Associations.{role_at}
use Rattle.tcp_target.specs.ConnectRequest.{request_in}
use Rattle.tcp_target.specs.declared.connected.Connected.{Connected}
use Rattle.tcp_target.specs.declared.connect_request.ConnectRequest.{ConnectRequest}
use Rattle.tcp_target.specs.declared.role.Role.{Role}
use Rattle.tcp_target.specs.declared.role.Role.TheVariants as role
use Rattle.tcp_target.specs.QueueCommands.{connect_answer_at, connected, is_fabrics, is_for_device}
use Rattle.tcp_target.specs.Places.{ready_at}
use Rattle.tcp_target.specs.Queues.{free_number, opened_at, place_at, received_at}
use Rattle.tcp_target.specs.Clocks.{later_controller}
use Rattle.tcp_target.specs.Commands.{is_connect, served, served_as, served_by, served_fabrics, served_unconnected, with_made}
use Rattle.tcp_target.specs.Events.{count_of, heard_on, opened, opened_as, received, sent}
use Rattle.tcp_target.specs.Target.{TargetState, with_queues}
use Rattle.tcp_target.specs.Time.{counted_below, ticked}
use Rattle.tcp_device.proofs.Reached.{Stays}

module _ (s : Subsystem) where
  abbrev Is : TargetState → Type 0
  Is t = t.subsystem ≡ s

  either : (b : Bool) (t u : TargetState) → Is t → Is u → Is (cond b t u)
  either true t u first second = first
  either false t u first second = second

  begins : (n : Option ℕ) (t : TargetState) → Is t → Is (opened_as n t)
  begins None t is = is
  begins (Some number) t is = is

  hears : (kind : Role) (t : TargetState) → Is t → Is (heard_on kind t)
  hears role.Unconnected t is = is
  hears (role.Admin id) t is = is
  hears (role.Io id queue) t is = is
  hears role.Ended t is = is

  made : (request : ConnectRequest) (a : Result Connected Outcome) (t : TargetState) → Is t → Is (with_made request a t)
  made request (Ok c) t is = either (c.queue.id == 0) _ _ is is
  made request (Err outcome) t is = is

  module _ (number : ℕ) (entry : List ℕ) (t : TargetState) (is : Is t) where
    unconnected : Is (served_unconnected number entry t)
    unconnected =
        let request = request_in entry in let a = connect_answer_at number request t.subsystem.nqn t.queues in
        either (is_connect entry) _ _
        (made request a (with_queues (connected number (identifier_of entry) request t.subsystem.nqn t.queues) t) is) is

    fabrics : (id : ℕ) → Is (served_fabrics number id entry t)
    fabrics id =
        either (slice_index entry 4 == 0x00) _ _ is
        (either (slice_index entry 4 == 0x04) _ _ is (either (slice_index entry 4 == 0x01) _ _ is is))

    serves_as : (kind : Role) → Is (served_as kind number entry t)
    serves_as role.Unconnected = unconnected
    serves_as (role.Admin id) = either (is_fabrics entry) _ _ (fabrics id) is
    serves_as (role.Io id queue) = either (is_fabrics entry) _ _ is (either (is_for_device number entry t.queues) _ _ is is)
    serves_as role.Ended = is

  serves_by : (o : Option Execution) (number : ℕ) (t : TargetState) → Is t → Is (served_by o number t)
  serves_by None number t is = is
  serves_by (Some execution) number t is = serves_as number execution.entry t is (role_at number t.queues.associations)

  counts : (milliseconds number : ℕ) (t : TargetState) → Is t → Is (counted_below milliseconds number t)
  unfolding counted_below
  counts milliseconds zero t is = is
  counts milliseconds (suc number) t is = counts milliseconds number t is

module _ (old new : TargetState) (is : new.subsystem ≡ old.subsystem) where
  texts_as : IsSubsystem old.subsystem → IsSubsystem new.subsystem
  texts_as texts = subst IsSubsystem (sym is) texts

pub texts_stay : Stays (λ t. IsSubsystem t.subsystem)
texts_stay = record {
  opens = λ t texts.
      (let u : TargetState = with_queues (opened_at (free_number t.queues) t.queues) t in
      texts_as t (opened t) (begins t.subsystem (free_number t.queues) u refl) texts);
  receives = λ number piece t texts.
      (let u : TargetState = with_queues (received_at number piece t.queues) t in
      texts_as t (received number piece t)
      (either t.subsystem (count_of number piece t == 0) u (heard_on (role_at number u.queues.associations) u) refl
      (hears t.subsystem (role_at number u.queues.associations) u refl)) texts);
  serves = λ number t texts.
      texts_as t (served number t) (serves_by t.subsystem (ready_at (place_at number t.queues)) number t refl) texts;
  sends = λ number count t texts.
      texts_as t (sent number count t) (either t.subsystem (count == 0) _ _ refl refl) texts;
  hands_over = λ number execution t is texts. texts;
  executes = λ number entry outcome bytes t texts. texts;
  ends_run = λ number command outcome t texts. texts;
  closes = λ number t texts. texts;
  ticks = λ milliseconds t texts.
      texts_as t (ticked milliseconds t)
      (counts t.subsystem milliseconds 40 (record t { controller_clocks = map (λ clock. later_controller milliseconds clock) t.controller_clocks }) refl)
      texts;
}
