-- What a service comes to that the target makes itself, in each of its cases.
use Rattle.std.proofs.Common.{◌≡◌, ◌⊎◌, inl, inr, ℕ, ◌==◌, Bool, true, false, cond, List, [], Result, Ok, Err, refl}
use Rattle.std.specs.Prelude.{slice_index}
use Rattle.zone_state.specs.declared.status.Status.{Status}
use Rattle.zone_state.specs.declared.status.TheConstants.Status.{INVALID_COMMAND_OPCODE}
use Rattle.tcp_pdus.specs.Direction.{identifier_of}
use Rattle.tcp_connection.specs.declared.queue.Outcome.{Outcome}
use Rattle.tcp_connection.specs.declared.queue.Queue.{Queue}
use Rattle.tcp_admin.specs.Admin.{response}
use Rattle.tcp_admin.specs.Properties.{got, set_by, set_result}
use Rattle.tcp_admin.specs.declared.answer.Answer.{Answer}
use Rattle.tcp_admin.specs.declared.answer.Answer.TheVariants.{Completed, Kept}
use Rattle.tcp_target.specs.Connected.{refusal, success}
use Rattle.tcp_target.specs.ConnectRequest.{request_in}
use Rattle.tcp_target.specs.declared.connected.Connected.{Connected}
use Rattle.tcp_target.specs.declared.connect_request.ConnectRequest.{ConnectRequest}
use Rattle.tcp_target.specs.declared.role.Role.{Role}
use Rattle.tcp_target.specs.declared.role.Role.TheVariants as role
use Rattle.tcp_target.specs.QueueCommands.{connect_answer_at, connect_data_at, connected_by, is_fabrics, is_for_device}
use Rattle.tcp_target.specs.QueueCommands as queues
use Rattle.tcp_target.specs.PlaceEvents.{answered_at, connected_at, kept}
use Rattle.tcp_target.specs.Queues.{QueuesState, place_at, with_place}
use Rattle.tcp_target.specs.declared.outcomes.TheConstants.{COMMAND_SEQUENCE_ERROR}
use Rattle.tcp_target.specs.Commands.{completed_by, is_connect, refused_with, served_as, served_fabrics, served_get, served_set, served_unconnected, set_outcome, value_outcome, with_made}
use Rattle.tcp_target.specs.Target.{TargetState, controller_at, with_queues}

-- what completes it has no data, or that of an admin command
abbrev pub IsGiven : List ℕ → TargetState → List ℕ → Type 0
IsGiven entry t bytes = (bytes ≡ []) ⊎ ((id : ℕ) × (bytes ≡ (response entry t.subsystem t.format (controller_at id t)).«data»))

-- this holds where nothing is done, and where the command is completed, makes a queue, or is kept
module _ (P : QueuesState → Type 0) (number : ℕ) (entry : List ℕ) (t : TargetState) (nothing : P t.queues)
    (answers : (outcome : Outcome) (bytes : List ℕ) (r : QueuesState) → IsGiven entry t bytes
    → r.places ≡ (with_place number (answered_at (identifier_of entry) outcome bytes (place_at number t.queues)) t.queues).places → P r)
    (connects : (queue : Queue) (in_capsule : ℕ) (outcome : Outcome) (r : QueuesState)
    → r.places ≡ (with_place number (connected_at queue in_capsule (identifier_of entry) outcome (place_at number t.queues)) t.queues).places → P r)
    (keeps : (r : QueuesState) → r.places ≡ (with_place number (kept (place_at number t.queues)) t.queues).places → P r) where
  abbrev Of : TargetState → Type 0
  Of u = P u.queues

  refuses : (status : Status) → Of (refused_with number entry status t)
  refuses status = answers (refusal status) [] (refused_with number entry status t).queues (inl refl) refl

  either : (b : Bool) (u v : TargetState) → Of u → Of v → Of (cond b u v)
  either true u v first second = first
  either false u v first second = second

  -- Connect
  joins : (a : Result Connected Outcome) → P (connected_by a number (identifier_of entry) (connect_data_at number t.queues) t.queues)
  joins (Ok c) =
      connects c.queue c.in_capsule (success c.controller)
      (connected_by (Ok c) number (identifier_of entry) (connect_data_at number t.queues) t.queues) refl
  joins (Err outcome) =
      answers outcome [] (connected_by (Err outcome) number (identifier_of entry) (connect_data_at number t.queues) t.queues) (inl refl) refl

  made : (request : ConnectRequest) (a : Result Connected Outcome) (u : TargetState) → Of u → Of (with_made request a u)
  made request (Ok c) u so = either (c.queue.id == 0) _ _ so so
  made request (Err outcome) u so = so

  unconnected : Of (served_unconnected number entry t)
  unconnected =
      let request = request_in entry in let a = connect_answer_at number request t.subsystem.nqn t.queues in
      either (is_connect entry) _ _
      (made request a (with_queues (queues.connected number (identifier_of entry) request t.subsystem.nqn t.queues) t) (joins a))
      (refuses COMMAND_SEQUENCE_ERROR)

  -- admin queues
  fabrics : (id : ℕ) → Of (served_fabrics number id entry t)
  fabrics id =
      let r = set_by entry (controller_at id t) in
      either (slice_index entry 4 == 0x00) _ _ (answers (set_outcome (set_result r)) [] (served_set number id entry t).queues (inl refl) refl)
      (either (slice_index entry 4 == 0x04) _ _
      (answers (value_outcome (got entry (controller_at id t))) [] (served_get number id entry t).queues (inl refl) refl)
      (either (slice_index entry 4 == 0x01) _ _ (refuses COMMAND_SEQUENCE_ERROR) (refuses INVALID_COMMAND_OPCODE)))

  ends : (a : Answer) (bytes : List ℕ) → IsGiven entry t bytes → P (completed_by a number entry bytes t.queues)
  ends (Completed outcome) bytes given = answers outcome bytes (completed_by (Completed outcome) number entry bytes t.queues) given refl
  ends Kept bytes given = keeps (completed_by Kept number entry bytes t.queues) refl

  pub serves_as : (kind : Role) → Of (served_as kind number entry t)
  serves_as role.Unconnected = unconnected
  serves_as (role.Admin id) =
      let r = response entry t.subsystem t.format (controller_at id t) in either (is_fabrics entry) _ _ (fabrics id) (ends r.answer r.«data» (inr (id, refl)))
  serves_as (role.Io id queue) =
      either (is_fabrics entry) _ _ (refuses INVALID_COMMAND_OPCODE)
      (either (is_for_device number entry t.queues) _ _ nothing (refuses COMMAND_SEQUENCE_ERROR))
  serves_as role.Ended = nothing
