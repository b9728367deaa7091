-- What the command that is ready on a connection comes to, in each of its cases.
use Rattle.std.proofs.Common.{ℕ, ◌==◌, true, false, cond, List, Option, None, Some}
use Rattle.std.specs.Prelude.{slice_index}
use Rattle.zone_state.specs.declared.status.Status.{Status}
use Rattle.zone_state.specs.declared.status.TheConstants.Status.{INVALID_COMMAND_OPCODE}
use Rattle.tcp_connection.specs.Executing.{Execution}
use Rattle.tcp_target.specs.ConnectRequest.{request_in}
use Rattle.tcp_target.specs.declared.role.Role.{Role}
use Rattle.tcp_target.specs.declared.role.Role.TheVariants.{Unconnected, Admin, Io, Ended}
use Rattle.tcp_target.specs.Associations.{role_at}
use Rattle.tcp_target.specs.QueueCommands.{is_fabrics, is_for_device}
use Rattle.tcp_target.specs.declared.outcomes.TheConstants.{COMMAND_SEQUENCE_ERROR}
use Rattle.tcp_target.specs.Commands.{connected_with, is_connect, refused_with, served_admin, served_as, served_by, served_command, served_fabrics, served_get, served_io, served_set, served_unconnected}
use Rattle.tcp_target.specs.Target.{TargetState}

-- this holds where nothing is done, where the command is refused, and where it is one that the target executes
pub record HoldsOfEach (P : TargetState → Type 0) (number : ℕ) (entry : List ℕ) (t : TargetState) : Type 0 where
  pub nothing : P t
  pub refused : (status : Status) → P (refused_with number entry status t)
  pub connects : P (connected_with number entry (request_in entry) t)
  pub sets : (id : ℕ) → P (served_set number id entry t)
  pub gets : (id : ℕ) → P (served_get number id entry t)
  pub commands : (id : ℕ) → P (served_command number id entry t)

module _ (P : TargetState → Type 0) (number : ℕ) (entry : List ℕ) (t : TargetState) (each : HoldsOfEach P number entry t) where
  -- Connect
  unconnected : P (served_unconnected number entry t)
  unconnected =
      elim (is_connect entry) as (λ b. P (cond b (connected_with number entry (request_in entry) t) (refused_with number entry COMMAND_SEQUENCE_ERROR t))) [
        | true ↦ each.connects
        | false ↦ each.refused COMMAND_SEQUENCE_ERROR
      ]

  -- admin queues
  fabrics : (id : ℕ) → P (served_fabrics number id entry t)
  fabrics id =
      elim (slice_index entry 4 == 0x00) as (λ a. P (cond a (served_set number id entry t) (cond (slice_index entry 4 == 0x04) (served_get number id entry t) (cond (slice_index entry 4 == 0x01) (refused_with number entry COMMAND_SEQUENCE_ERROR t) (refused_with number entry INVALID_COMMAND_OPCODE t))))) [
        | true ↦ each.sets id
        | false ↦
            elim (slice_index entry 4 == 0x04) as (λ b. P (cond b (served_get number id entry t) (cond (slice_index entry 4 == 0x01) (refused_with number entry COMMAND_SEQUENCE_ERROR t) (refused_with number entry INVALID_COMMAND_OPCODE t)))) [
              | true ↦ each.gets id
              | false ↦
                  elim (slice_index entry 4 == 0x01) as (λ d. P (cond d (refused_with number entry COMMAND_SEQUENCE_ERROR t) (refused_with number entry INVALID_COMMAND_OPCODE t))) [
                    | true ↦ each.refused COMMAND_SEQUENCE_ERROR
                    | false ↦ each.refused INVALID_COMMAND_OPCODE
                  ]
            ]
      ]

  admin : (id : ℕ) → P (served_admin number id entry t)
  admin id =
      elim (is_fabrics entry) as (λ b. P (cond b (served_fabrics number id entry t) (served_command number id entry t))) [
        | true ↦ fabrics id
        | false ↦ each.commands id
      ]

  -- I/O queues
  io : P (served_io number entry t)
  io =
      elim (is_fabrics entry) as (λ a. P (cond a (refused_with number entry INVALID_COMMAND_OPCODE t) (cond (is_for_device number entry t.queues) t (refused_with number entry COMMAND_SEQUENCE_ERROR t)))) [
        | true ↦ each.refused INVALID_COMMAND_OPCODE
        | false ↦
            elim (is_for_device number entry t.queues) as (λ b. P (cond b t (refused_with number entry COMMAND_SEQUENCE_ERROR t))) [
              | true ↦ each.nothing
              | false ↦ each.refused COMMAND_SEQUENCE_ERROR
            ]
      ]

  pub of_served_as : (role : Role) → P (served_as role number entry t)
  of_served_as Unconnected = unconnected
  of_served_as (Admin id) = admin id
  of_served_as (Io id queue) = io
  of_served_as Ended = each.nothing

pub of_served : (P : TargetState → Type 0) (number : ℕ) (t : TargetState) (o : Option Execution) → P t
    → ((entry : List ℕ) → HoldsOfEach P number entry t) → P (served_by o number t)
of_served P number t None nothing each = nothing
of_served P number t (Some execution) nothing each =
    of_served_as P number execution.entry t (each execution.entry) (role_at number t.queues.associations)
