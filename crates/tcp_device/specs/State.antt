-- A target with the device behind it.
use Rattle.std.specs.Prelude.{ℕ, List, replicate, Option, None}
use Rattle.image_store.specs.Namespace.{ZonedNamespace}
use Rattle.device_meaning.specs.State.{State, new_state}
use Rattle.tcp_admin.specs.declared.subsystem.NamespaceFormat.{NamespaceFormat}
use Rattle.tcp_admin.specs.declared.subsystem.Subsystem.{Subsystem}
use Rattle.tcp_target.specs.Target.{TargetState}
use Rattle.tcp_target.specs.Target as target

-- the command that a run completes: its connection, by the number of that, and its identifier
pub record CommandOfRun : Type 0 where
  pub connection : ℕ
  pub command : ℕ

-- a device and a target; the commands of the device's active runs, by the numbers of these; and from which number on the next turn
-- looks for a run
pub record ServedState : Type 0 where
  pub device : State
  pub target : TargetState
  pub pending : List (Option CommandOfRun)
  pub next : ℕ

-- a device, and a target without connections
abbrev pub begun_on : State → Subsystem → NamespaceFormat → ServedState
begun_on device subsystem format = record {
  device = device;
  target = target.begun subsystem format;
  pending = replicate 8 None;
  next = 0;
}

-- a device with the namespace of an image
abbrev pub begun : ZonedNamespace → Subsystem → NamespaceFormat → ServedState
begun namespace subsystem format = begun_on (new_state namespace) subsystem format

abbrev pub with_target : TargetState → ServedState → ServedState
with_target t s = record s { target = t }
