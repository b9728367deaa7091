-- An NVMe/TCP target.
use Rattle.std.specs.Prelude.{ℕ, List, None, replicate, slice_index_or, slice_set}
use Rattle.tcp_admin.specs.declared.controller.Controller.{Controller}
use Rattle.tcp_admin.specs.declared.subsystem.NamespaceFormat.{NamespaceFormat}
use Rattle.tcp_admin.specs.declared.subsystem.Subsystem.{Subsystem}
use Rattle.tcp_admin.specs.Properties as properties
use Rattle.tcp_target.specs.Queues.{QueuesState, no_queues}
use Rattle.tcp_target.specs.declared.clocks.ConnectionClock.{ConnectionClock}
use Rattle.tcp_target.specs.declared.clocks.ControllerClock.{ControllerClock}
use Rattle.tcp_target.specs.Clocks.{started_connection, started_controller}

-- its queues; its controllers, by their identifiers; the clocks of its connections, by their numbers, and those of its controllers; what
-- it is, and what its namespace is like
pub record TargetState : Type 0 where
  pub queues : QueuesState
  pub controllers : List Controller
  pub connection_clocks : List ConnectionClock
  pub controller_clocks : List ControllerClock
  pub subsystem : Subsystem
  pub format : NamespaceFormat

abbrev pub no_controller : Controller
no_controller = properties.begun 0 0

-- a target without connections
abbrev pub begun : Subsystem → NamespaceFormat → TargetState
begun subsystem format = record {
  queues = no_queues;
  controllers = replicate 5 no_controller;
  connection_clocks = replicate 40 started_connection;
  controller_clocks = replicate 5 started_controller;
  subsystem = subsystem;
  format = format;
}

-- the controller with an identifier,
abbrev pub controller_at : ℕ → TargetState → Controller
controller_at id t = slice_index_or t.controllers id no_controller

-- and the target where that is another
abbrev pub with_controller : ℕ → Controller → TargetState → TargetState
with_controller id c t = record t { controllers = slice_set t.controllers id c }

abbrev pub with_queues : QueuesState → TargetState → TargetState
with_queues q t = record t { queues = q }

-- ---- clocks

abbrev pub connection_clock_at : ℕ → TargetState → ConnectionClock
connection_clock_at number t = slice_index_or t.connection_clocks number started_connection

abbrev pub with_connection_clock : ℕ → ConnectionClock → TargetState → TargetState
with_connection_clock number clock t = record t { connection_clocks = slice_set t.connection_clocks number clock }

abbrev pub controller_clock_at : ℕ → TargetState → ControllerClock
controller_clock_at id t = slice_index_or t.controller_clocks id started_controller

abbrev pub with_controller_clock : ℕ → ControllerClock → TargetState → TargetState
with_controller_clock id clock t = record t { controller_clocks = slice_set t.controller_clocks id clock }

-- something has come of a controller's host on its admin queue,
abbrev pub heard : ℕ → TargetState → TargetState
heard id t = with_controller_clock id started_controller t

-- or on one of its I/O queues
abbrev pub heard_on_io : ℕ → TargetState → TargetState
heard_on_io id t = (let clock = controller_clock_at id t in with_controller_clock id (record clock { queues = None }) t)
