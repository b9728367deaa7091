-- What a connection sends: completions, and what comes before its end.
use Rattle.std.specs.Prelude.{ℕ, ◌≡◌, ◌≤◌, ◌+◌, ◌%◌, List, ◌++◌, Vec, vec_capacity, if◌then◌else◌}
use Rattle.std.specs.declared.alloc.Global.{Global}
use Rattle.tcp_pdus.specs.declared.fatal_error.FatalError.{FatalError}
use Rattle.tcp_pdus.specs.Sent.{c2h_term_req, capsule_resp}
use Rattle.tcp_pdus.specs.Answer.{answer_bytes}
use Rattle.tcp_connection.specs.declared.queue.Outcome.{Outcome}
use Rattle.tcp_connection.specs.declared.queue.Phase.TheVariants.{Ended}
use Rattle.tcp_connection.specs.declared.queue.Queue.{Queue}
use Rattle.tcp_connection.specs.declared.state.ConnectionState.{ConnectionState}
use Rattle.tcp_connection.specs.Commands.{none}

-- bytes are added to what is to be sent
pub record Sends (old new : Vec ℕ Global) (sent : List ℕ) : Type 0 where
  pub added : new.items ≡ old.items ++ sent
  pub room : vec_capacity old ≤ vec_capacity new

-- a connection that has ended: its commands are forgotten
abbrev pub ended : ConnectionState → ConnectionState
ended s = record s { commands = none; phase = Ended }

-- a fatal error ends it, behind a C2HTermReq that gives back what was read of the header
abbrev pub failed : FatalError → List ℕ → ConnectionState → ConnectionState × List ℕ
failed error header s = (ended s, c2h_term_req error header)

-- the submission queue head pointer counts the completions, modulo the entries; FFFFh is told without flow control
abbrev pub next_head : ℕ → ℕ → ℕ
next_head head entries = (head + 1) % entries

abbrev pub told_head : Queue → ℕ → ℕ
told_head queue head = if queue.has_flow_control then head else 0xFFFF

-- the completion of a command, and what it makes of the connection
abbrev pub completion : Queue → ℕ → ℕ → Outcome → List ℕ
completion queue head command outcome =
    capsule_resp (answer_bytes (record {
      dw0 = outcome.dw0;
      dw1 = outcome.dw1;
      head = told_head queue head;
      queue = queue.id;
      command = command;
      status = outcome.status;
    }))

abbrev pub answered : ℕ → Outcome → ConnectionState → ConnectionState × List ℕ
answered command outcome s =
    let head = next_head s.head s.queue.entries in (record s { head = head }, completion s.queue head command outcome)
