-- What goes to the device.
use Rattle.std.proofs.Common.{◌≡◌, ℕ, Bool, true, false, not, cond, ◌&&◌, List, Option, None, Some, refl, ap, ◌∙◌}
use Rattle.std.proofs.lemmas.Bool.{and_parts}
use Rattle.tcp_connection.specs.Executing.{Execution, ready}
use Rattle.tcp_target.specs.Associations.{is_live}
use Rattle.tcp_target.specs.Places.{PlaceState, goes_on, ready_at}
use Rattle.tcp_target.specs.QueueCommands.{given_by, given_to_device, is_fabrics, is_for_device}
use Rattle.tcp_target.specs.QueueLaws.{GivenAreLive, IsLiveAndReady}
use Rattle.tcp_target.specs.Queues.{QueuesState, place_at}

-- a place that has a command ready is one whose connection has it
ready_there : (p : PlaceState) (execution : Execution) (b : Bool) → cond b (ready p.connection) None ≡ Some execution
    → ready p.connection ≡ Some execution
ready_there p execution true is = is
ready_there p execution false is = absurd (cc)

module _ (number : ℕ) (s : QueuesState) (execution : Execution) where
  chosen : (found : Execution) (b : Bool) → is_for_device number found.entry s ≡ b → cond b (Some found) None ≡ Some execution
      → (found ≡ execution) × (is_for_device number found.entry s ≡ true)
  chosen found true is same = (cc, is)
  chosen found false is same = absurd (cc)

  live : (o : Option Execution) → ready_at (place_at number s) ≡ o → given_by o number s ≡ Some execution → IsLiveAndReady number s execution
  live None is given = absurd (cc)
  live (Some found) is given =
      let c = chosen found (is_for_device number found.entry s) refl given in
      let parts = and_parts (is_live number s.associations) (not (is_fabrics found.entry)) c.1 in
      let there : ready (place_at number s).connection ≡ Some found =
      ready_there (place_at number s) found (goes_on (place_at number s)) is in
      record {
        live = parts.0;
        command = there ∙ ap (λ (e : Execution). Some e) c.0;
      }

pub given_are_live : GivenAreLive
given_are_live number s execution given = live number s execution (ready_at (place_at number s)) refl given
