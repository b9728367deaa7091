-- The effect of a command.
use Rattle.std.specs.Prelude.{ℕ, ◌≡◌, ◌/◌, ◌%◌, ◌^◌, List, [], take, Option, Some, None}
use Rattle.zone_state.specs.declared.status.Status.{Status}
use Rattle.image_store.specs.Namespace.{ZonedNamespace}
use Rattle.zone_state.specs.declared.status.TheConstants.Status.{SUCCESS}
use Rattle.zns_commands.specs.declared.answer.Answer.{Answer}

-- the namespace after a command, what its completion says, and the data that it gives
pub record Effect : Type 0 where
  pub namespace : ZonedNamespace
  pub status : Status
  pub dw0 : ℕ
  pub dw1 : ℕ
  pub output : List ℕ

-- a refused command changes nothing and gives nothing
abbrev pub refused_effect : ZonedNamespace → Status → Effect
refused_effect ns status = record { namespace = ns; status = status; dw0 = 0; dw1 = 0; output = [] }

-- a command that succeeds, with a number of 64 bits in the completion's first two dwords, the low one first
abbrev pub success_effect : ZonedNamespace → ℕ → List ℕ → Effect
success_effect ns number output =
    record { namespace = ns; status = SUCCESS; dw0 = number % 2 ^ 32; dw1 = number / 2 ^ 32; output = output }

-- what a command comes to: its effect, or its refusal where a check fails
abbrev pub concluded : Option Status → ZonedNamespace → Effect → Effect
concluded None before effect = effect
concluded (Some status) before effect = refused_effect before status

-- ---- answers

-- the effect that an answer tells, with the namespace behind it; its data is the first of these bytes
abbrev pub effect_of_answer : Answer → ZonedNamespace → List ℕ → Effect
effect_of_answer answer ns bytes = record {
  namespace = ns;
  status = answer.status;
  dw0 = answer.dw0;
  dw1 = answer.dw1;
  output = take answer.length bytes;
}

-- an answer, with the namespace behind it, tells an effect that gives no data
abbrev pub Tells : Answer → ZonedNamespace → Effect → Type 0
Tells answer ns effect = (bytes : List ℕ) → effect_of_answer answer ns bytes ≡ effect
