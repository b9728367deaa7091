-- What a crash leaves while a host makes the calls that it was handed.
use Rattle.std.specs.Prelude.{◌≤◌, ℕ, List, [], ◌∷◌, ◌++◌, reverse}
use Rattle.stored_file.specs.File.{MayLeave}
use Rattle.stored_file.specs.Calls.{Call}
use Rattle.device_meaning.specs.State.{State}
use Rattle.durable_device.specs.Kept.{IsEither, StandsFor}
use Rattle.handed_file.specs.Handed.{told_of}

-- what a crash leaves once the host has made the first of some calls, it might have left since before them, in what is known of the
-- file behind all of them
abbrev pub FirstCallsAreCovered : Type 0
FirstCallsAreCovered =
    (more made : List Call) (t : ℕ) (c : List ℕ) → t ≤ (told_of made).moment → MayLeave (told_of made) c
    → (told_of (more ++ made)).left_since t c

-- while these calls are made, after others that were made, a crash leaves what has P, and once they are made, what has Q
abbrev pub LeavesInTurn : (List ℕ → Type 0) → (List ℕ → Type 0) → List Call → List Call → Type 0
LeavesInTurn P Q [] made = (c : List ℕ) → MayLeave (told_of made) c → Q c
LeavesInTurn P Q (call ∷ waits) made = ((c : List ℕ) → MayLeave (told_of made) c → P c) × LeavesInTurn P Q waits (call ∷ made)

-- it does, where what is known of the file behind all of them says so of each moment since they began, and at their end
abbrev pub WaitingCallsAreCovered : Type 0
WaitingCallsAreCovered =
    (before after : State) (waits made : List Call)
    → ((c : List ℕ) → (told_of (reverse waits ++ made)).left_since (told_of made).moment c → IsEither before after c)
    → ((c : List ℕ) → MayLeave (told_of (reverse waits ++ made)) c → StandsFor c after)
    → LeavesInTurn (IsEither before after) (λ c. StandsFor c after) waits made
