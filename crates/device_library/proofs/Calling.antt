-- A call of a handle that has something behind it.
use Rattle.std.specs.Prelude.{ℕ, Bool, ◌≡◌, ◌≢◌, ◌<◌, List, Option, Some}
use Rattle.std.proofs.Common.{arith, refl, subst, sym}
use Rattle.std.proofs.lemmas.Bool.{ne_eqb}
use Rattle.device_library.specs.Asked.{Asked}
use Rattle.device_library.specs.Calls.{AnswersAs, Begins, BeginsOrCalls, Calls, CallsBy, CallsSession, Held}
use Rattle.device_library.specs.declared.event.ReplyHead.{ReplyHead}
use Rattle.device_library.specs.declared.handle.Handle.{Handle}
use Rattle.device_library.specs.declared.handle.Session.{Session}

-- it is what that answers to a kind, of which 0 is none
pub calls_some : (kind : ℕ) (asked : Asked) (handle : Handle) (old new : Session) (reply told : ReplyHead) (before after : List ℕ) (answer : ℕ)
    → 0 < kind → kind ≢ 16 → handle.session ≡ Some old
    → AnswersAs old kind asked (record { session = old; reply = reply; out = before }) (record { session = new; reply = told; out = after }) answer
    → Calls kind asked (record { handle = handle; reply = reply; out = before })
    (record { handle = record handle { session = Some new }; reply = told; out = after }) answer
calls_some kind asked handle old new reply told before after answer positive other opened answers =
    let held : Held = record { handle = handle; reply = reply; out = before } in
    let left : Held = record { handle = record handle { session = Some new }; reply = told; out = after } in
    subst (λ (none : Bool). CallsBy none kind asked held left answer) (sym (ne_eqb kind 0 (omega (arith, positive))))
    (subst (λ (begins : Bool). BeginsOrCalls begins kind asked held left answer) (sym (ne_eqb kind 16 other))
    (subst (λ (s : Option Session). CallsSession s kind asked held left answer) (sym opened) (record { left = new; handle = refl; answers = answers })))

-- a loop is to serve a target from now on
pub calls_begin : (kind : ℕ) (asked : Asked) (old new : Handle) (reply : ReplyHead) (out : List ℕ) (answer : ℕ) → kind ≡ 16
    → Begins old.session (record { handle = old; reply = reply; out = out }) (record { handle = new; reply = reply; out = out }) answer
    → Calls kind asked (record { handle = old; reply = reply; out = out }) (record { handle = new; reply = reply; out = out }) answer
calls_begin kind asked old new reply out answer is begins =
    let held : Held = record { handle = old; reply = reply; out = out } in
    let left : Held = record { handle = new; reply = reply; out = out } in
    subst (λ (k : ℕ). Calls k asked held left answer) (sym is) begins
