-- A loop that begins to serve a target.
use Rattle.std.proofs.Common.{ℕ, ◌≡◌, List, Option, Some, inl, refl, subst, sym}
use Rattle.device_library.specs.Calls.{Begins, Held}
use Rattle.device_library.specs.Looping.{HasBegun}
use Rattle.device_library.specs.declared.event.ReplyHead.{ReplyHead}
use Rattle.device_library.specs.declared.handle.Handle.{Handle}
use Rattle.device_library.specs.declared.handle.Session.{Session}
use Rattle.device_library.specs.declared.handle.Session.TheVariants as session
use Rattle.device_library.specs.declared.looping.Serving.{Serving}
use Rattle.device_library.specs.declared.target.Target.{Target}

-- it is what the handle has from then on
pub begins_loop : (s : Option Session) (handle : Handle) (reply : ReplyHead) (out : List ℕ) (t : Target) (l : Serving) → s ≡ Some (session.Target t)
    → HasBegun t l
    → Begins s (record { handle = handle; reply = reply; out = out })
    (record { handle = record handle { session = Some (session.Loop l) }; reply = reply; out = out }) 1
begins_loop s handle reply out t l is begun =
    let old : Held = record { handle = handle; reply = reply; out = out } in
    let new : Held = record { handle = record handle { session = Some (session.Loop l) }; reply = reply; out = out } in
    subst (λ (x : Option Session). Begins x old new 1) (sym is) (inl (record { left = l; begun = begun; rest = refl; told_is = refl }))
