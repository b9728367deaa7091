-- What stands of a handle between calls.
use Rattle.std.specs.Prelude.{IfSome}
use Rattle.device_library.specs.Kept as kept
use Rattle.device_library.specs.Looping as looping
use Rattle.device_library.specs.Target as target
use Rattle.device_library.specs.declared.handle.Handle.{Handle}
use Rattle.device_library.specs.declared.handle.Session.{Session}
use Rattle.device_library.specs.declared.handle.Session.TheVariants as session

-- what its device has done, or a target has committed, is kept once C has made the calls that it was handed; and a loop's operation may
-- be made
abbrev pub KeepsSession : Session → Type 0
KeepsSession (session.Memory device) = Unit {0}
KeepsSession (session.Kept k) = kept.WillBeKept k
KeepsSession (session.Target t) = target.WillBeKept t
KeepsSession (session.Loop l) = looping.IsStanding l

abbrev pub KeepsAll : Handle → Type 0
KeepsAll handle = IfSome handle.session KeepsSession
