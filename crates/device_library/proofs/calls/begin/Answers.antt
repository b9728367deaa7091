use Rattle.std.proofs.Common.{◌∙◌, sym}
use Rattle.device_library.specs.Calls.{ServesSession}
use Rattle.device_library.proofs.Beginning.{begins_loop}
use Rattle.device_library.proofs.calls.begin.Goals as goal

pub returns-in-Some-clause-begins : goal.returns-in-Some-clause-begins
returns-in-Some-clause-begins c =
    let served : ServesSession c.replace.result c.in-Some.serving = c.in-Some.ensures in
    λ reply out. begins_loop c.args.handle.now.session c.args.handle.now reply out served.target c.in-Some.serving
    (sym c.replace.ensures.value ∙ served.is) served.begun
