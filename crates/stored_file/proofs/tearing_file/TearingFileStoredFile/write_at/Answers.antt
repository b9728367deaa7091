use Rattle.std.proofs.Common.{rules, ◌≡◌, List, ℕ, length, subst}
use Rattle.stored_file.specs.File.{Torn}
use Rattle.stored_file.proofs.Changes.{left_now, elapses}
use Rattle.stored_file.proofs.tearing_file.TearingFileStoredFile.write_at.Goals as goal

pub returns-clause-time : goal.returns-clause-time
returns-clause-time c = elapses _ _ _ _ c.in_ok-push.ensures.items _ _

pub returns-clause-crash : goal.returns-clause-crash
returns-clause-crash c = λ file left.
    let was = left_now _ _ _ _ c.in_ok-push.ensures.items file left in
    let copied : c.in_ok-bytes.bytes.items ≡ c.args.bytes.now = search rules in
    (was.0, was.1, subst (λ (bytes : List ℕ). Torn c.args.at (length bytes) was.0 file) copied was.2)
