use Rattle.std.proofs.Common.{◌≡◌, take}
use Rattle.stored_file.specs.Unsynced.{Leaves}
use Rattle.stored_file.proofs.tearing_file.TearingFile.crashed.Given as goal

abbrev pub invariant-loop-change : goal.invariant-loop-change
invariant-loop-change l = Leaves (take l.change-index l.self.changes.items) (λ file. file ≡ l.self.first.items) l.left.items
