use Rattle.std.proofs.Common.{◌≡◌, ◌++◌, length}
use Rattle.ebpf_link.specs.Ends.{told_ends}
use Rattle.ebpf_link.proofs.layout.Layout.push_all_told.Given as goal

abbrev pub invariant-loop-place : goal.invariant-loop-place
invariant-loop-place l = record {
  pieces : l.self.pieces.items
      ≡ l.initial.self.pieces.items ++ told_ends (length l.initial.self.slots.now) (length l.initial.self.guards.items) l.place;
  slots : l.self.slots ≡ l.initial.self.slots;
  guards : l.self.guards ≡ l.initial.self.guards;
  own : l.self.own ≡ l.initial.self.own;
  mark : l.self.mark ≡ l.initial.self.mark;
}
