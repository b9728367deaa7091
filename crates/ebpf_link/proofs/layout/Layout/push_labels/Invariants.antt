use Rattle.std.proofs.Common.{◌≡◌, ◌++◌, length}
use Rattle.ebpf_link.specs.Ends.{labels_of}
use Rattle.ebpf_link.proofs.layout.Layout.push_labels.Given as goal

abbrev pub invariant-loop-place : goal.invariant-loop-place
invariant-loop-place l = record {
  pieces : l.self.pieces.items
      ≡ l.initial.self.pieces.items ++ labels_of (length l.initial.self.slots.now) l.initial.self.guards.items l.guard l.place;
  slots : l.self.slots ≡ l.initial.self.slots;
  guards : l.self.guards ≡ l.initial.self.guards;
  own : l.self.own ≡ l.initial.self.own;
  mark : l.self.mark ≡ l.initial.self.mark;
}
