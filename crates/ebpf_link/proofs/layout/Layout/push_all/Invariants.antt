use Rattle.std.proofs.Common.{◌≡◌, ◌++◌, take}
use Rattle.std.specs.Prelude.{map}
use Rattle.ebpf_link.specs.declared.pieces.Piece.TheVariants.{Plain}
use Rattle.ebpf_link.proofs.layout.Layout.push_all.Given as goal

abbrev pub invariant-loop-instruction : goal.invariant-loop-instruction
invariant-loop-instruction l = record {
  pieces : l.self.pieces.items ≡ l.initial.self.pieces.items ++ map Plain (take l.instruction-index l.instructions);
  slots : l.self.slots ≡ l.initial.self.slots;
  guards : l.self.guards ≡ l.initial.self.guards;
  own : l.self.own ≡ l.initial.self.own;
  mark : l.self.mark ≡ l.initial.self.mark;
}
