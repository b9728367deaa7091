use Rattle.std.proofs.Common.{◌≡◌}
use Rattle.command_entry.proofs.entries.add_lines.Given as goal

abbrev pub invariant-loop-line : goal.invariant-loop-line
invariant-loop-line g l = record {
  made : g.F.Files.made l.files ≡ g.F.Files.made l.fn.files;
  contents : g.F.Files.contents l.files ≡ g.F.Files.contents l.fn.files;
}
