use Rattle.std.proofs.Common.{◌≡◌, length}
use Rattle.link_notes.specs.Unread.{left_of}
use Rattle.link_notes.specs.Reading.{guards_from}
use Rattle.link_notes.proofs.GuardLemmas.{guards_so_far}
use Rattle.link_notes.proofs.reading.guards.Given as goal

abbrev pub invariant-loop-line : goal.invariant-loop-line
invariant-loop-line l = guards_from (left_of l.fn.unread).0 (left_of l.fn.unread).1 ≡ guards_so_far l.guards.items (left_of l.rest)

abbrev pub decreases-loop-line : goal.decreases-loop-line
decreases-loop-line l = length l.rest.rest.now
