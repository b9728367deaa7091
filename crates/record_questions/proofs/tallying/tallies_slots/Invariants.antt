use Rattle.std.proofs.Common.{◌≡◌, ◌<◌, ◌+◌, ◌^◌, drop}
use Rattle.record_questions.specs.Code.{counted, tallies_slots}
use Rattle.record_questions.proofs.tallying.tallies_slots.Given as goal

-- what is counted, and what is left to count
abbrev pub invariant-loop-tally : goal.invariant-loop-tally
invariant-loop-tally l = (l.slots < 2 ^ 64) × (counted (l.slots + tallies_slots (drop l.tally-index l.tallies)) ≡ counted (tallies_slots l.tallies))
