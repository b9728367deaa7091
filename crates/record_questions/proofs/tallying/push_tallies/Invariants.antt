use Rattle.std.proofs.Common.{◌≡◌, ◌++◌, ◌-◌, ◌*◌, ◌^◌, drop}
use Rattle.record_questions.specs.Asked.{AreTallies}
use Rattle.record_questions.specs.Code.{tallies_code}
use Rattle.record_questions.proofs.tallying.push_tallies.Given as goal

-- what is pushed, and what is left to push
abbrev pub invariant-loop-tally : goal.invariant-loop-tally
invariant-loop-tally l =
    (l.at ≡ 8 * l.tally-index) × AreTallies (2 ^ 15 - l.byte) (drop l.tally-index l.tallies)
    × (l.code.items ++ tallies_code l.base l.byte l.at (drop l.tally-index l.tallies) ≡ l.initial.code.items ++ tallies_code l.base l.byte 0 l.tallies)
