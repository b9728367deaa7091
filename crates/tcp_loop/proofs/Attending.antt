-- Rounds go on, by deeds and by operations.
use Rattle.std.proofs.Common.{◌≡◌, List, ◌∷◌, ◌++◌, ap}
use Rattle.tcp_loop.specs.Trace.{Made, Trace}
use Rattle.tcp_loop.specs.Attended.{AreRounds, deeds_in}
use Rattle.tcp_loop.specs.Deeds.{Deed}
use Rattle.tcp_loop.specs.Holding.{HasReached, IsInRound}
use Rattle.tcp_loop.specs.Kept.{Phase}

-- one more deed is done in a round
pub one_more : (phase phase' : Phase) (deed : Deed) (trace : Trace) (deeds : List Deed)
    → ((round before : List Deed) → deeds ≡ round ++ before → HasReached phase trace round before
    → HasReached phase' trace (deed ∷ round) before) → IsInRound phase trace deeds → IsInRound phase' trace (deed ∷ deeds)
one_more phase phase' deed trace deeds reaches h = record {
  attended = record {
    since = deed ∷ h.attended.since;
    rounds = h.attended.rounds;
    all = ap (λ (l : List Deed). deed ∷ l) h.attended.all;
    each = h.attended.each;
  };
  reached = reaches h.attended.since (deeds_in h.attended.rounds) h.attended.all h.reached;
}

-- an operation is made that is no wait
pub made_in_round : (x : Made) (phase phase' : Phase) (trace : Trace) (deeds : List Deed)
    → ((rounds : List (List Deed)) → AreRounds trace rounds → AreRounds (x ∷ trace) rounds)
    → ((round before : List Deed) → HasReached phase' (x ∷ trace) round before)
    → IsInRound phase trace deeds → IsInRound phase' (x ∷ trace) deeds
made_in_round x phase phase' trace deeds goes_on reached h = record {
  attended = record {
    since = h.attended.since;
    rounds = h.attended.rounds;
    all = h.attended.all;
    each = goes_on h.attended.rounds h.attended.each;
  };
  reached = reached h.attended.since (deeds_in h.attended.rounds);
}
