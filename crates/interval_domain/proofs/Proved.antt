-- What the crates above cite.
use Rattle.word_domain.specs.Domain.{IsSound}
use Rattle.interval_domain.proofs.ConstantsSound as constants_lemma
use Rattle.interval_domain.proofs.IntervalsSound as intervals_lemma
use Rattle.interval_domain.specs.Constants.{constants}
use Rattle.interval_domain.specs.Fact.{ContainsWord, IsFact}
use Rattle.interval_domain.specs.Intervals.{intervals}

pub intervals_sound : IsSound IsFact ContainsWord intervals
intervals_sound = intervals_lemma.intervals_sound

pub constants_sound : IsSound IsFact ContainsWord constants
constants_sound = constants_lemma.constants_sound
