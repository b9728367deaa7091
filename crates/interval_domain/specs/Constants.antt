-- The domain of constants: that of intervals, but what comes out of a rule with two different bounds is
-- widened to every word (profile).
use Rattle.std.specs.Prelude.{Option}
use Rattle.std.specs.Option.{option_map}
use Rattle.word_domain.specs.Domain.{Operations}
use Rattle.interval_domain.specs.Fact.{widened}
use Rattle.interval_domain.specs.Intervals.{intervals}
use Rattle.interval_domain.specs.declared.fact.Fact.{Fact}

-- both facts widened, if there are two
abbrev pub both_widened : Option (Fact × Fact) → Option (Fact × Fact)
both_widened found = option_map (λ (both : Fact × Fact). (widened both.0, widened both.1)) found

-- the operations of the domain of constants
abbrev pub constants : Operations Fact
constants = record intervals {
  loaded = λ size. widened (intervals.loaded size);
  loaded_signed = λ size. widened (intervals.loaded_signed size);
  join = λ d e. widened (intervals.join d e);
  alu = λ arithmetic d e. widened (intervals.alu arithmetic d e);
  refine = λ width relation taken d e same. both_widened (intervals.refine width relation taken d e same);
}
