-- The domain of constants is sound, since widening keeps what belongs to a fact.
use Rattle.std.specs.Prelude.{ℕ, Option, Some, None}
use Rattle.program_meaning.specs.Effect.{sign_extended}
use Rattle.program_meaning.specs.Word.{computed}
use Rattle.word_domain.specs.Domain.{BelongAfter, IsSound}
use Rattle.interval_domain.proofs.FactSound.{widened_law}
use Rattle.interval_domain.proofs.FactsGiven.{constants_give}
use Rattle.interval_domain.proofs.IntervalsSound.{intervals_sound}
use Rattle.interval_domain.specs.Constants.{both_widened, constants}
use Rattle.interval_domain.specs.Fact.{ContainsWord, IsFact}
use Rattle.interval_domain.specs.Intervals.{intervals}
use Rattle.interval_domain.specs.declared.fact.Fact.{Fact}

both_widened_law : (o : Option (Fact × Fact)) (x y : ℕ) → BelongAfter ContainsWord x y o
    → BelongAfter ContainsWord x y (both_widened o)
both_widened_law None x y kept = kept
both_widened_law (Some facts) x y kept = (widened_law facts.0 x kept.0, widened_law facts.1 y kept.1)

pub constants_sound : IsSound IsFact ContainsWord constants
constants_sound = record {
  facts = constants_give;
  constant = intervals_sound.constant;
  any = intervals_sound.any;
  pointer = intervals_sound.pointer;
  loaded = λ size n h. widened_law (intervals.loaded size) n (intervals_sound.loaded size n h);
  loaded_signed = λ size n h.
      widened_law (intervals.loaded_signed size) (sign_extended size n) (intervals_sound.loaded_signed size n h);
  join_first = λ d e w is other. widened_law (intervals.join d e) w (intervals_sound.join_first d e w is other);
  join_second = λ d e w other is. widened_law (intervals.join d e) w (intervals_sound.join_second d e w other is);
  alu = λ arithmetic d e x y hd he.
      widened_law (intervals.alu arithmetic d e) (computed arithmetic x y) (intervals_sound.alu arithmetic d e x y hd he);
  refine = λ width relation taken d e same x y hd he one is.
      both_widened_law (intervals.refine width relation taken d e same) x y
      (intervals_sound.refine width relation taken d e same x y hd he one is);
  access = intervals_sound.access;
  bounds = intervals_sound.bounds;
  offsets = intervals_sound.offsets;
}
