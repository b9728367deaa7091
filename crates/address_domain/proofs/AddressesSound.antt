-- The domain of addresses is sound, since that of intervals is: of two facts and of the words that they are.
use Rattle.std.proofs.Common.{ℕ, Bool, IfSome, Option, Some, None}
use Rattle.std.specs.Option.{option_map}
use Rattle.instruction_set.specs.declared.operation.Relation.{Relation}
use Rattle.instruction_set.specs.declared.operation.Width.{Width}
use Rattle.word_domain.specs.Domain.{BelongAfter, Belongs, GiveFacts, IsSound}
use Rattle.interval_domain.proofs.Proved.{intervals_sound}
use Rattle.interval_domain.specs.Edge.{FactPair}
use Rattle.interval_domain.specs.Fact.{ContainsWord, IsFact}
use Rattle.interval_domain.specs.Intervals.{intervals}
use Rattle.interval_domain.specs.declared.fact.Fact.{Fact}
use Rattle.address_domain.specs.Addresses.{addresses, as_words, both_narrowed, words_of}
use Rattle.address_domain.proofs.Narrowing.{both_are, refine_parts}
use Rattle.address_domain.proofs.WordFacts.{as_words_is, contains_as_words, narrowed_contains, pointer_or_contains, pointer_or_is}

abbrev give : GiveFacts IsFact intervals
give = intervals_sound.facts

addresses_give : GiveFacts IsFact addresses
addresses_give = record {
  constant = give.constant;
  any = give.any;
  pointer = give.pointer;
  loaded = give.loaded;
  loaded_signed = give.loaded_signed;
  join = λ d e hd he.
      pointer_or_is (intervals.join d e) (intervals.join (as_words d) (as_words e)) (give.join d e hd he)
      (give.join (as_words d) (as_words e) (as_words_is d hd) (as_words_is e he));
  alu = λ arithmetic d e hd he.
      pointer_or_is (intervals.alu arithmetic d e) (intervals.alu arithmetic (as_words d) (as_words e)) (give.alu arithmetic d e hd he)
      (give.alu arithmetic (as_words d) (as_words e) (as_words_is d hd) (as_words_is e he));
  refine = λ width relation taken d e same hd he.
      both_are d e (intervals.refine width relation taken (as_words d) (as_words e) same) hd he
      (give.refine width relation taken (as_words d) (as_words e) same (as_words_is d hd) (as_words_is e he))
      (refine_parts width relation taken (words_of d) (words_of e) same);
}

-- an edge of a compare keeps facts
pub edges_keep : (width : Width) (relation : Relation) (taken : Bool) (d e : Fact) (same : Bool) → IsFact d → IsFact e
    → IfSome (option_map (both_narrowed d e) (intervals.refine width relation taken (as_words d) (as_words e) same)) FactPair
edges_keep width relation taken d e same hd he = addresses_give.refine width relation taken d e same hd he

-- a word that belongs to a fact belongs to the words that the fact is
belongs_as_word : (d : Fact) (w : ℕ) → Belongs IsFact ContainsWord d w → Belongs IsFact ContainsWord (as_words d) w
belongs_as_word d w is = record { fact = as_words_is d is.fact; word = is.word; within = contains_as_words d w is.fact is.within }

after_narrowed : (d e : Fact) (x y : ℕ) (o : Option (Fact × Fact)) → ContainsWord d x → ContainsWord e y → BelongAfter ContainsWord x y o
    → BelongAfter ContainsWord x y (option_map (both_narrowed d e) o)
after_narrowed d e x y None hd he told = told
after_narrowed d e x y (Some both) hd he told = (narrowed_contains d both.0 x hd told.0, narrowed_contains e both.1 y he told.1)

pub addresses_sound : IsSound IsFact ContainsWord addresses
addresses_sound = record {
  facts = addresses_give;
  constant = intervals_sound.constant;
  any = intervals_sound.any;
  pointer = intervals_sound.pointer;
  loaded = intervals_sound.loaded;
  loaded_signed = intervals_sound.loaded_signed;
  join_first = λ d e w hd he.
      pointer_or_contains (intervals.join d e) (intervals.join (as_words d) (as_words e)) w (intervals_sound.join_first d e w hd he)
      (intervals_sound.join_first (as_words d) (as_words e) w (belongs_as_word d w hd) (as_words_is e he));
  join_second = λ d e w hd he.
      pointer_or_contains (intervals.join d e) (intervals.join (as_words d) (as_words e)) w (intervals_sound.join_second d e w hd he)
      (intervals_sound.join_second (as_words d) (as_words e) w (as_words_is d hd) (belongs_as_word e w he));
  alu = λ arithmetic d e x y hd he.
      pointer_or_contains (intervals.alu arithmetic d e) (intervals.alu arithmetic (as_words d) (as_words e)) _
      (intervals_sound.alu arithmetic d e x y hd he)
      (intervals_sound.alu arithmetic (as_words d) (as_words e) x y (belongs_as_word d x hd) (belongs_as_word e y he));
  refine = λ width relation taken d e same x y hd he one is.
      after_narrowed d e x y (intervals.refine width relation taken (as_words d) (as_words e) same) hd.within he.within
      (intervals_sound.refine width relation taken (as_words d) (as_words e) same x y (belongs_as_word d x hd) (belongs_as_word e y he) one is);
  access = intervals_sound.access;
  bounds = λ d w is. (contains_as_words d w is.fact is.within).0;
  offsets = intervals_sound.offsets;
}
