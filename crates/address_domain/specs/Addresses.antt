-- The domain of addresses: that of intervals, in which an address is a word too (profile).
use Rattle.std.specs.Prelude.{ℕ, ℤ, true, pos, nat_abs, ◌+ℤ◌, ◌-ℤ◌}
use Rattle.std.specs.Option.{option_map}
use Rattle.program_interface.specs.Area.{address_of}
use Rattle.program_interface.specs.declared.area.Area.{Area}
use Rattle.word_domain.specs.Domain.{Operations}
use Rattle.word_domain.specs.declared.bounds.Bounds.{Bounds}
use Rattle.interval_domain.specs.Fact.{range}
use Rattle.interval_domain.specs.Intervals.{intervals}
use Rattle.interval_domain.specs.declared.fact.Fact.{Fact}
use Rattle.interval_domain.specs.declared.fact.Fact.TheVariants.{Words, Pointer}

-- the address at a distance from an area's
abbrev pub address_at : Area → ℤ → ℕ
address_at area distance = nat_abs (pos (address_of area) +ℤ distance)

-- the bounds of a fact's words: of a pointer the addresses at its distances
abbrev pub words_of : Fact → Bounds
words_of (Words b) = b
words_of (Pointer area low high) = range (address_at area low) (address_at area high)

-- a fact as one about words alone
abbrev pub as_words : Fact → Fact
as_words f = Words (words_of f)

-- a pointer where there is one, else words
abbrev pub pointer_or : Fact → Fact → Fact
pointer_or (Pointer area low high) words = Pointer area low high
pointer_or (Words b) words = words

-- a fact with these words: a pointer stays one into its area
abbrev pub narrowed_to : Fact → Fact → Fact
narrowed_to (Pointer area low high) (Words b) =
    Pointer area (pos b.low -ℤ pos (address_of area)) (pos b.high -ℤ pos (address_of area))
narrowed_to f g = g

-- both facts with the words of two others
abbrev pub both_narrowed : Fact → Fact → Fact × Fact → Fact × Fact
both_narrowed d s told = (narrowed_to d told.0, narrowed_to s told.1)

-- the operations of the domain of addresses
abbrev pub addresses : Operations Fact
addresses = record intervals {
  join = λ d e. pointer_or (intervals.join d e) (intervals.join (as_words d) (as_words e));
  alu = λ arithmetic d s. pointer_or (intervals.alu arithmetic d s) (intervals.alu arithmetic (as_words d) (as_words s));
  refine = λ width relation taken d s same.
      option_map (both_narrowed d s) (intervals.refine width relation taken (as_words d) (as_words s) same);
  bounds = words_of;
  tracks_sums = true;
}
