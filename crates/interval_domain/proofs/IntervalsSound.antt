-- The domain of intervals is sound.
use Rattle.program_meaning.proofs.Proved.{blocks_are_short}
use Rattle.word_domain.specs.Domain.{IsSound}
use Rattle.interval_domain.proofs.ArithmeticSound.{alu_law}
use Rattle.interval_domain.proofs.EdgeSound.{refine_law}
use Rattle.interval_domain.proofs.FactSound.{any_law, bounds_law, constant_law, join_first, join_second, loaded_law, loaded_signed_law}
use Rattle.interval_domain.proofs.FactsGiven.{intervals_give}
use Rattle.interval_domain.proofs.PointerSound.{access_law, offsets_law, pointer_law}
use Rattle.interval_domain.specs.Fact.{ContainsWord, IsFact}
use Rattle.interval_domain.specs.Intervals.{intervals}

pub intervals_sound : IsSound IsFact ContainsWord intervals
intervals_sound = record {
  facts = intervals_give;
  constant = constant_law;
  any = any_law;
  pointer = pointer_law;
  loaded = loaded_law;
  loaded_signed = λ size n _. loaded_signed_law size n;
  join_first = λ d e w is _. join_first d e w is.within;
  join_second = λ d e w _ is. join_second d e w is.within;
  alu = λ arithmetic d e x y hd he. alu_law arithmetic d e x y hd.within he.within;
  refine = λ width relation taken d e same x y hd he _ is. refine_law width relation taken d e same x y hd.within he.within is;
  access = λ block d offset size area w is told belongs. access_law block d offset size area w (blocks_are_short block is.beside) told belongs.within;
  bounds = λ d w is. bounds_law d w is.within;
  offsets = λ d told w are_told is. offsets_law d told w are_told is.within;
}
