-- What the rules for facts come to: the operations of the domain of intervals (profile).
use Rattle.std.specs.Prelude.{false, pos}
use Rattle.word_domain.specs.Domain.{Operations}
use Rattle.interval_domain.specs.Arithmetic.{alu_of}
use Rattle.interval_domain.specs.Edge.{refine_of}
use Rattle.interval_domain.specs.Fact.{area_accessed, bounds_of, full, join_of, loaded_of, loaded_signed_of, offsets_of, pointer_to, single}
use Rattle.interval_domain.specs.declared.fact.Fact.{Fact}
use Rattle.interval_domain.specs.declared.fact.Fact.TheVariants.{Words}

-- the operations of the domain of intervals
abbrev pub intervals : Operations Fact
intervals = record {
  constant = λ w. Words (single w);
  any = Words full;
  pointer = λ area k. pointer_to area (pos k) (pos k);
  loaded = loaded_of;
  loaded_signed = loaded_signed_of;
  join = join_of;
  alu = alu_of;
  refine = refine_of;
  access = area_accessed;
  bounds = bounds_of;
  offsets = offsets_of;
  tracks_sums = false;
}
