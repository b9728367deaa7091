-- What this crate's code and the crates above cite.
use Rattle.std.proofs.Common.{Bool, IfSome}
use Rattle.std.specs.Option.{option_map}
use Rattle.instruction_set.specs.declared.operation.Relation.{Relation}
use Rattle.instruction_set.specs.declared.operation.Width.{Width}
use Rattle.word_domain.specs.Domain.{IsSound}
use Rattle.interval_domain.specs.Edge.{FactPair}
use Rattle.interval_domain.specs.Fact.{ContainsWord, IsFact}
use Rattle.interval_domain.specs.Intervals.{intervals}
use Rattle.interval_domain.specs.declared.fact.Fact.{Fact}
use Rattle.address_domain.proofs.AddressesSound as addresses_lemma
use Rattle.address_domain.specs.Addresses.{addresses, as_words, both_narrowed}

pub addresses_sound : IsSound IsFact ContainsWord addresses
addresses_sound = addresses_lemma.addresses_sound

pub edges_keep : (width : Width) (relation : Relation) (taken : Bool) (d e : Fact) (same : Bool) → IsFact d → IsFact e
    → IfSome (option_map (both_narrowed d e) (intervals.refine width relation taken (as_words d) (as_words e) same)) FactPair
edges_keep = addresses_lemma.edges_keep
