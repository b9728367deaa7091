-- What happens on one connection leaves all others as they were.
use Rattle.std.proofs.Common.{refl}
use Rattle.std.proofs.lemmas.List.{get_or-set_other}
use Rattle.tcp_target.specs.Places.{vacant}
use Rattle.tcp_target.specs.QueueLaws.{OthersStay, PlacesStay}

pub others_stay : OthersStay
others_stay = record {
  receives = λ number piece s other unlike. get_or-set_other s.places number other _ vacant unlike;
  sends = λ number count s other unlike. get_or-set_other s.places number other _ vacant unlike;
  connects = λ number command request nqn s other unlike. get_or-set_other s.places number other _ vacant unlike;
  answers = λ number command outcome bytes s other unlike. get_or-set_other s.places number other _ vacant unlike;
  keeps = λ number s other unlike. get_or-set_other s.places number other _ vacant unlike;
  hands_over = λ number s other unlike. get_or-set_other s.places number other _ vacant unlike;
  executes = λ number entry outcome bytes s other unlike. get_or-set_other s.places number other _ vacant unlike;
  ends_run = λ number command outcome s other unlike. get_or-set_other s.places number other _ vacant unlike;
  closes = λ number s other unlike. get_or-set_other s.places number other _ vacant unlike;
}

pub places_stay : PlacesStay
places_stay = record { readies = λ id ready s. refl; ends = λ id s. refl }
