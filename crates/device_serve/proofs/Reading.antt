-- What was read of a stream so far, and how that goes on.
use Rattle.std.proofs.Common.{◌≡◌, ℕ, List, Option, [], ◌++◌, append-nil, refl, sym, subst}
use Rattle.std.specs.Io.KnownBytes.{IsAtEnd}
use Rattle.std.proofs.KnownBytes.{Consumes-nil, Consumes-trans, Consumes-whole}
use Rattle.stored_file.specs.File.{FileState}
use Rattle.device_meaning.specs.State.{State}
use Rattle.device_serve.specs.Rounds.{Adding, Breaks, Ending, InRounds, LastRound, Round, ServesStream, Site, StoppingOn, StopsServing, afresh, stops_afresh}
use Rattle.device_serve.specs.declared.fault.ServeFault.{ServeFault}
use Rattle.device_serve.specs.steps.UnderWay.{ReadSoFar}
use Rattle.device_serve.proofs.Serving.{in_join, in_none, in_one, off_here, off_later}

module _ {C D : Type 0} (adds : Adding C) (told : D → FileState) (settled : State → D → Type 0) where
  pub none_read : (unread : Option (List ℕ)) (s : Site C D) → ReadSoFar adds told settled unread unread s s
  none_read unread s = record { bytes = []; read = Consumes-nil unread; served = in_none (afresh adds) told settled s }

  pub read_on : (unread left less : Option (List ℕ)) (a b c : Site C D) → ReadSoFar adds told settled unread left a b
      → ReadSoFar adds told settled left less b c → ReadSoFar adds told settled unread less a c
  read_on unread left less a b c so_far more = record {
    bytes = so_far.bytes ++ more.bytes;
    read = Consumes-trans unread left less so_far.bytes more.bytes so_far.read more.read;
    served = in_join (afresh adds) told settled so_far.bytes more.bytes a b c so_far.served more.served;
  }

  pub round_read : (unread left : Option (List ℕ)) (a b c : Site C D) → ReadSoFar adds told settled unread left a b
      → Round (afresh adds) told settled [] b c → ReadSoFar adds told settled unread left a c
  round_read unread left a b c so_far round = record {
    bytes = so_far.bytes;
    read = so_far.read;
    served = subst (λ (l : List ℕ). InRounds (afresh adds) told settled l a c) (append-nil so_far.bytes)
        (in_join (afresh adds) told settled so_far.bytes [] a b c so_far.served (in_one (afresh adds) told settled [] b c round));
  }

  module _ (ends : Ending C) where
    pub stream_ends : (unread left : Option (List ℕ)) (a b c : Site C D) → ReadSoFar adds told settled unread left a b → IsAtEnd left
        → LastRound (afresh adds) told settled ends b c → ServesStream (afresh adds) told settled ends unread a c
    stream_ends unread left a b c so_far end last = record {
      bytes = so_far.bytes;
      all = Consumes-whole unread left so_far.bytes (λ known. known ≡ so_far.bytes) so_far.read end refl;
      mid = b;
      served = so_far.served;
      last = last;
    }

    module _ (stops : StoppingOn C) where
      -- in what is read then
      pub stops_reading : (unread left less : Option (List ℕ)) (a b c : Site C D) (why : ServeFault) → ReadSoFar adds told settled unread left a b
          → StopsServing (afresh adds) told settled ends (stops_afresh stops) left less b c why
          → StopsServing (afresh adds) told settled ends (stops_afresh stops) unread less a c why
      stops_reading unread left less a b c why so_far then = record {
        bytes = so_far.bytes ++ then.bytes;
        read = Consumes-trans unread left less so_far.bytes then.bytes so_far.read then.read;
        off =
            off_later (afresh adds) told settled ends (stops_afresh stops) so_far.bytes then.bytes (so_far.bytes ++ then.bytes) less a b c why
            so_far.served then.off refl;
      }

      -- in a round without bytes
      pub stops_in_round : (unread left : Option (List ℕ)) (a b c : Site C D) (why : ServeFault) → ReadSoFar adds told settled unread left a b
          → Breaks (afresh adds) told settled ends (stops_afresh stops) [] left b c why
          → StopsServing (afresh adds) told settled ends (stops_afresh stops) unread left a c why
      stops_in_round unread left a b c why so_far breaks = record {
        bytes = so_far.bytes;
        read = so_far.read;
        off =
            off_later (afresh adds) told settled ends (stops_afresh stops) so_far.bytes [] so_far.bytes left a b c why so_far.served
            (off_here (afresh adds) told settled ends (stops_afresh stops) [] left b c why breaks) (sym (append-nil so_far.bytes));
      }
