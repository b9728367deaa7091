-- A codec of frames that does nothing.
use Rattle.std.specs.Prelude.{ℕ, List, [], Option}
use Rattle.std.proofs.Common.{◌∙◌, ap, append-nil, refl, sym}
use Rattle.std.proofs.Math.Nat.{add-zero}
use Rattle.image_store.specs.Namespace.{ZonedNamespace}
use Rattle.device_meaning.specs.State.{State}
use Rattle.event_frames.specs.Streams.{IsPartial, behind}
use Rattle.device_serve.specs.FrameStream.{AreCounted, Does, FrameReader, GoesOn, Idle, IsUnread, Stops, seen}
use Rattle.device_serve.specs.declared.fault.ServeFault.{ServeFault}
use Rattle.device_serve.specs.declared.fault.ServeFault.TheVariants as fault

pub counted_none : (place : ℕ) → AreCounted place 0 place
counted_none place n is = is ∙ ap (λ (m : ℕ). behind 0 m) (sym (add-zero n))

module _ {K : Type 0} (has_kept : K → K → ZonedNamespace → Type 0) (becomes : K → K → Type 0) (kept_stays : (k : K) → becomes k k)
    (codec : FrameReader K) (s : State) where
  same_stream : GoesOn has_kept becomes codec codec
  same_stream = record { turns = refl; ends_runs = refl; keeper = kept_stays codec.keeper }

  pub nothing_done : (before : List ℕ) → Does has_kept becomes codec s before [] codec s before
  nothing_done before = record {
    goes_on = same_stream;
    healthy = refl;
    steps = [];
    stream_is = append-nil codec.session.pending;
    counted = counted_none codec.session.place;
    done = refl;
  }

  idle : (left : Option (List ℕ)) (why : ServeFault) → IsUnread why codec.session.pending codec.session.place left
      → Stops has_kept becomes codec s [] [] left codec s [] why
  idle left why unread = record {
    goes_on = same_stream;
    steps = [];
    held = codec.session.pending;
    place = codec.session.place;
    between = seen s [] codec.keeper;
    stream_is = append-nil codec.session.pending;
    counted = counted_none codec.session.place;
    done = refl;
    leaves = Idle unread refl;
  }

  pub not_read : (left : Option (List ℕ)) → IsPartial codec.session.pending
      → Stops has_kept becomes codec s [] [] left codec s [] fault.Read
  not_read left partial = idle left fault.Read partial

  pub no_memory : (left : Option (List ℕ)) → Stops has_kept becomes codec s [] [] left codec s [] fault.Memory
  no_memory left = idle left fault.Memory tt
