-- How batches are done again.
use Rattle.std.proofs.Common.{◌≡◌, inl, inr, ◌<◌, ◌≤◌, ◌+◌, ℕ, Bool, false, List, [], ◌∷◌, ◌++◌, length, take, drop, refl, sym, ◌∙◌, ap, subst, arith, append_assoc, length-append, length-take, take-append-drop}
use Rattle.std.proofs.lemmas.List.{append-nil, take-take, drop_at}
use Rattle.std.proofs.lemmas.List.Sums.{fold-append}
use Rattle.durable_machine.specs.Events.{spelled, AreSized, BeginsEvent, BeginsNoEvent}
use Rattle.durable_machine.specs.Seals.{IsSealOf}
use Rattle.durable_machine.specs.Journal.{AreFrames, BeginsBatch, BeginsClosed, BeginsNoBatch, IsEnd, IsFrame}
use Rattle.durable_machine.specs.LastBatch.{IsLast}
use Rattle.durable_machine.proofs.Spelling.{one_list, too_short}
use Rattle.durable_machine.proofs.FirstEvents.{AreFirst, one_more_read}
use Rattle.durable_machine.proofs.Frames.{frames-append, one_frame, length-frame}
use Rattle.durable_machine.specs.Runs.{state_again}
use Rattle.durable_machine.specs.Files.{IsStateAt, joined, whole_sectors}
use Rattle.durable_machine.specs.Bases.{BeginsBase}
use Rattle.durable_machine.specs.Refused.{IsDamaged, IsUndone}
use Rattle.durable_machine.specs.Replay.{AreDone, AreAllDone, IsIdleAt, IsIdleEvent}
use Rattle.durable_machine.specs.Restart.{IsReplayed}
use Rattle.durable_machine.specs.Salvage.{HasBegun}
use Rattle.durable_machine.proofs.Files.{again-push}

-- a frame at an offset that is spelled in another way
abbrev pub framed : (frame : List ℕ) (at there : ℕ) (events : List (List ℕ)) → at ≡ there → IsFrame at events frame → IsFrame there events frame
framed frame at there events same is = record {
  sized = is.sized;
  sector = is.sector;
  is_open = is.is_open;
  seal = is.seal;
  sealed = subst (λ (n : ℕ). IsSealOf n (spelled events) is.seal) same is.sealed;
  padding = is.padding;
  size = is.size;
  parts = is.parts;
}

module _ {S : Type 0} (next : S → Bool → List ℕ → S) where
  -- ---- the events of a batch

  -- those that are done so far
  pub record AreAgain (bytes rest : List ℕ) (old new : S) : Type 0 where
    pub events : List (List ℕ)
    pub first : AreFirst events rest bytes
    pub leads : new ≡ state_again next events old

  pub none_again : (bytes : List ℕ) (s : S) → AreAgain bytes bytes s s
  none_again bytes s = record { events = []; first = record { sized = tt; parts = refl }; leads = refl }

  pub one_more_again : (bytes rest event behind : List ℕ) (old mid new : S) → AreAgain bytes rest old mid → BeginsEvent event behind rest → new ≡ next mid false event → AreAgain bytes behind old new
  one_more_again bytes rest event behind old mid new so_far begins by = record {
    events = so_far.events ++ event ∷ [];
    first = one_more_read so_far.events event behind rest bytes so_far.first begins;
    leads = by ∙ ap (λ (s : S). next s false event) so_far.leads ∙ sym (fold-append (λ (s : S) (e : List ℕ). next s false e) old so_far.events (event ∷ []));
  }

  -- all that the bytes spell are done, when no other follows
  pub all_again : (bytes rest : List ℕ) (old new : S) → AreAgain bytes rest old new → BeginsNoEvent rest → (events : List (List ℕ)) → AreSized events → bytes ≡ spelled events → new ≡ state_again next events old
  all_again bytes rest old new done nothing events sized are =
      let none : BeginsNoEvent [] = too_short [] (omega arith) in
      let same : done.events ≡ events = one_list done.events events rest [] done.first.sized sized nothing none (sym done.first.parts ∙ are ∙ sym (append-nil (spelled events))) in
      done.leads ∙ ap (λ (es : List (List ℕ)). state_again next es old) same

  -- the next one changes nothing
  pub idle_event : (bytes rest event behind : List ℕ) (at : ℕ) (old mid new : S) → AreAgain bytes rest old mid → BeginsEvent event behind rest → new ≡ mid → new ≡ next mid false event
      → at + length rest ≡ length bytes → IsIdleEvent next at bytes old × (at ≤ length bytes)
  idle_event bytes rest event behind at old mid new so_far begins stays by place = (
    record {
      before = so_far.events;
      sized = so_far.first.sized;
      event = event;
      behind = rest;
      rest = behind;
      begins = begins;
      parts = so_far.first.parts;
      place = omega (arith, place, ap length so_far.first.parts, length-append (spelled so_far.events) rest);
      idle = ap (λ (s : S). next s false event) (sym so_far.leads) ∙ sym by ∙ stays ∙ so_far.leads;
    },
    omega (arith, place),
  )

  -- ---- the batches of a journal

  pub none_done : (begin : ℕ) (bytes : List ℕ) (s : S) → AreDone next begin bytes bytes 0 0 s s
  none_done begin bytes s = record { batches = []; counted = refl; frames = []; are = refl; parts = refl; gate = inl (refl, refl); leads = refl }

  pub one_more_done : (begin at : ℕ) (bytes rest behind : List ℕ) (events : List (List ℕ)) (before last count : ℕ) (old mid new : S) → AreDone next begin bytes rest before count old mid → BeginsBatch at events behind rest
      → new ≡ state_again next events mid → last + length rest ≡ length bytes → at ≡ begin + last → AreDone next begin bytes behind last (count + 1) old new
  one_more_done begin at bytes rest behind events before last count old mid new so_far begins by place offset =
      let begun : last ≡ length so_far.frames = omega (arith, place, ap length so_far.parts, length-append so_far.frames rest) in
      let there : at ≡ begin + length so_far.frames = omega (arith, offset, begun) in
      let is : IsFrame (begin + length so_far.frames) events begins.frame = subst (λ (n : ℕ). IsFrame n events begins.frame) there begins.is in
      record {
        batches = so_far.batches ++ events ∷ [];
        counted = omega (arith, so_far.counted, length-append so_far.batches (events ∷ []));
        frames = so_far.frames ++ begins.frame;
        are = frames-append begin so_far.batches (events ∷ []) so_far.frames begins.frame so_far.are (one_frame (begin + length so_far.frames) events begins.frame is);
        parts = so_far.parts ∙ ap (λ (l : List ℕ). so_far.frames ++ l) begins.parts ∙ sym (append_assoc so_far.frames begins.frame behind);
        gate = inr (record {
          before = so_far.batches;
          batch = events;
          all = refl;
          first = so_far.frames;
          are = so_far.are;
          frame = begins.frame;
          is = is;
          parts = refl;
          begins = begun;
        });
        leads = again-push next so_far.batches events old mid new so_far.leads by;
      }

  -- an event of the next batch changes nothing
  pub idle_batch : (begin gate : ℕ) (bytes rest told behind : List ℕ) (events : List (List ℕ)) (last count at before event : ℕ) (old mid : S) → AreDone next begin bytes rest last count old mid → told ≡ spelled events
      → (begins : BeginsBatch gate events behind rest) → before ≡ 4096 + length begins.is.seal → IsIdleEvent next event told mid × (event ≤ length told) → at + length rest ≡ length bytes → gate ≡ begin + at
      → IsIdleAt next begin (at + before + event) bytes old × (at + before + event ≤ length bytes)
  idle_batch begin gate bytes rest told behind events last count at before event old mid so_far are begins seal (idle, within) place offset =
      let begun : at ≡ length so_far.frames = omega (arith, place, ap length so_far.parts, length-append so_far.frames rest) in
      let there : gate ≡ begin + length so_far.frames = omega (arith, offset, begun) in (
        record {
          batches = so_far.batches;
          frames = so_far.frames;
          are = so_far.are;
          batch = events;
          frame = begins.frame;
          is = framed begins.frame gate (begin + length so_far.frames) events there begins.is;
          rest = behind;
          parts = so_far.parts ∙ ap (λ (l : List ℕ). so_far.frames ++ l) begins.parts;
          offset = event;
          event = subst (λ (l : List ℕ). IsIdleEvent next event l (state_again next (joined so_far.batches) old)) are (subst (λ (s : S). IsIdleEvent next event told s) so_far.leads idle);
          place =
              omega (
                arith,
                begun,
                seal,
                begins.is.is_open.size,
                length-append (so_far.frames ++ begins.is.sector) begins.is.seal,
                length-append so_far.frames begins.is.sector,
              );
        },
        omega (
          arith,
          place,
          within,
          seal,
          ap length are,
          ap length begins.parts,
          ap length begins.is.parts,
          begins.is.is_open.size,
          length-append begins.frame behind,
          length-append begins.is.sector (begins.is.seal ++ spelled events ++ 0 ∷ begins.is.padding),
          length-append (begins.is.seal ++ spelled events) (0 ∷ begins.is.padding),
          length-append begins.is.seal (spelled events),
        ),
      )

  -- it begins where the rest did
  pub last_within : (begin : ℕ) (bytes rest : List ℕ) (last count : ℕ) (old new : S) → AreDone next begin bytes rest last count old new → last + length rest ≤ length bytes
  last_within begin bytes rest last count old new done = of done.gate
    where
      of : IsLast begin done.batches done.frames last → last + length rest ≤ length bytes
      of (inl none) = omega (arith, none.1, ap length done.parts, length-append done.frames rest)
      of (inr l) = omega (arith, l.begins, ap length l.parts, length-append l.first l.frame, ap length done.parts, length-append done.frames rest)

  pub fewer : (at : ℕ) (events : List (List ℕ)) (behind rest : List ℕ) → BeginsBatch at events behind rest → length behind < length rest
  fewer at events behind rest begins = omega (arith, ap length begins.parts, length-append begins.frame behind, length-frame at events begins.frame begins.is)

  pub all_done : (begin at : ℕ) (bytes rest : List ℕ) (taken last count : ℕ) (old new : S) → AreDone next begin bytes rest last count old new → BeginsNoBatch at rest → taken + length rest ≡ length bytes
      → at ≡ begin + taken → AreAllDone next begin bytes taken last count old new
  all_done begin at bytes rest taken last count old new done nothing size offset = record {
    rest = rest;
    done = done;
    nothing = subst (λ (n : ℕ). BeginsNoBatch n rest) offset nothing;
    size = omega (arith, size, ap length done.parts, length-append done.frames rest);
  }

  -- ---- a file

  module _ (loads : List ℕ → S → Type 0) (file : List ℕ) where
    -- its base and batches
    pub has_begun : (base front taken last count : ℕ) (first s : S) → BeginsBase loads first base file → front ≡ whole_sectors base → front ≤ length file
        → AreAllDone next front (drop front file) taken last count first s → HasBegun loads next (front + taken) (front + last) count file s
    has_begun base front taken last count first s begins size enough all =
        let long : length (take front file) ≡ front = omega (arith, length-take front file, enough) in
        record {
          front = take front file;
          first = first;
          begins = record {
            base = take base file;
            padding = drop base (take front file);
            loaded = begins.loaded;
            parts = sym (take-append-drop base (take front file)) ∙ ap (λ (l : List ℕ). l ++ drop base (take front file)) (take-take base front file (omega (arith, size)));
            size = omega (arith, long, size, length-take base file, begins.within);
          };
          batches = all.done.batches;
          counted = all.done.counted;
          frames = all.done.frames;
          are = subst (λ (n : ℕ). AreFrames n all.done.batches all.done.frames) (sym long) all.done.are;
          rest = all.rest;
          parts = sym (take-append-drop front file) ∙ ap (λ (l : List ℕ). take front file ++ l) all.done.parts ∙ sym (append_assoc (take front file) all.done.frames all.rest);
          nothing = all.nothing;
          ends = omega (arith, long, all.size, length-append (take front file) all.done.frames);
          offset = last;
          gate = subst (λ (n : ℕ). IsLast n all.done.batches all.done.frames last) (sym long) all.done.gate;
          last_is = omega (arith, long);
          leads = all.done.leads;
        }

    module _ (end last count : ℕ) (s : S) (begun : HasBegun loads next end last count file s) where
      -- what stands after the batches
      pub left : drop end file ≡ begun.rest
      left = ap (λ (l : List ℕ). drop end l) begun.parts ∙ drop_at (begun.front ++ begun.frames) begun.rest end (sym begun.ends)

      pub end_in_file : end ≤ length file
      end_in_file = omega (arith, begun.ends, ap length begun.parts, length-append (begun.front ++ begun.frames) begun.rest)

      is_state : IsEnd (drop end file) → IsStateAt loads next end file s
      is_state over = record {
        front = begun.front;
        first = begun.first;
        begins = begun.begins;
        batches = begun.batches;
        has = record { frames = begun.frames; are = begun.are; rest = begun.rest; parts = begun.parts; last = subst IsEnd left over; ends = begun.ends };
        leads = begun.leads;
      }

      pub is_replayed : IsEnd (drop end file) → IsReplayed loads next end last file s
      unfolding is_state
      is_replayed over = record { is = is_state over; offset = begun.offset; gate = begun.gate; last_is = begun.last_is }

      pub is_damaged : (BeginsClosed (drop end file) → ⊥) → 4096 < length (drop end file) → IsDamaged loads next end file
      is_damaged not_closed longer = record {
        front = begun.front;
        first = begun.first;
        begins = begun.begins;
        batches = begun.batches;
        is = record {
          frames = begun.frames;
          are = begun.are;
          rest = begun.rest;
          parts = begun.parts;
          damage = record { not_closed = λ shut_gate. not_closed (subst BeginsClosed (sym left) shut_gate); longer = omega (arith, longer, ap length left); nothing = begun.nothing };
          ends = begun.ends;
        };
      }

  -- ---- a file with an event that isn't done again

  pub is_undone : (loads : List ℕ → S → Type 0) (file : List ℕ) (base front at : ℕ) (first : S) → BeginsBase loads first base file → front ≡ whole_sectors base → front ≤ length file
      → IsIdleAt next front at (drop front file) first → IsUndone loads next (front + at) file
  is_undone loads file base front at first begins size enough idle =
      let long : length (take front file) ≡ front = omega (arith, length-take front file, enough) in
      record {
        front = take front file;
        first = first;
        begins = record {
          base = take base file;
          padding = drop base (take front file);
          loaded = begins.loaded;
          parts = sym (take-append-drop base (take front file)) ∙ ap (λ (l : List ℕ). l ++ drop base (take front file)) (take-take base front file (omega (arith, size)));
          size = omega (arith, long, size, length-take base file, begins.within);
        };
        behind = drop front file;
        parts = sym (take-append-drop front file);
        offset = at;
        idle = subst (λ (n : ℕ). IsIdleAt next n at (drop front file) first) (sym long) idle;
        place = omega (arith, long);
      }
