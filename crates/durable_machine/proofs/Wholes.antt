-- What is found in a file that is read piece by piece.
use Rattle.std.proofs.Common.{Result, Err, Some, ◌≡◌, ◌⊎◌, inl, inr, ◌<◌, ◌≤◌, ◌+◌, ℕ, Bool, false, List, [], ◌∷◌, ◌++◌, length, take, drop, refl, sym, ◌∙◌, ap, subst, arith, append_assoc, length-append, length-take, length-drop}
use Rattle.std.proofs.lemmas.List.{drop_at, drop-drop}
use Rattle.std.proofs.lemmas.List.Sums.{fold-append}
use Rattle.stored_file.specs.Reading.{HasReadCause, IsReadOf}
use Rattle.stored_file.specs.declared.stored_file.FileError.{FileError}
use Rattle.stored_file.specs.declared.stored_file.FileError.TheVariants.{Memory, NoRoom, Failed}
use Rattle.durable_machine.specs.declared.fault.Fault.{Fault}
use Rattle.durable_machine.specs.declared.fault.Fault.TheVariants.{Unreadable, Damaged, Undone, OfFile}
use Rattle.durable_machine.specs.Events.{spelled}
use Rattle.durable_machine.specs.Journal.{AreFrames, BeginsClosed, BeginsNoBatch, IsEnd}
use Rattle.durable_machine.specs.LastBatch.{HasLast, IsLast}
use Rattle.durable_machine.specs.Runs.{state_again}
use Rattle.durable_machine.specs.Files.{joined, whole_sectors}
use Rattle.durable_machine.specs.Bases.{BeginsBase, BeginsNoBase}
use Rattle.durable_machine.specs.Replay.{AreDone, AreAllDone, IsIdleAt, IsIdleEvent}
use Rattle.durable_machine.specs.Refused.{HasNoState, IsDamaged, IsRefused, IsUndone}
use Rattle.durable_machine.specs.Salvage.{HasBegun}
use Rattle.durable_machine.specs.Pieces.{AreAllRead, AreReadDone, FailsToRead, HaltsReading, HasGate, HasReadOn, HoldsOfWhole, IsAfter, IsFound, IsRefusedSoFar, IsRefusedWhole, TellsBatch}
use Rattle.durable_machine.proofs.Files.{joined-append}
use Rattle.durable_machine.proofs.Frames.{frames-append, length-frame}
use Rattle.durable_machine.proofs.Refusing.{damaged, none_loaded, too_short}
use Rattle.durable_machine.proofs.Replaying.{framed, has_begun, is_damaged, is_replayed, is_undone, none_done}
use Rattle.durable_machine.proofs.Windows.{after_rest, after_size, all_known, end_later, front_dropped, gate_later, no_gate, of_known, of_whole, open_later, whole_later, whole_now}

-- batches are no more than their bytes
pub no_more_batches : (at : ℕ) (batches : List (List (List ℕ))) (frames : List ℕ) → AreFrames at batches frames → length batches ≤ length frames
no_more_batches at [] frames are = omega arith
no_more_batches at (batch ∷ batches) frames are =
    omega (arith, ap length are.4, length-append are.0 are.1, length-frame at batch are.0 are.2, no_more_batches (at + length are.0) batches are.1 are.3)

module _ {S : Type 0} (next : S → Bool → List ℕ → S) where
  again-append : (xs ys : List (List (List ℕ))) (old mid new : S) → mid ≡ state_again next (joined xs) old → new ≡ state_again next (joined ys) mid → new ≡ state_again next (joined (xs ++ ys)) old
  again-append xs ys old mid new before by =
      by ∙ ap (state_again next (joined ys)) before
      ∙ sym (fold-append (λ (s : S) (event : List ℕ). next s false event) old (joined xs) (joined ys))
      ∙ ap (λ (es : List (List ℕ)). state_again next es old) (sym (joined-append xs ys))

  -- ---- more bytes

  pub done_more : (begin : ℕ) (bytes rest more : List ℕ) (last count : ℕ) (old new : S) → AreDone next begin bytes rest last count old new → AreDone next begin (bytes ++ more) (rest ++ more) last count old new
  done_more begin bytes rest more last count old new done = record {
    batches = done.batches;
    counted = done.counted;
    frames = done.frames;
    are = done.are;
    parts = ap (λ (l : List ℕ). l ++ more) done.parts ∙ append_assoc done.frames rest more;
    gate = done.gate;
    leads = done.leads;
  }

  pub idle_more : (begin at : ℕ) (bytes more : List ℕ) (old : S) → IsIdleAt next begin at bytes old → IsIdleAt next begin at (bytes ++ more) old
  idle_more begin at bytes more old idle = record {
    batches = idle.batches;
    frames = idle.frames;
    are = idle.are;
    batch = idle.batch;
    frame = idle.frame;
    is = idle.is;
    rest = idle.rest ++ more;
    parts = ap (λ (l : List ℕ). l ++ more) idle.parts ∙ append_assoc idle.frames (idle.frame ++ idle.rest) more ∙ ap (λ (l : List ℕ). idle.frames ++ l) (append_assoc idle.frame idle.rest more);
    offset = idle.offset;
    event = idle.event;
    place = idle.place;
  }

  -- ---- more batches

  module _ (begin at place count : ℕ) (bytes window : List ℕ) (old mid : S) (first : AreDone next begin bytes window place count old mid) (there : at ≡ begin + length first.frames) where
    last_of : (batches : List (List (List ℕ))) (frames : List ℕ) (last : ℕ) → HasLast at batches frames last → HasLast begin (first.batches ++ batches) (first.frames ++ frames) (length first.frames + last)
    last_of batches frames last l =
        let offset : at + length l.first ≡ begin + length (first.frames ++ l.first) = omega (arith, there, length-append first.frames l.first) in
        record {
          before = first.batches ++ l.before;
          batch = l.batch;
          all = ap (λ (bs : List (List (List ℕ))). first.batches ++ bs) l.all ∙ sym (append_assoc first.batches l.before (l.batch ∷ []));
          first = first.frames ++ l.first;
          are = frames-append begin first.batches l.before first.frames l.first first.are (subst (λ (n : ℕ). AreFrames n l.before l.first) there l.are);
          frame = l.frame;
          is = framed l.frame (at + length l.first) (begin + length (first.frames ++ l.first)) l.batch offset l.is;
          parts = ap (λ (l : List ℕ). first.frames ++ l) l.parts ∙ sym (append_assoc first.frames l.first l.frame);
          begins = omega (arith, l.begins, length-append first.frames l.first);
        }

    pub done_then : (rest : List ℕ) (last more : ℕ) (new : S) → AreDone next at window rest last more mid new → 0 < more → AreDone next begin bytes rest (length first.frames + last) (count + more) old new
    done_then rest last more new second some = record {
      batches = first.batches ++ second.batches;
      counted = omega (arith, first.counted, second.counted, length-append first.batches second.batches);
      frames = first.frames ++ second.frames;
      are = frames-append begin first.batches second.batches first.frames second.frames first.are (subst (λ (n : ℕ). AreFrames n second.batches second.frames) there second.are);
      parts = first.parts ∙ ap (λ (l : List ℕ). first.frames ++ l) second.parts ∙ sym (append_assoc first.frames second.frames rest);
      gate = of second.gate;
      leads = again-append first.batches second.batches old mid new first.leads second.leads;
    }
      where
        of : IsLast at second.batches second.frames last → IsLast begin (first.batches ++ second.batches) (first.frames ++ second.frames) (length first.frames + last)
        of (inl none) = absurd (omega (arith, some, second.counted, ap length none.0))
        of (inr l) = inr (last_of second.batches second.frames last l)

    pub idle_then : (n : ℕ) → IsIdleAt next at n window mid → IsIdleAt next begin (length first.frames + n) bytes old
    idle_then n idle =
        let offset : at + length idle.frames ≡ begin + length (first.frames ++ idle.frames) = omega (arith, there, length-append first.frames idle.frames) in
        record {
          batches = first.batches ++ idle.batches;
          frames = first.frames ++ idle.frames;
          are = frames-append begin first.batches idle.batches first.frames idle.frames first.are (subst (λ (n : ℕ). AreFrames n idle.batches idle.frames) there idle.are);
          batch = idle.batch;
          frame = idle.frame;
          is = framed idle.frame (at + length idle.frames) (begin + length (first.frames ++ idle.frames)) idle.batch offset idle.is;
          rest = idle.rest;
          parts = first.parts ∙ ap (λ (l : List ℕ). first.frames ++ l) idle.parts ∙ sym (append_assoc first.frames idle.frames (idle.frame ++ idle.rest));
          offset = idle.offset;
          event = subst (λ (s : S). IsIdleEvent next idle.offset (spelled idle.batch) s) (again-append first.batches idle.batches old mid (state_again next (joined idle.batches) mid) first.leads refl) idle.event;
          place =
              omega (
                arith,
                idle.place,
                length-append (first.frames ++ idle.frames ++ idle.is.sector) idle.is.seal,
                length-append (first.frames ++ idle.frames) idle.is.sector,
                length-append first.frames idle.frames,
                length-append (idle.frames ++ idle.is.sector) idle.is.seal,
                length-append idle.frames idle.is.sector,
              );
        }

  -- ---- what was read

  pub none_read : (begin : ℕ) (given window gate : List ℕ) (s : S) → gate ≡ [] → IsAfter begin given window → AreReadDone next begin given window begin begin 0 gate s s
  none_read begin given window gate s none after = record {
    begun = after.read;
    place = 0;
    done = subst (λ (l : List ℕ). AreDone next begin l window 0 0 s s) after.rest (none_done next begin window s);
    last_is = omega arith;
    ends = after_size begin given window after;
    has_gate = subst (λ (l : List ℕ). HasGate begin begin l given) (sym none) (no_gate begin given);
  }

  module _ (begin end last count : ℕ) (gate given window : List ℕ) (old mid : S) (so_far : AreReadDone next begin given window end last count gate old mid) where
    -- the window has what follows
    frames_end : end ≡ begin + length so_far.done.frames
    frames_end =
        omega (arith, so_far.ends, so_far.begun, ap length so_far.done.parts, length-append so_far.done.frames window, length-drop begin given)

    pub window_after : IsAfter end given window
    window_after = record { read = omega (arith, so_far.ends); rest = sym (same ∙ drop_at so_far.done.frames window (length so_far.done.frames) refl) }
      where
        same : drop end given ≡ drop (length so_far.done.frames) (so_far.done.frames ++ window)
        same =
            ap (λ (n : ℕ). drop n given) (frames_end)
            ∙ sym (drop-drop (length so_far.done.frames) begin given)
            ∙ ap (λ (l : List ℕ). drop (length so_far.done.frames) l) so_far.done.parts

    pub read_further : (more wider : List ℕ) → HasReadOn given more window wider → AreReadDone next begin more wider end last count gate old mid
    read_further more wider read =
        let longer : length more ≡ length given + length read.bytes = omega (arith, ap length read.read, length-append given read.bytes) in
        record {
          begun = omega (arith, so_far.begun, longer);
          place = so_far.place;
          done =
              subst (λ (l : List ℕ). AreDone next begin (drop begin more) l so_far.place count old mid) (sym read.put)
              (subst (λ (l : List ℕ). AreDone next begin l (window ++ read.bytes) so_far.place count old mid)
              (sym (ap (λ (l : List ℕ). drop begin l) read.read ∙ front_dropped begin given read.bytes so_far.begun))
              (done_more begin (drop begin given) window read.bytes so_far.place count old mid so_far.done));
          last_is = so_far.last_is;
          ends = omega (arith, so_far.ends, longer, ap length read.put, length-append window read.bytes);
          has_gate = subst (HasGate last end gate) (sym read.read) (gate_later last end gate given read.bytes so_far.has_gate (omega (arith, so_far.ends)));
        }

    -- the batches in the window were done
    module _ (taken place more : ℕ) (new : S) (all : AreAllDone next end window taken place more mid new) where
      sizes : length window ≡ taken + length all.rest
      sizes = omega (arith, ap length all.done.parts, length-append all.done.frames all.rest, all.size)

      pub rest_is : all.rest ≡ drop taken window
      rest_is = sym (ap (λ (l : List ℕ). drop taken l) all.done.parts ∙ drop_at all.done.frames all.rest taken (sym all.size))

      -- none of them
      pub no_batch : more ≡ 0 → (taken ≡ 0) × (new ≡ mid) × BeginsNoBatch end window
      no_batch none = (zero, same_state, subst (λ (n : ℕ). BeginsNoBatch n window) no_further (subst (BeginsNoBatch (end + taken)) whole all.nothing))
        where
          batches : all.done.batches ≡ []
          batches = nil_of all.done.batches (omega (arith, none, all.done.counted))
            where
              nil_of : (bs : List (List (List ℕ))) → length bs ≡ 0 → bs ≡ []
              nil_of [] is = refl
              nil_of (b ∷ bs) is = absurd (omega (arith, is))

          frames : all.done.frames ≡ []
          frames = subst (λ (bs : List (List (List ℕ))). AreFrames end bs all.done.frames) batches all.done.are

          zero : taken ≡ 0
          zero = omega (arith, all.size, ap length frames)

          same_state : new ≡ mid
          same_state = all.done.leads ∙ ap (λ (bs : List (List (List ℕ))). state_again next (joined bs) mid) batches

          whole : all.rest ≡ window
          whole = rest_is ∙ ap (λ (n : ℕ). drop n window) zero

          no_further : end + taken ≡ end
          no_further = omega (arith, zero)

      -- where the last of them begins
      pub last_there : 0 < more → place + 4096 ≤ taken
      last_there some = of all.done.gate
        where
          of : IsLast end all.done.batches all.done.frames place → place + 4096 ≤ taken
          of (inl none) = absurd (omega (arith, some, all.done.counted, ap length none.0))
          of (inr l) = omega (arith, l.begins, all.size, ap length l.parts, length-append l.first l.frame, length-frame _ l.batch l.frame l.is)

      pub no_more : more ≤ taken
      no_more = omega (arith, all.done.counted, all.size, no_more_batches end all.done.batches all.done.frames all.done.are)

      pub read_batches : (sector rest : List ℕ) → 0 < more → sector ≡ take 4096 (drop place window) → rest ≡ drop taken window
          → AreReadDone next begin given rest (end + taken) (end + place) (count + more) sector old new
      read_batches sector rest some is_gate is_rest =
          let there = last_there some in
          let same : all.rest ≡ rest = rest_is ∙ sym is_rest in
          let long : length sector ≡ 4096 = omega (arith, ap length is_gate, length-take 4096 (drop place window), length-drop place window, there, sizes) in
          record {
            begun = so_far.begun;
            place = length so_far.done.frames + place;
            done = subst (λ (l : List ℕ). AreDone next begin (drop begin given) l (length so_far.done.frames + place) (count + more) old new) same
                (done_then begin end so_far.place count (drop begin given) window old mid so_far.done frames_end all.rest place more new all.done some);
            last_is = omega (arith, frames_end);
            ends = omega (arith, so_far.ends, sizes, ap length same);
            has_gate = record {
              again =
                  ap (λ (n : ℕ). take n (drop (end + place) given)) long
                  ∙ ap (λ (l : List ℕ). take 4096 l) (sym (drop-drop place end given) ∙ ap (λ (l : List ℕ). drop place l) (sym window_after.rest))
                  ∙ sym is_gate;
              size = inl long;
              within = omega (arith, long, there);
            };
          }

    -- an event isn't done again
    pub read_idle : (size n : ℕ) → IsIdleAt next end n window mid → (offset : ℕ) × (end + n ≡ begin + offset) × HoldsOfWhole size given (λ file. IsIdleAt next begin offset (drop begin file) old)
    read_idle size n idle = (
      length so_far.done.frames + n,
      omega (arith, frames_end),
      λ rest is. subst (λ (l : List ℕ). IsIdleAt next begin (length so_far.done.frames + n) l old) (sym (front_dropped begin given rest so_far.begun))
          (idle_more begin (length so_far.done.frames + n) (drop begin given) rest old
          (idle_then begin end so_far.place count (drop begin given) window old mid so_far.done frames_end n idle)),
    )

    -- no further batch follows
    pub all_read : (size : ℕ) → TellsBatch size given window → BeginsNoBatch end window → (4096 < length window) ⊎ (length given ≡ size) → AreAllRead next begin size given window end last count gate old mid
    all_read size told none enough = record {
      so_far = so_far;
      nothing = λ rest is. subst (BeginsNoBatch end) (sym (after_rest end given window rest window_after)) (told end rest is none);
      enough = enough;
    }

module _ {S : Type 0} (loads : List ℕ → S → Type 0) (next : S → Bool → List ℕ → S) (size : ℕ) (given : List ℕ) where
  -- ---- its base and batches

  module _ (base front : ℕ) (first : S) (bases : HoldsOfWhole size given (BeginsBase loads first base)) (is : front ≡ whole_sectors base) where
    pub begun_read : (window : List ℕ) (end last count : ℕ) (gate : List ℕ) (s : S) → AreAllRead next front size given window end last count gate first s
        → HoldsOfWhole size given (λ file. HasBegun loads next end last count file s)
    begun_read window end last count gate s all rest ends =
        let so_far = all.so_far in
        let taken = length so_far.done.frames in
        let there : end ≡ front + taken = frames_end next front end last count gate given window first s so_far in
        let place : last ≡ front + so_far.place = so_far.last_is in
        let left = after_rest end given window rest (window_after next front end last count gate given window first s so_far) in
        subst (λ (n : ℕ). HasBegun loads next n last count (given ++ rest) s) (sym there)
        (subst (λ (n : ℕ). HasBegun loads next (front + taken) n count (given ++ rest) s) (sym place)
        (has_begun next loads (given ++ rest) base front taken so_far.place count first s (bases rest ends) is (omega (arith, so_far.begun, length-append given rest)) (record {
          rest = window ++ rest;
          done = record {
            batches = so_far.done.batches;
            counted = so_far.done.counted;
            frames = so_far.done.frames;
            are = so_far.done.are;
            parts = front_dropped front given rest so_far.begun ∙ ap (λ (l : List ℕ). l ++ rest) so_far.done.parts ∙ append_assoc so_far.done.frames window rest;
            gate = so_far.done.gate;
            leads = so_far.done.leads;
          };
          nothing = subst (λ (n : ℕ). BeginsNoBatch n (window ++ rest)) there (subst (BeginsNoBatch end) left (all.nothing rest ends));
          size = refl;
        })))

    pub undone_read : front ≤ length given → (n : ℕ) → (offset : ℕ) × (n ≡ front + offset) × HoldsOfWhole size given (λ file. IsIdleAt next front offset (drop front file) first)
        → HoldsOfWhole size given (IsUndone loads next n)
    undone_read enough n (offset, place, idle) rest ends =
        subst (λ (k : ℕ). IsUndone loads next k (given ++ rest)) (sym place)
        (is_undone next loads (given ++ rest) base front offset first (bases rest ends) is (omega (arith, enough, length-append given rest)) (idle rest ends))

  pub none_found : HoldsOfWhole size given (BeginsNoBase loads) → HoldsOfWhole size given (HasNoState loads next)
  none_found none rest ends = none_loaded loads next (given ++ rest) (none rest ends)

  module _ (one : (a b x y : List ℕ) (s t : S) → loads a s → loads b t → a ++ x ≡ b ++ y → (a ≡ b) × (s ≡ t)) where
    -- it isn't in whole sectors
    pub short_read : (base front : ℕ) (first : S) → HoldsOfWhole size given (BeginsBase loads first base) → front ≡ whole_sectors base → length given ≡ size → length given < front
        → HoldsOfWhole size given (HasNoState loads next)
    short_read base front first bases is whole short =
        of_whole size (HasNoState loads next) given
        (too_short loads next one given base first (whole_now size (BeginsBase loads first base) given bases whole) (omega (arith, short, is))) whole

    -- ---- what follows

    module _ (window : List ℕ) (end last count : ℕ) (s : S) (begun : HoldsOfWhole size given (λ file. HasBegun loads next end last count file s)) (after : IsAfter end given window)
        (enough : (4096 < length window) ⊎ (length given ≡ size)) where
      pub found_read : (gate : List ℕ) → HasGate last end gate given → IsEnd window → HoldsOfWhole size given (λ file. IsFound loads next end last gate file s)
      found_read gate has over rest ends = record {
        is = is_replayed next loads (given ++ rest) end last count s (begun rest ends)
            (subst IsEnd (sym (after_rest end given window rest after)) (end_later size given window rest enough ends over));
        has_gate = gate_later last end gate given rest has after.read;
      }

      pub damaged_read : (BeginsClosed window → ⊥) → 4096 < length window → HoldsOfWhole size given (λ file. IsDamaged loads next end file × HasNoState loads next file)
      damaged_read not_shut long rest ends =
          let left = after_rest end given window rest after in
          let is : IsDamaged loads next end (given ++ rest) =
          is_damaged next loads (given ++ rest) end last count s (begun rest ends)
          (λ shut. open_later window rest long not_shut (subst BeginsClosed left shut))
          (omega (arith, long, ap length left, length-append window rest)) in
          (is, damaged loads next one end (given ++ rest) is)

-- ---- why a file is refused

module _ {T : Type 0} (was faults : ℕ) (error : FileError) (result : Result T FileError) (is : result ≡ Err error) (cause : HasReadCause was faults result) where
  abbrev err : FileError → Result T FileError
  err e = Err e

  pub fails : FailsToRead was faults error
  fails = (λ same. cause.failed (is ∙ ap err same), λ same. cause.no_room (is ∙ ap err same))

pub fails_later : (a b c d : ℕ) (error : FileError) → a ≤ b → c ≤ d → FailsToRead b c error → FailsToRead a d error
fails_later a b c d error early late (failed, room) = (λ same. (let less = failed same in omega (arith, early, late, less)), room)

pub no_memory : (a b : ℕ) → FailsToRead a b Memory
no_memory a b = (λ same. absurd (other same), λ same. room same)
  where
    other : Memory ≡ Failed → ⊥
    other same = cc

    room : Memory ≡ NoRoom → ⊥
    room same = cc

pub only_memory : (n : ℕ) (error : FileError) → FailsToRead n n error → error ≡ Memory
only_memory n Memory why = refl
only_memory n NoRoom why = absurd (why.1 refl)
only_memory n Failed why = absurd (let less = why.0 refl in omega (arith, less))

module _ {S : Type 0} (loads : List ℕ → S → Type 0) (next : S → Bool → List ℕ → S) where
  -- the rest was read too
  pub refused_whole : (size : ℕ) (given more file : List ℕ) (a b c : ℕ) (fault : Fault) → IsRefusedSoFar loads next size given a b fault → file ≡ given ++ more → length file ≡ size → b ≤ c
      → IsRefusedWhole loads next size file a c fault
  refused_whole size given more file a b c Unreadable is parts whole later =
      (whole, whole_now size (HasNoState loads next) file (whole_later size (HasNoState loads next) given more file is parts) whole)
  refused_whole size given more file a b c (Damaged n) is parts whole later =
      let P = λ (l : List ℕ). IsDamaged loads next n l × HasNoState loads next l in
      let found = whole_now size P file (whole_later size P given more file is parts) whole in
      (whole, found.0, found.1)
  refused_whole size given more file a b c (Undone n) is parts whole later =
      (whole, whole_now size (IsUndone loads next n) file (whole_later size (IsUndone loads next n) given more file is parts) whole)
  refused_whole size given more file a b c (OfFile error) is parts whole later = fails_later a a b c error (omega arith) later is

  -- of a file in memory
  pub refused_known : (size : ℕ) (given file : List ℕ) (n : ℕ) (fault : Fault) → IsRefusedSoFar loads next size given n n fault → IsReadOf given size (Some file) → IsRefused loads next file fault
  refused_known size given file n Unreadable is known = of_known size (HasNoState loads next) given file is known
  refused_known size given file n (Damaged m) is known = of_known size (λ (l : List ℕ). IsDamaged loads next m l × HasNoState loads next l) given file is known
  refused_known size given file n (Undone m) is known = of_known size (IsUndone loads next m) given file is known
  refused_known size given file n (OfFile error) is known = only_memory n error is

  pub refused_read : (size : ℕ) (given file : List ℕ) (n : ℕ) (fault : Fault) → IsRefusedWhole loads next size given n n fault → IsReadOf given size (Some file) → IsRefused loads next file fault
  refused_read size given file n Unreadable is known = subst (HasNoState loads next) (all_known size given file is.0 known) is.1
  refused_read size given file n (Damaged m) is known = subst (λ (l : List ℕ). IsDamaged loads next m l × HasNoState loads next l) (all_known size given file is.0 known) (is.1, is.2)
  refused_read size given file n (Undone m) is known = subst (IsUndone loads next m) (all_known size given file is.0 known) is.1
  refused_read size given file n (OfFile error) is known = only_memory n error is

module _ {S : Type 0} (loads : List ℕ → S → Type 0) (next : S → Bool → List ℕ → S) (size : ℕ) (given : List ℕ) (base front : ℕ) (first : S) where
  -- an event isn't done again, or a read failed
  pub halts_read : HoldsOfWhole size given (BeginsBase loads first base) → front ≡ whole_sectors base → front ≤ length given → (a b c : ℕ) → a ≤ b → (fault : Fault)
      → HaltsReading next front size given first b c fault → IsRefusedSoFar loads next size given a c fault
  halts_read bases is enough a b c later Unreadable halts = absurd halts
  halts_read bases is enough a b c later (Damaged n) halts = absurd halts
  halts_read bases is enough a b c later (Undone n) halts = undone_read loads next size given base front first bases is enough n halts
  halts_read bases is enough a b c later (OfFile error) halts = fails_later a b c c error later (omega arith) halts
