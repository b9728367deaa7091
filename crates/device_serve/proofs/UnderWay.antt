-- A round that is under way: how more is done in it, how it ends, and how it breaks off.
use Rattle.std.proofs.Common.{◌≡◌, ◌<◌, ◌≤◌, ◌+◌, ◌-◌, ℕ, zero, suc, inl, inr, List, Option, Some, [], ◌++◌, append_assoc, append-nil, drop, length, take, take-append-drop, refl, sym, ap, subst, ◌∙◌, arith}
use Rattle.std.specs.Prelude.{◌⊎◌}
use Rattle.std.specs.Io.KnownBytes.{Appends, Consumes, Keeps}
use Rattle.std.proofs.KnownBytes.{Consumes-kept, Consumes-nil, Consumes-trans}
use Rattle.std.proofs.Math.Seq.{take-append_seam}
use Rattle.stored_file.specs.File.{FileState, LeavesOnly}
use Rattle.device_meaning.specs.State.{State}
use Rattle.durable_device.specs.Kept.{IsEither}
use Rattle.device_serve.specs.Rounds.{Adding, Answered, Breaks, BreaksOff, Done, DoneInParts, Ending, InRounds, IsUnsent, Round, Site, Stopped, StoppedInParts, StoppingOn, StopsServing, Unsent, afresh, on, stops_afresh}
use Rattle.device_serve.specs.declared.fault.ServeFault.{ServeFault}
use Rattle.device_serve.specs.declared.fault.ServeFault.TheVariants as fault
use Rattle.device_serve.specs.steps.UnderWay.{BreaksThere, IsReading, IsUnderWay, ReadSoFar, ReadsMore, ServesMore, StopsThere}
use Rattle.device_serve.proofs.Serving.{in_join, in_none, in_one, off_here, off_later}

-- whether anything was read
abbrev pub counted : ℕ → ℕ
counted zero = 0
counted (suc n) = 1

-- a round that goes on comes nearer to its end
pub comes_nearer : (most come count next then : ℕ) → 0 < count → come < most → come + next ≤ then ⊎ (most ≤ then)
    → (most - then) + counted next < (most - come) + counted count
comes_nearer most come (suc count) zero then some few (inl more) = omega (arith, few, more)
comes_nearer most come (suc count) zero then some few (inr more) = omega (arith, few, more)
comes_nearer most come (suc count) (suc next) then some few (inl more) = omega (arith, few, more)
comes_nearer most come (suc count) (suc next) then some few (inr more) = omega (arith, few, more)
comes_nearer most come zero next then some few more = absurd (omega (arith, some))

module _ {C D : Type 0} (adds : Adding C) (told : D → FileState) (settled : State → D → Type 0) where
  -- ---- more is done

  -- rounds were served, and nothing is under way
  pub at_rest : (bytes : List ℕ) (first now : Site C D) → InRounds (afresh adds) told settled bytes first now → settled now.state now.disk
      → adds now.codec now.state [] [] now.codec now.state [] → IsUnderWay adds told settled bytes first now []
  at_rest bytes first now served on_disk stays = record {
    first = bytes;
    last = [];
    are = sym (append-nil bytes);
    mid = now;
    served = served;
    on_disk = on_disk;
    done = stays;
    same = refl;
    unwritten = refl;
  }

  pub serves_none : (now : Site C D) (answers : List ℕ) → ServesMore adds told settled [] now answers now answers
  serves_none now answers earlier first under =
      subst (λ (l : List ℕ). IsUnderWay adds told settled l first now answers) (sym (append-nil earlier)) under

  pub serves_both : (bytes more before then after : List ℕ) (a b c : Site C D) → ServesMore adds told settled bytes a before b then
      → ServesMore adds told settled more b then c after → ServesMore adds told settled (bytes ++ more) a before c after
  serves_both bytes more before then after a b c one two earlier first under =
      subst (λ (l : List ℕ). IsUnderWay adds told settled l first c after) (append_assoc earlier bytes more)
      (two (earlier ++ bytes) first (one earlier first under))

  module _ (joins : DoneInParts adds) where
    pub serves_more : (bytes before after : List ℕ) (c c' : C) (s t : State) (w : Option (List ℕ)) (d e : D) → adds c s before bytes c' t after
        → e ≡ d → ServesMore adds told settled bytes (on c s w d) before (on c' t w e) after
    serves_more bytes before after c c' s t w d e done same earlier first under = record {
      first = under.first;
      last = under.last ++ bytes;
      are = ap (λ (l : List ℕ). l ++ bytes) under.are ∙ append_assoc under.first under.last bytes;
      mid = under.mid;
      served = under.served;
      on_disk = under.on_disk;
      done = joins under.mid.codec c c' under.mid.state s t [] before after under.last bytes under.done done;
      same = same ∙ under.same;
      unwritten = under.unwritten;
    }

  -- the front of a piece is served, and this is left
  pub record ServedFront (piece rest : List ℕ) (first : Site C D) (before : List ℕ) (now : Site C D) (answers : List ℕ) : Type 0 where
    pub front : List ℕ
    pub are : piece ≡ front ++ rest
    pub serves : ServesMore adds told settled front first before now answers

  pub front_none : (piece : List ℕ) (s : Site C D) (answers : List ℕ) → ServedFront piece piece s answers s answers
  front_none piece s answers = record { front = []; are = refl; serves = serves_none s answers }

  pub front_more : (piece rest before then after : List ℕ) (count : ℕ) (a b c : Site C D) → ServedFront piece rest a before b then
      → ServesMore adds told settled (take count rest) b then c after → ServedFront piece (drop count rest) a before c after
  front_more piece rest before then after count a b c front more = record {
    front = front.front ++ take count rest;
    are = front.are ∙ ap (λ (l : List ℕ). front.front ++ l) (sym (take-append-drop count rest)) ∙ sym (append_assoc front.front (take count rest) (drop count rest));
    serves = serves_both front.front (take count rest) before then after a b c front.serves more;
  }

  pub front_all : (piece rest before after : List ℕ) (a b : Site C D) → ServedFront piece rest a before b after → rest ≡ []
      → ServesMore adds told settled piece a before b after
  front_all piece rest before after a b front none =
      subst (λ (l : List ℕ). ServesMore adds told settled l a before b after)
      (sym (front.are ∙ ap (λ (l : List ℕ). front.front ++ l) none ∙ append-nil front.front)) front.serves

  -- ---- what was done is committed

  -- what a crash leaves of a commit
  abbrev pub Commits : D → D → State → Type 0
  Commits d e s = (before : State) → settled before d → LeavesOnly (told d) (told e) (IsEither before s)

  -- what a crash leaves of a round that is under way, as its end is committed
  moments_of : (earlier : List ℕ) (first now : Site C D) (answers : List ℕ) (under : IsUnderWay adds told settled earlier first now answers) (d e : D) (s t : State)
      → d ≡ now.disk → Commits d e s → t ≡ s → LeavesOnly (told under.mid.disk) (told e) (IsEither under.mid.state t)
  moments_of earlier first now answers under d e s t here commits same =
      let at : d ≡ under.mid.disk = here ∙ under.same in
      subst (λ (x : State). LeavesOnly (told under.mid.disk) (told e) (IsEither under.mid.state x)) (sym same)
      (subst (λ (x : D). LeavesOnly (told x) (told e) (IsEither under.mid.state s)) at
      (commits under.mid.state (subst (λ (x : D). settled under.mid.state x) (sym at) under.on_disk)))

  -- and answered: so the round is at its end
  pub round_ends : (earlier answers : List ℕ) (first : Site C D) (c : C) (s t : State) (w v : Option (List ℕ)) (d e : D)
      → IsUnderWay adds told settled earlier first (on c s w d) answers → t ≡ s → Commits d e s → settled t e → Appends w v answers
      → InRounds (afresh adds) told settled earlier first (on c t v e)
  round_ends earlier answers first c s t w v d e under same commits on_disk written =
      let round : Round (afresh adds) told settled under.last under.mid (on c t v e) = record {
        answers = answers;
        done = subst (λ (x : State). adds under.mid.codec under.mid.state [] under.last c x answers) (sym same) under.done;
        moments = moments_of earlier first (on c s w d) answers under d e s t refl commits same;
        on_disk = on_disk;
        written = subst (λ (x : Option (List ℕ)). Appends x v answers) under.unwritten written;
      } in
      subst (λ (l : List ℕ). InRounds (afresh adds) told settled l first (on c t v e)) (sym under.are)
      (in_join (afresh adds) told settled under.first under.last first under.mid (on c t v e) under.served
      (in_one (afresh adds) told settled under.last under.mid (on c t v e) round))

  -- the same of what was done after whatever was served before; then nothing is under way
  pub serves_and_rests : (bytes before after : List ℕ) (a : Site C D) (c : C) (s t : State) (w v : Option (List ℕ)) (d e : D)
      → ServesMore adds told settled bytes a before (on c s w d) after → t ≡ s → Commits d e s → settled t e → Appends w v after
      → adds c t [] [] c t [] → ServesMore adds told settled bytes a before (on c t v e) []
  serves_and_rests bytes before after a c s t w v d e serves same commits on_disk written stays earlier first under =
      at_rest (earlier ++ bytes) first (on c t v e)
      (round_ends (earlier ++ bytes) after first c s t w v d e (serves earlier first under) same commits on_disk written) on_disk stays

  module _ (ends : Ending C) (stops : StoppingOn C) where
    unsent_at : (why : ServeFault) (w x v : Option (List ℕ)) → w ≡ x → IsUnsent why w v → IsUnsent why x v
    unsent_at why w x v same unsent = subst (λ (y : Option (List ℕ)). IsUnsent why y v) same unsent

    -- it isn't answered, whatever follows it
    pub unanswered : (earlier more answers : List ℕ) (left : Option (List ℕ)) (first : Site C D) (c : C) (s t : State) (w v : Option (List ℕ)) (d e : D)
        (why : ServeFault) → IsUnderWay adds told settled earlier first (on c s w d) answers → t ≡ s → Commits d e s → IsUnsent why w v
        → (why ≡ fault.Write → settled t e)
        → BreaksOff (afresh adds) told settled ends (stops_afresh stops) (earlier ++ more) left first (on c t v e) why
    unanswered earlier more answers left first c s t w v d e why under same commits unsent on_disk = record {
      first = under.first;
      rest = under.last ++ more;
      are = ap (λ (l : List ℕ). l ++ more) under.are ∙ append_assoc under.first under.last more;
      mid = under.mid;
      served = under.served;
      breaks = Unsent answers
          (Done (length under.last)
          (subst (λ (l : List ℕ). adds under.mid.codec under.mid.state [] l c t answers) (sym (take-append_seam under.last more))
          (subst (λ (x : State). adds under.mid.codec under.mid.state [] under.last c x answers) (sym same) under.done)))
          (unsent_at why w under.mid.written v under.unwritten unsent)
          (moments_of earlier first (on c s w d) answers under d e s t refl commits same)
          on_disk;
    }

    pub breaks_unanswered : (bytes more all before after : List ℕ) (a : Site C D) (c : C) (s t : State) (w v : Option (List ℕ)) (d e : D)
        (why : ServeFault) → ServesMore adds told settled bytes a before (on c s w d) after → t ≡ s → Commits d e s → IsUnsent why w v
        → (why ≡ fault.Write → settled t e) → all ≡ bytes ++ more → BreaksThere adds told settled ends stops all a before (on c t v e) why
    breaks_unanswered bytes more all before after a c s t w v d e why serves same commits unsent on_disk are earlier left first under =
        subst (λ (l : List ℕ). BreaksOff (afresh adds) told settled ends (stops_afresh stops) l left first (on c t v e) why)
        (append_assoc earlier bytes more ∙ ap (λ (l : List ℕ). earlier ++ l) (sym are))
        (unanswered (earlier ++ bytes) more after left first c s t w v d e why (serves earlier first under) same commits unsent on_disk)

    module _ (joins : StoppedInParts adds stops) where
      stops_at : (bytes before after : List ℕ) (left : Option (List ℕ)) (c c' : C) (s t u : State) (w : Option (List ℕ)) (d : D) (why : ServeFault)
          (earlier : List ℕ) (first : Site C D) (under : IsUnderWay adds told settled earlier first (on c s w d) before)
          → stops c s before bytes left c' t after why → u ≡ t
          → stops under.mid.codec under.mid.state [] (under.last ++ bytes) left c' u after why
      stops_at bytes before after left c c' s t u w d why earlier first under stopped same =
          subst (λ (x : State). stops under.mid.codec under.mid.state [] (under.last ++ bytes) left c' x after why) (sym same)
          (joins under.mid.codec c c' under.mid.state s t [] before after under.last bytes left why under.done stopped)

      -- the codec stops within it, and what was done until there is on the disk and answered
      pub stops_answered_there : (bytes before after : List ℕ) (c c' : C) (s t u : State) (w v : Option (List ℕ)) (d f e : D) (why : ServeFault)
          → ((left : Option (List ℕ)) → stops c s before bytes left c' t after why) → f ≡ d → u ≡ t → Commits f e t → settled u e → Appends w v after
          → BreaksThere adds told settled ends stops bytes (on c s w d) before (on c' u v e) why
      stops_answered_there bytes before after c c' s t u w v d f e why stopped here same commits on_disk written earlier left first under = record {
        first = under.first;
        rest = under.last ++ bytes;
        are = ap (λ (l : List ℕ). l ++ bytes) under.are ∙ append_assoc under.first under.last bytes;
        mid = under.mid;
        served = under.served;
        breaks = Answered after (stops_at bytes before after left c c' s t u w d why earlier first under (stopped left) same)
            (moments_of earlier first (on c s w d) before under f e t u here commits same) on_disk
            (subst (λ (x : Option (List ℕ)). Appends x v after) under.unwritten written);
      }

      -- or isn't answered
      pub stops_unanswered_there : (bytes before after : List ℕ) (c c' : C) (s t u : State) (w v : Option (List ℕ)) (d f e : D) (cause why : ServeFault)
          → ((left : Option (List ℕ)) → stops c s before bytes left c' t after cause) → f ≡ d → u ≡ t → Commits f e t → IsUnsent why w v
          → (why ≡ fault.Write → settled u e) → BreaksThere adds told settled ends stops bytes (on c s w d) before (on c' u v e) why
      stops_unanswered_there bytes before after c c' s t u w v d f e cause why stopped here same commits unsent on_disk earlier left first under = record {
        first = under.first;
        rest = under.last ++ bytes;
        are = ap (λ (l : List ℕ). l ++ bytes) under.are ∙ append_assoc under.first under.last bytes;
        mid = under.mid;
        served = under.served;
        breaks = Unsent after (Stopped cause (stops_at bytes before after left c c' s t u w d cause earlier first under (stopped left) same))
            (unsent_at why w under.mid.written v under.unwritten unsent)
            (moments_of earlier first (on c s w d) before under f e t u here commits same) on_disk;
      }

    -- it breaks off after the front of a piece
    pub front_breaks : (piece rest before then : List ℕ) (a b c : Site C D) (why : ServeFault) → ServedFront piece rest a before b then
        → BreaksThere adds told settled ends stops rest b then c why → BreaksThere adds told settled ends stops piece a before c why
    front_breaks piece rest before then a b c why front breaks earlier left first under =
        subst (λ (l : List ℕ). BreaksOff (afresh adds) told settled ends (stops_afresh stops) l left first c why)
        (append_assoc earlier front.front rest ∙ ap (λ (l : List ℕ). earlier ++ l) (sym front.are))
        (breaks (earlier ++ front.front) left first (front.serves earlier first under))

  -- ---- what is read

  pub reads_piece : (left less : Option (List ℕ)) (piece before after : List ℕ) (a b : Site C D) → Consumes left less piece
      → ServesMore adds told settled piece a before b after → ReadsMore adds told settled left less a before b after
  reads_piece left less piece before after a b reads serves unread first reading = record {
    bytes = reading.bytes ++ piece;
    read = Consumes-trans unread left less reading.bytes piece reading.read reads;
    under_way = serves reading.bytes first reading.under_way;
  }

  pub reads_both : (left less least : Option (List ℕ)) (before then after : List ℕ) (a b c : Site C D) → ReadsMore adds told settled left less a before b then
      → ReadsMore adds told settled less least b then c after → ReadsMore adds told settled left least a before c after
  reads_both left less least before then after a b c one two unread first reading = two unread first (one unread first reading)

  -- nothing was read yet
  pub unread_yet : (unread : Option (List ℕ)) (s : Site C D) → settled s.state s.disk → adds s.codec s.state [] [] s.codec s.state []
      → IsReading adds told settled unread unread s s []
  unread_yet unread s on_disk stays =
      record { bytes = []; read = Consumes-nil unread; under_way = at_rest [] s s (in_none (afresh adds) told settled s) on_disk stays }

  -- what was read is served in rounds, once the one under way is at its end
  pub read_so_far : (unread left : Option (List ℕ)) (answers : List ℕ) (first : Site C D) (c : C) (s t : State) (w v : Option (List ℕ)) (d e : D)
      → IsReading adds told settled unread left first (on c s w d) answers → t ≡ s → Commits d e s → settled t e → Appends w v answers
      → ReadSoFar adds told settled unread left first (on c t v e)
  read_so_far unread left answers first c s t w v d e reading same commits on_disk written = record {
    bytes = reading.bytes;
    read = reading.read;
    served = round_ends reading.bytes answers first c s t w v d e reading.under_way same commits on_disk written;
  }

  -- a stream that has come whole is served
  whole_reading : (bytes after : List ℕ) (first now : Site C D) → settled first.state first.disk
      → adds first.codec first.state [] [] first.codec first.state [] → ServesMore adds told settled bytes first [] now after
      → IsReading adds told settled (Some bytes) (Some []) first now after
  whole_reading bytes after first now at_disk stays serves =
      reads_piece (Some bytes) (Some []) bytes [] after first now (sym (append-nil bytes)) serves (Some bytes) first
      (unread_yet (Some bytes) first at_disk stays)

  pub whole_read : (bytes after : List ℕ) (first : Site C D) (c : C) (s t : State) (w v : Option (List ℕ)) (d e : D) → settled first.state first.disk
      → adds first.codec first.state [] [] first.codec first.state [] → ServesMore adds told settled bytes first [] (on c s w d) after → t ≡ s
      → Commits d e s → settled t e → Appends w v after → ReadSoFar adds told settled (Some bytes) (Some []) first (on c t v e)
  whole_read bytes after first c s t w v d e at_disk stays serves same commits on_disk written =
      read_so_far (Some bytes) (Some []) after first c s t w v d e (whole_reading bytes after first (on c s w d) at_disk stays serves) same commits
      on_disk written

  module _ (ends : Ending C) (stops : StoppingOn C) where
    -- a piece breaks off
    pub stops_in_it : (left less : Option (List ℕ)) (piece before : List ℕ) (a b : Site C D) (why : ServeFault) → Consumes left less piece
        → BreaksThere adds told settled ends stops piece a before b why → StopsThere adds told settled ends stops left less a before b why
    stops_in_it left less piece before a b why reads breaks unread first reading = record {
      bytes = reading.bytes ++ piece;
      read = Consumes-trans unread left less reading.bytes piece reading.read reads;
      off = breaks reading.bytes less first reading.under_way;
    }

    pub stops_later : (left less least : Option (List ℕ)) (before then : List ℕ) (a b c : Site C D) (why : ServeFault)
        → ReadsMore adds told settled left less a before b then → StopsThere adds told settled ends stops less least b then c why
        → StopsThere adds told settled ends stops left least a before c why
    stops_later left less least before then a b c why reads stops unread first reading = stops unread first (reads unread first reading)

    -- what was read isn't answered
    pub read_unanswered : (unread left : Option (List ℕ)) (answers : List ℕ) (first : Site C D) (c : C) (s t : State) (w v : Option (List ℕ)) (d e : D)
        (why : ServeFault) → IsReading adds told settled unread left first (on c s w d) answers → t ≡ s → Commits d e s → IsUnsent why w v
        → (why ≡ fault.Write → settled t e)
        → StopsServing (afresh adds) told settled ends (stops_afresh stops) unread left first (on c t v e) why
    read_unanswered unread left answers first c s t w v d e why reading same commits unsent on_disk = record {
      bytes = reading.bytes;
      read = reading.read;
      off = subst (λ (l : List ℕ). BreaksOff (afresh adds) told settled ends (stops_afresh stops) l left first (on c t v e) why) (append-nil reading.bytes)
          (unanswered ends stops reading.bytes [] answers left first c s t w v d e why reading.under_way same commits unsent on_disk);
    }

    -- no more can be read: what was done isn't answered,
    pub unread_unanswered : (left less : Option (List ℕ)) (before : List ℕ) (c : C) (s t : State) (w v : Option (List ℕ)) (d e : D) (why : ServeFault)
        → Keeps left less → t ≡ s → Commits d e s → IsUnsent why w v → (why ≡ fault.Write → settled t e)
        → StopsThere adds told settled ends stops left less (on c s w d) before (on c t v e) why
    unread_unanswered left less before c s t w v d e why keeps same commits unsent on_disk unread first reading =
        read_unanswered unread less before first c s t w v d e why
        (record { bytes = reading.bytes; read = Consumes-kept unread left less reading.bytes reading.read keeps; under_way = reading.under_way })
        same commits unsent on_disk

    -- or is on the disk and answered, and then it stops
    pub unread_answered : (left less : Option (List ℕ)) (before : List ℕ) (c : C) (s t : State) (w v : Option (List ℕ)) (d e : D) (why : ServeFault)
        → Keeps left less → t ≡ s → Commits d e s → settled t e → Appends w v before
        → ((l : Option (List ℕ)) → Breaks (afresh adds) told settled ends (stops_afresh stops) [] l (on c t v e) (on c t v e) why)
        → StopsThere adds told settled ends stops left less (on c s w d) before (on c t v e) why
    unread_answered left less before c s t w v d e why keeps same commits on_disk written breaks unread first reading =
        let served = round_ends reading.bytes before first c s t w v d e reading.under_way same commits on_disk written in
        record {
          bytes = reading.bytes;
          read = Consumes-kept unread left less reading.bytes reading.read keeps;
          off =
              off_later (afresh adds) told settled ends (stops_afresh stops) reading.bytes [] reading.bytes less first (on c t v e) (on c t v e) why
              served (off_here (afresh adds) told settled ends (stops_afresh stops) [] less (on c t v e) (on c t v e) why (breaks less))
              (sym (append-nil reading.bytes));
        }

    pub whole_unanswered : (bytes after : List ℕ) (first : Site C D) (c : C) (s t : State) (w v : Option (List ℕ)) (d e : D) (why : ServeFault)
        → settled first.state first.disk → adds first.codec first.state [] [] first.codec first.state []
        → ServesMore adds told settled bytes first [] (on c s w d) after → t ≡ s → Commits d e s → IsUnsent why w v
        → (why ≡ fault.Write → settled t e)
        → StopsServing (afresh adds) told settled ends (stops_afresh stops) (Some bytes) (Some []) first (on c t v e) why
    whole_unanswered bytes after first c s t w v d e why at_disk stays serves same commits unsent on_disk =
        read_unanswered (Some bytes) (Some []) after first c s t w v d e why (whole_reading bytes after first (on c s w d) at_disk stays serves) same
        commits unsent on_disk

    pub whole_stops : (bytes : List ℕ) (first now : Site C D) (why : ServeFault) → settled first.state first.disk
        → adds first.codec first.state [] [] first.codec first.state [] → BreaksThere adds told settled ends stops bytes first [] now why
        → StopsServing (afresh adds) told settled ends (stops_afresh stops) (Some bytes) (Some []) first now why
    whole_stops bytes first now why at_disk stays breaks =
        stops_in_it (Some bytes) (Some []) bytes [] first now why (sym (append-nil bytes)) breaks (Some bytes) first
        (unread_yet (Some bytes) first at_disk stays)
