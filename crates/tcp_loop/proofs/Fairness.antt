-- What is left to be done for hosts, from point to point of a round.
use Rattle.std.proofs.Common.{ℕ, ◌≡◌, ◌≢◌, ◌≤◌, ◌<◌, ◌+◌, Bool, true, false, List, [], ◌∷◌, ◌++◌, Option, Some, None, sym, ap, subst, ◌∙◌, ⊎_elim, append_assoc, arith}
use Rattle.std.specs.Prelude.{refl, slice_index_or}
use Rattle.std.proofs.lemmas.Bool.{cases_lt, true_from_ne_false}
use Rattle.std.proofs.lemmas.List.{append-nil}
use Rattle.tcp_loop.specs.Trace.{Trace}
use Rattle.tcp_loop.specs.Rounds.{flag}
use Rattle.tcp_loop.specs.Deeds.{Deed, Meaning}
use Rattle.tcp_loop.specs.Law.{IsFrontOf}
use Rattle.tcp_loop.specs.Orderly.{HasGrown, IsOrderly, takes_away, there_after}
use Rattle.tcp_loop.specs.Fair.{Accepts, Begins, Closes, IsFair, IsFirst, IsWatched, IsWatchedAt, Over, Point, Reads, Takes, Tells, ToAccept, ToClose, ToRead, ToWrite, Waits, Writes}
use Rattle.tcp_loop.specs.declared.hosts.Hosts.{Hosts}
use Rattle.tcp_loop.specs.declared.operation.Watched.{Watched}

at_least : (a b : ℕ) → (b < a → ⊥) → a ≤ b
at_least a b never = ⊎_elim (λ (less : b < a). absurd (never less)) (λ (more : a ≤ b). more) (cases_lt b a)

-- ---- bytes that begin with some

front_two : (a b c : List ℕ) → IsFrontOf a b → IsFrontOf b c → IsFrontOf a c
front_two a b c first second =
    (first.0 ++ second.0, second.1 ∙ ap (λ (l : List ℕ). l ++ second.0) first.1 ∙ append_assoc a first.0 second.0)

-- are some where those are
pub some_grows : (old new : List ℕ) → IsFrontOf old new → (old ≡ [] → ⊥) → new ≡ [] → ⊥
some_grows [] new front some none = some refl
some_grows (x ∷ old) new front some none = let e : (x ∷ old) ++ front.0 ≡ [] = sym front.1 ∙ none in cc

module _ {State : Type 0} (m : Meaning State) (h : Hosts) (waiting : List (List ℕ)) (s : State) where
  -- what is watched of a connection where the flags are the same
  pub watched_same : (w w' : Watched) (place : ℕ) → flag place w'.reads ≡ flag place w.reads → flag place w'.writes ≡ flag place w.writes
      → IsWatchedAt m w h waiting s place → IsWatchedAt m w' h waiting s place
  watched_same w w' place reads writes a = record {
    reads = λ is. a.reads (sym reads ∙ is);
    writes = λ is. a.writes (sym writes ∙ is);
    all_read = λ there none. reads ∙ a.all_read there none;
    all_written = λ there some. writes ∙ a.all_written there some;
  }

  -- one more connection is watched
  pub watched_more : (w w' : Watched) (place : ℕ) (reads writes : Bool) → flag place w'.reads ≡ reads
      → ((q : ℕ) → q ≢ place → flag q w'.reads ≡ flag q w.reads) → flag place w'.writes ≡ writes
      → ((q : ℕ) → q ≢ place → flag q w'.writes ≡ flag q w.writes)
      → (reads ≡ true → (flag place h.there ≡ true) × (slice_index_or waiting place [] ≡ []))
      → (reads ≡ false → flag place h.there ≡ true → slice_index_or waiting place [] ≡ [] → ⊥)
      → (writes ≡ true → (flag place h.there ≡ true) × (m.to_send place s ≡ [] → ⊥))
      → (writes ≡ false → flag place h.there ≡ true → (m.to_send place s ≡ [] → ⊥) → ⊥)
      → ((q : ℕ) → q < place → IsWatchedAt m w h waiting s q) → (q : ℕ) → q < place + 1 → IsWatchedAt m w' h waiting s q
  watched_more w w' place reads writes read_is other_reads write_is other_writes is_read not_read is_written not_written below q less =
      ⊎_elim
      (λ (before : q < place). watched_same w w' q (other_reads q (λ is. omega (arith, before, is)))
      (other_writes q (λ is. omega (arith, before, is))) (below q before))
      (λ (not_less : place ≤ q). let is : place ≡ q = omega (arith, less, not_less) in
      let here : IsWatchedAt m w' h waiting s place = record {
        reads = λ so. is_read (sym read_is ∙ so);
        writes = λ so. is_written (sym write_is ∙ so);
        all_read = λ there none. read_is ∙ true_from_ne_false reads (λ never. not_read never there none);
        all_written = λ there some. write_is ∙ true_from_ne_false writes (λ never. not_written never there some);
      } in subst (λ (n : ℕ). IsWatchedAt m w' h waiting s n) is here) (cases_lt q place)

module _ {State : Type 0} (m : Meaning State) (free : State → Option ℕ) (o : IsOrderly m free) where
  -- ---- targets

  pub grown_same : (s s' : State) → s' ≡ s → HasGrown m free o s s'
  grown_same s s' same =
      subst (λ (x : State). HasGrown m free o s x) (sym same)
      (record { there = λ place low. refl; front = λ place low. ([], sym (append-nil (m.to_send place s))) })

  -- by a deed that begins no connection, closes none, and sends nothing
  pub grown_by : (deed : Deed) (s s' : State) → m.does deed s s' → ((place : ℕ) → takes_away place deed ≡ false)
      → ((place : ℕ) (before : Bool) → there_after place deed before ≡ before) → HasGrown m free o s s'
  grown_by deed s s' did none same = record {
    there = λ place low. o.stays deed s s' did place low ∙ same place _;
    front = λ place low. o.grows deed s s' did place low (none place);
  }

  pub grown_two : (s s' s'' : State) → HasGrown m free o s s' → HasGrown m free o s' s'' → HasGrown m free o s s''
  grown_two s s' s'' first second = record {
    there = λ place low. second.there place low ∙ first.there place low;
    front = λ place low. front_two _ _ _ (first.front place low) (second.front place low);
  }

  -- ---- points

  module _ (trace : Trace) (h : Hosts) (waiting : List (List ℕ)) (s : State) where
    -- the program ends
    pub ends_all : (p : Point) → IsFair m free o p trace h waiting s → IsFair m free o Over trace h waiting s
    ends_all p f = record {
      known = f.known;
      there = f.there;
      over = f.over;
      reads = λ place low is. tt;
      writes = λ place low is. tt;
      accepts = λ is. tt;
      closes = λ place low. tt;
      goes_on = tt;
      watching = tt;
    }

    -- the first connection that is to be read
    pub reads_first : (from place : ℕ) → IsFirst (λ q. ToRead q h waiting) from (Some place)
        → IsFair m free o (Reads from) trace h waiting s → IsFair m free o (Reads place) trace h waiting s
    reads_first from place first f = record {
      known = f.known;
      there = f.there;
      over = f.over;
      reads = λ q low is. let left = f.reads q low is in (at_least place q (λ before. first.2 q left.0 before left.1), left.1);
      writes = f.writes;
      accepts = f.accepts;
      closes = λ q low. tt;
      goes_on = tt;
      watching = tt;
    }

    -- none is
    pub reads_none : (from : ℕ) → IsFirst (λ q. ToRead q h waiting) from None
        → IsFair m free o (Reads from) trace h waiting s → IsFair m free o (Writes 0) trace h waiting s
    reads_none from first f = record {
      known = f.known;
      there = f.there;
      over = f.over;
      reads = λ q low is. let left = f.reads q low is in first q left.0 low left.1;
      writes = λ q low is. (omega arith, f.writes q low is);
      accepts = f.accepts;
      closes = λ q low. tt;
      goes_on = tt;
      watching = tt;
    }

    -- the first that is to be written
    pub writes_first : (from place : ℕ) → IsFirst (λ q. ToWrite q h (m.to_send q s)) from (Some place)
        → IsFair m free o (Writes from) trace h waiting s → IsFair m free o (Writes place) trace h waiting s
    writes_first from place first f = record {
      known = f.known;
      there = f.there;
      over = f.over;
      reads = f.reads;
      writes = λ q low is. let left = f.writes q low is in (at_least place q (λ before. first.2 q left.0 before left.1), left.1);
      accepts = f.accepts;
      closes = λ q low. tt;
      goes_on = tt;
      watching = tt;
    }

    -- none is
    pub writes_none : (from : ℕ) → IsFirst (λ q. ToWrite q h (m.to_send q s)) from None
        → IsFair m free o (Writes from) trace h waiting s → IsFair m free o (Writes 40) trace h waiting s
    writes_none from first f = record {
      known = f.known;
      there = f.there;
      over = f.over;
      reads = f.reads;
      writes = λ q low is. let left = f.writes q low is in absurd (first q left.0 low left.1);
      accepts = f.accepts;
      closes = λ q low. tt;
      goes_on = tt;
      watching = tt;
    }

    -- all are written, and time goes on
    pub to_closes : (s' : State) (accepts : Bool) → HasGrown m free o s s' → (h.accepts ≡ true → accepts ≡ true)
        → IsFair m free o (Writes 40) trace h waiting s → IsFair m free o Closes trace (record h { accepts = accepts }) waiting s'
    to_closes s' accepts grown still f = record {
      known = f.known;
      there = λ q low. grown.there q low ∙ f.there q low;
      over = f.over;
      reads = f.reads;
      writes = λ q low is. let left = f.writes q low is in absurd (omega (arith, left.0, low));
      accepts = λ is. let left = f.accepts is in record { ready = left.ready; accepts = still left.accepts; goes_on = left.goes_on };
      closes = λ q low. tt;
      goes_on = tt;
      watching = tt;
    }

    -- none is to be closed
    pub to_accepts : IsFirst (λ q. ToClose q h) 0 None → IsFair m free o Closes trace h waiting s
        → IsFair m free o (Accepts 40) trace h waiting s
    to_accepts first f = record {
      known = f.known;
      there = f.there;
      over = f.over;
      reads = f.reads;
      writes = f.writes;
      accepts = λ is. (omega arith, f.accepts is);
      closes = λ q low over. first q (omega arith) low over;
      goes_on = tt;
      watching = tt;
    }

    -- a host is taken
    pub to_takes : (more : ℕ) → IsFair m free o (Accepts more) trace h waiting s → IsFair m free o Takes trace h waiting s
    to_takes more f = record {
      known = f.known;
      there = f.there;
      over = f.over;
      reads = f.reads;
      writes = f.writes;
      accepts = λ is. tt;
      closes = f.closes;
      goes_on = tt;
      watching = tt;
    }

    -- or none is to be taken
    pub to_tells : (more : ℕ) → (0 < more → ToAccept h → ⊥) → IsFair m free o (Accepts more) trace h waiting s
        → IsFair m free o Tells trace h waiting s
    to_tells more never f = record {
      known = f.known;
      there = f.there;
      over = f.over;
      reads = f.reads;
      writes = f.writes;
      accepts = λ is. let left = f.accepts is in never left.0 left.1;
      closes = f.closes;
      goes_on = tt;
      watching = tt;
    }

    -- where nothing is owed, hosts may be taken
    pub tells_accepts : (more : ℕ) → IsFair m free o Tells trace h waiting s → IsFair m free o (Accepts more) trace h waiting s
    tells_accepts more f = record {
      known = f.known;
      there = f.there;
      over = f.over;
      reads = f.reads;
      writes = f.writes;
      accepts = λ is. absurd (f.accepts is);
      closes = f.closes;
      goes_on = tt;
      watching = tt;
    }

    -- hosts are waited for no longer
    pub tells_full : (accepts : Bool) → IsFair m free o Tells trace h waiting s
        → IsFair m free o Tells trace (record h { accepts = accepts }) waiting s
    tells_full accepts f = record {
      known = f.known;
      there = f.there;
      over = f.over;
      reads = f.reads;
      writes = f.writes;
      accepts = f.accepts;
      closes = λ q low left. f.closes q low (record { there = left.there; over = left.over });
      goes_on = tt;
      watching = tt;
    }

    -- and calls be made
    pub tells_writes : IsFair m free o Tells trace h waiting s → IsFair m free o (Writes 0) trace h waiting s
    tells_writes f = record {
      known = f.known;
      there = f.there;
      over = f.over;
      reads = f.reads;
      writes = λ q low is. absurd (f.writes q low is);
      accepts = λ is. absurd (f.accepts is);
      closes = λ q low. tt;
      goes_on = tt;
      watching = tt;
    }

    -- a round begins
    pub tells_begins : h.ends ≡ false → IsFair m free o Tells trace h waiting s → IsFair m free o Begins trace h waiting s
    tells_begins goes_on f = record {
      known = f.known;
      there = f.there;
      over = f.over;
      reads = f.reads;
      writes = f.writes;
      accepts = f.accepts;
      closes = f.closes;
      goes_on = goes_on;
      watching = tt;
    }

    -- bytes are received, commands are done, and runs have turns
    pub begins_grown : (waiting' : List (List ℕ)) (s' : State) → HasGrown m free o s s' → IsFair m free o Begins trace h waiting s
        → IsFair m free o Begins trace h waiting' s'
    begins_grown waiting' s' grown f = record {
      known = f.known;
      there = λ q low. grown.there q low ∙ f.there q low;
      over = f.over;
      reads = f.reads;
      writes = f.writes;
      accepts = f.accepts;
      closes = f.closes;
      goes_on = f.goes_on;
      watching = tt;
    }

    -- it waits
    pub begins_waits : (watched : Watched) → IsWatched m watched h waiting s → IsFair m free o Begins trace h waiting s
        → IsFair m free o (Waits watched) trace h waiting s
    begins_waits watched watches f = record {
      known = f.known;
      there = f.there;
      over = f.over;
      reads = f.reads;
      writes = f.writes;
      accepts = f.accepts;
      closes = f.closes;
      goes_on = f.goes_on;
      watching = watches;
    }

  -- it is the same state
  pub fair_same : (p : Point) (trace : Trace) (h : Hosts) (waiting : List (List ℕ)) (s s' : State) → s' ≡ s
      → IsFair m free o p trace h waiting s → IsFair m free o p trace h waiting s'
  fair_same p trace h waiting s s' same f = subst (λ (x : State). IsFair m free o p trace h waiting x) (sym same) f

  -- no connection is there at the beginning
  pub fair_at_first : (h : Hosts) (waiting : List (List ℕ)) (s : State) → ((place : ℕ) → place < 40 → flag place h.there ≡ false)
      → ((place : ℕ) → place < 40 → o.is_there place s ≡ false) → IsFair m free o (Writes 0) [] h waiting s
  fair_at_first h waiting s none unknown = record {
    known = none;
    there = unknown;
    over = λ q low is. cc;
    reads = λ q low is. cc;
    writes = λ q low is. cc;
    accepts = λ is. cc;
    closes = λ q low. tt;
    goes_on = tt;
    watching = tt;
  }
