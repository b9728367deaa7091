-- Bytes that come and are written, and connections that begin.
use Rattle.std.proofs.Common.{◌≡◌, ◌<◌, ◌≤◌, ℕ, Bool, true, if◌then◌else◌, List, [], ◌∷◌, ◌++◌, length, take, min, refl, sym, ap, subst, ◌∙◌, arith}
use Rattle.std.specs.Prelude.{◌==◌, Some, None, slice_index_or, slice_set}
use Rattle.std.proofs.lemmas.List.{append-nil, get_or-set_other, get_or-set_same, take_min}
use Rattle.stored_file.specs.Calls as calls
use Rattle.tcp_loop.specs.Trace.{Trace}
use Rattle.tcp_loop.specs.Sockets.{came_on, life_on, taken_of, written_on}
use Rattle.tcp_loop.specs.Disk.{calls_of}
use Rattle.tcp_loop.specs.Deeds.{Meaning, Opened, Sent, life_of, received_on, sent_on}
use Rattle.tcp_loop.specs.Keeping.{KeptState}
use Rattle.tcp_loop.specs.Kept.{Resting, Settled}
use Rattle.tcp_loop.specs.declared.clock.Clock.{Clock}
use Rattle.tcp_loop.specs.Holding.{Holds, piece_of}
use Rattle.tcp_loop.specs.declared.operation.Answer.{Answer}
use Rattle.tcp_loop.specs.declared.operation.Answer.TheVariants as answer
use Rattle.tcp_loop.specs.declared.operation.Operation.TheVariants as operation
use Rattle.tcp_loop.proofs.Attending.{made_in_round, one_more}
use Rattle.tcp_loop.proofs.Keeping.{rests_more, settled_sent}
use Rattle.tcp_loop.proofs.Making.{IsApart, made}
use Rattle.tcp_loop.proofs.Lists.{at_places}

-- the answer by which so many bytes were taken
pub taken_is : (a : Answer) (count : ℕ) → taken_of a ≡ Some count → a ≡ answer.Taken count
taken_is answer.Done count is = cc
taken_is answer.Came count is = cc
taken_is (answer.Taken n) count is = cc
taken_is answer.Again count is = cc
taken_is answer.NoRoom count is = cc
taken_is answer.Failed count is = cc
taken_is (answer.Happened ready) count is = cc
taken_is (answer.Time time) count is = cc
taken_is (answer.Signal ends) count is = cc

module _ {State : Type 0} (m : Meaning State) where
  -- bytes come on a connection of which none wait
  came : (place p : ℕ) (bytes : List ℕ) (opened : List calls.Call) (begun : State) (now : KeptState State) (trace : Trace) (waiting : List (List ℕ)) (clock : Clock)
      → place < length waiting → slice_index_or waiting place [] ≡ [] → p < 40 → (h : Holds m opened begun trace Resting now waiting clock)
      → came_on p trace ++ (if p == place then bytes else []) ≡ received_on p h.deeds ++ slice_index_or (slice_set waiting place bytes) p []
  came place p bytes opened begun now trace waiting clock within none low h =
      at_places place p (λ b. came_on p trace ++ (if b then bytes else []) ≡ received_on p h.deeds ++ slice_index_or (slice_set waiting place bytes) p [])
      (λ here. let before : came_on p trace ≡ received_on p h.deeds =
      h.received p low ∙ ap (λ (l : List ℕ). received_on p h.deeds ++ l) (subst (λ (q : ℕ). slice_index_or waiting q [] ≡ []) here none) ∙ append-nil _ in
      let after : slice_index_or (slice_set waiting place bytes) p [] ≡ bytes =
      subst (λ (q : ℕ). slice_index_or (slice_set waiting place bytes) q [] ≡ bytes) here (get_or-set_same waiting place bytes [] within) in
      ap (λ (l : List ℕ). l ++ bytes) before ∙ ap (λ (l : List ℕ). received_on p h.deeds ++ l) (sym after))
      (λ there. append-nil _ ∙ h.received p low ∙ ap (λ (l : List ℕ). received_on p h.deeds ++ l) (sym (get_or-set_other waiting place p bytes [] there)))

  -- none of it changes where none came
  none_came : (place p : ℕ) (waiting : List (List ℕ)) (clock : Clock) → place < length waiting → slice_index_or waiting place [] ≡ []
      → slice_index_or (slice_set waiting place []) p [] ≡ slice_index_or waiting p []
  none_came place p waiting clock within none =
      at_places place p (λ b. slice_index_or (slice_set waiting place []) p [] ≡ slice_index_or waiting p [])
      (λ here. subst (λ (q : ℕ). slice_index_or (slice_set waiting place []) q [] ≡ slice_index_or waiting q []) here
      (get_or-set_same waiting place [] [] within ∙ sym none)) (λ there. get_or-set_other waiting place p [] [] there)

  no_bytes : (place : ℕ) (carried bytes : List ℕ) (a : Answer) (opened : List calls.Call) (begun : State) (now : KeptState State) (trace : Trace)
      (waiting : List (List ℕ)) (clock : Clock) → place < length waiting → slice_index_or waiting place [] ≡ []
      → ((p : ℕ) → IsApart p (record { asked = operation.Read place; carried = carried; answer = a; came = bytes }) trace)
      → Holds m opened begun trace Resting now waiting clock
      → Holds m opened begun (record { asked = operation.Read place; carried = carried; answer = a; came = bytes } ∷ trace) Resting now
      (slice_set waiting place []) clock
  no_bytes place carried bytes a opened begun now trace waiting clock within none apart h = record {
    deeds = h.deeds;
    done = h.done;
    received = λ p low. (apart p).came ∙ h.received p low
        ∙ ap (λ (l : List ℕ). received_on p h.deeds ++ l) (sym (none_came place p waiting clock within none));
    written = λ p low. (apart p).written ∙ h.written p low;
    lives = λ p low. (apart p).lives ∙ h.lives p low;
    kept = h.kept;
    timed = h.timed;
    in_round = made_in_round _ Resting Resting trace h.deeds (λ rounds each. (tt, each)) (λ round before. tt) h.in_round;
  }

  pub read : (place : ℕ) (carried bytes : List ℕ) (a : Answer) (opened : List calls.Call) (begun : State) (now : KeptState State) (trace : Trace)
      (waiting : List (List ℕ)) (clock : Clock) → place < length waiting → slice_index_or waiting place [] ≡ [] → Holds m opened begun trace Resting now waiting clock
      → Holds m opened begun (record { asked = operation.Read place; carried = carried; answer = a; came = bytes } ∷ trace) Resting now
      (slice_set waiting place (piece_of a bytes)) clock
  read place carried bytes answer.Came opened begun now trace waiting clock within none h = record {
    deeds = h.deeds;
    done = h.done;
    received = λ p low. came place p bytes opened begun now trace waiting clock within none low h;
    written = λ p low. append-nil _ ∙ h.written p low;
    kept = h.kept;
    lives = h.lives;
    timed = h.timed;
    in_round = made_in_round _ Resting Resting trace h.deeds (λ rounds each. (tt, each)) (λ round before. tt) h.in_round;
  }
  read place carried bytes answer.Done opened begun now trace waiting clock within none h =
      no_bytes place carried bytes answer.Done opened begun now trace waiting clock within none (λ p. record { came = append-nil _; written = append-nil _; lives = refl }) h
  read place carried bytes (answer.Taken count) opened begun now trace waiting clock within none h =
      no_bytes place carried bytes (answer.Taken count) opened begun now trace waiting clock within none (λ p. record { came = append-nil _; written = append-nil _; lives = refl }) h
  read place carried bytes answer.Again opened begun now trace waiting clock within none h =
      no_bytes place carried bytes answer.Again opened begun now trace waiting clock within none (λ p. record { came = append-nil _; written = append-nil _; lives = refl }) h
  read place carried bytes answer.NoRoom opened begun now trace waiting clock within none h =
      no_bytes place carried bytes answer.NoRoom opened begun now trace waiting clock within none (λ p. record { came = append-nil _; written = append-nil _; lives = refl }) h
  read place carried bytes answer.Failed opened begun now trace waiting clock within none h =
      no_bytes place carried bytes answer.Failed opened begun now trace waiting clock within none (λ p. record { came = append-nil _; written = append-nil _; lives = refl }) h
  read place carried bytes (answer.Happened ready) opened begun now trace waiting clock within none h =
      no_bytes place carried bytes (answer.Happened ready) opened begun now trace waiting clock within none (λ p. record { came = append-nil _; written = append-nil _; lives = refl }) h
  read place carried bytes (answer.Time time) opened begun now trace waiting clock within none h =
      no_bytes place carried bytes (answer.Time time) opened begun now trace waiting clock within none (λ p. record { came = append-nil _; written = append-nil _; lives = refl }) h
  read place carried bytes (answer.Signal ends) opened begun now trace waiting clock within none h =
      no_bytes place carried bytes (answer.Signal ends) opened begun now trace waiting clock within none (λ p. record { came = append-nil _; written = append-nil _; lives = refl }) h

  -- bytes are written on a connection, as many as were taken
  pub wrote : (place count : ℕ) (bytes : List ℕ) (opened : List calls.Call) (begun : State) (now now' : KeptState State) (trace : Trace) (waiting : List (List ℕ)) (clock : Clock)
      → m.does (Sent place (min count (length (m.to_send place now.state)))) now.state now'.state → now'.file ≡ now.file
      → ((c : List ℕ) → m.stands_for c now.state → m.stands_for c now'.state) → Holds m opened begun trace Settled now waiting clock
      → Holds m opened begun (record { asked = operation.Write place; carried = m.to_send place now.state; answer = answer.Taken count; came = bytes } ∷ trace)
      Settled now' waiting clock
  wrote place count bytes opened begun now now' trace waiting clock did is keeps h = record {
    deeds = Sent place (min count (length (m.to_send place now.state))) ∷ h.deeds;
    done = record { between = now.state; first = h.done; last = did };
    received = λ p low. append-nil _ ∙ h.received p low;
    written = λ p low. ap (λ (l : List ℕ). l ++ (if p == place then take count (m.to_send place now.state) else [])) (h.written p low)
        ∙ ap (λ (l : List ℕ). sent_on m p h.deeds begun now.state h.done ++ l)
        (at_places place p (λ b. (if b then take count (m.to_send place now.state) else [])
        ≡ (if b then take (min count (length (m.to_send place now.state))) (m.to_send p now.state) else []))
        (λ here. subst (λ (q : ℕ). take count (m.to_send place now.state) ≡ take (min count (length (m.to_send place now.state))) (m.to_send q now.state)) here
        (sym (take_min count (m.to_send place now.state)))) (λ there. refl));
    kept = settled_sent m (calls_of opened trace) now.file now'.file now.state now'.state is keeps h.kept;
    lives = h.lives;
    timed = h.timed;
    in_round = one_more Settled Settled _ _ h.deeds (λ round before all reached. tt)
        (made_in_round _ Settled Settled trace h.deeds (λ rounds each. (tt, each)) (λ round before. tt) h.in_round);
  }

  -- or none are
  pub not_written : (place : ℕ) (carried bytes : List ℕ) (a : Answer) (opened : List calls.Call) (begun : State) (now : KeptState State) (trace : Trace)
      (waiting : List (List ℕ)) (clock : Clock) → taken_of a ≡ None → Holds m opened begun trace Settled now waiting clock
      → Holds m opened begun (record { asked = operation.Write place; carried = carried; answer = a; came = bytes } ∷ trace) Settled now waiting clock
  not_written place carried bytes (answer.Taken count) opened begun now trace waiting clock none h = absurd (cc)
  not_written place carried bytes answer.Done opened begun now trace waiting clock none h = made m _ Settled Settled opened begun now trace waiting clock (λ p low. record { came = append-nil _; written = append-nil _; lives = refl }) (λ rounds each. (tt, each)) (λ round before. tt) h h.kept h.timed
  not_written place carried bytes answer.Came opened begun now trace waiting clock none h = made m _ Settled Settled opened begun now trace waiting clock (λ p low. record { came = append-nil _; written = append-nil _; lives = refl }) (λ rounds each. (tt, each)) (λ round before. tt) h h.kept h.timed
  not_written place carried bytes answer.Again opened begun now trace waiting clock none h = made m _ Settled Settled opened begun now trace waiting clock (λ p low. record { came = append-nil _; written = append-nil _; lives = refl }) (λ rounds each. (tt, each)) (λ round before. tt) h h.kept h.timed
  not_written place carried bytes answer.NoRoom opened begun now trace waiting clock none h = made m _ Settled Settled opened begun now trace waiting clock (λ p low. record { came = append-nil _; written = append-nil _; lives = refl }) (λ rounds each. (tt, each)) (λ round before. tt) h h.kept h.timed
  not_written place carried bytes answer.Failed opened begun now trace waiting clock none h = made m _ Settled Settled opened begun now trace waiting clock (λ p low. record { came = append-nil _; written = append-nil _; lives = refl }) (λ rounds each. (tt, each)) (λ round before. tt) h h.kept h.timed
  not_written place carried bytes (answer.Happened ready) opened begun now trace waiting clock none h = made m _ Settled Settled opened begun now trace waiting clock (λ p low. record { came = append-nil _; written = append-nil _; lives = refl }) (λ rounds each. (tt, each)) (λ round before. tt) h h.kept h.timed
  not_written place carried bytes (answer.Time time) opened begun now trace waiting clock none h = made m _ Settled Settled opened begun now trace waiting clock (λ p low. record { came = append-nil _; written = append-nil _; lives = refl }) (λ rounds each. (tt, each)) (λ round before. tt) h h.kept h.timed
  not_written place carried bytes (answer.Signal ends) opened begun now trace waiting clock none h = made m _ Settled Settled opened begun now trace waiting clock (λ p low. record { came = append-nil _; written = append-nil _; lives = refl }) (λ rounds each. (tt, each)) (λ round before. tt) h h.kept h.timed

  -- a connection begins
  pub begins : (place : ℕ) (carried bytes : List ℕ) (opened : List calls.Call) (begun : State) (now now' : KeptState State) (trace : Trace) (waiting : List (List ℕ)) (clock : Clock)
      → place < length waiting → m.does (Opened place) now.state now'.state → now'.file ≡ now.file → Holds m opened begun trace Resting now waiting clock
      → Holds m opened begun (record { asked = operation.Accept place; carried = carried; answer = answer.Done; came = bytes } ∷ trace) Resting now'
      (slice_set waiting place []) clock
  begins place carried bytes opened begun now now' trace waiting clock within did is h = record {
    deeds = Opened place ∷ h.deeds;
    done = record { between = now.state; first = h.done; last = did };
    received = λ p low. at_places place p (λ b. (if b then [] else came_on p trace ++ [])
        ≡ (if b then [] else received_on p h.deeds) ++ slice_index_or (slice_set waiting place []) p [])
        (λ here. sym (subst (λ (q : ℕ). slice_index_or (slice_set waiting place []) q [] ≡ []) here (get_or-set_same waiting place [] [] within)))
        (λ there. append-nil _ ∙ h.received p low ∙ ap (λ (l : List ℕ). received_on p h.deeds ++ l) (sym (get_or-set_other waiting place p [] [] there)));
    written = λ p low. at_places place p (λ b. (if b then [] else written_on p trace ++ [])
        ≡ (if b then [] else sent_on m p h.deeds begun now.state h.done)) (λ here. refl) (λ there. append-nil _ ∙ h.written p low);
    kept = rests_more m (Opened place) (calls_of opened trace) now.file now'.file h.deeds begun now.state now'.state h.done did refl is h.kept;
    lives = λ p low. at_places place p (λ b. (if b then true ∷ life_on p trace else life_on p trace)
        ≡ (if b then true ∷ life_of p h.deeds else life_of p h.deeds)) (λ here. ap (λ (l : List Bool). true ∷ l) (h.lives p low)) (λ there. h.lives p low);
    timed = h.timed;
    in_round = one_more Resting Resting (Opened place) _ h.deeds (λ round before all reached. tt)
        (made_in_round _ Resting Resting trace h.deeds (λ rounds each. (tt, each)) (λ round before. tt) h.in_round);
  }

  -- or none does, at a place
  pub not_begun : (place : ℕ) (carried bytes : List ℕ) (a : Answer) (opened : List calls.Call) (begun : State) (now : KeptState State) (trace : Trace)
      (waiting : List (List ℕ)) (clock : Clock) → (a ≡ answer.Done → 40 ≤ place) → Holds m opened begun trace Resting now waiting clock
      → Holds m opened begun (record { asked = operation.Accept place; carried = carried; answer = a; came = bytes } ∷ trace) Resting now waiting clock
  not_begun place carried bytes answer.Done opened begun now trace waiting clock beyond h =
      made m _ Resting Resting opened begun now trace waiting clock
      (λ p low. record {
        came = at_places place p (λ b. (if b then [] else came_on p trace ++ []) ≡ came_on p trace)
            (λ here. let far : 40 ≤ place = beyond refl in absurd (omega (arith, far, low, here))) (λ there. append-nil _);
        written = at_places place p (λ b. (if b then [] else written_on p trace ++ []) ≡ written_on p trace)
            (λ here. let far : 40 ≤ place = beyond refl in absurd (omega (arith, far, low, here))) (λ there. append-nil _);
        lives = at_places place p (λ b. (if b then true ∷ life_on p trace else life_on p trace) ≡ life_on p trace)
            (λ here. let far : 40 ≤ place = beyond refl in absurd (omega (arith, far, low, here))) (λ there. refl);
      }) (λ rounds each. (tt, each)) (λ round before. tt) h h.kept h.timed
  not_begun place carried bytes answer.Came opened begun now trace waiting clock beyond h = made m _ Resting Resting opened begun now trace waiting clock (λ p low. record { came = append-nil _; written = append-nil _; lives = refl }) (λ rounds each. (tt, each)) (λ round before. tt) h h.kept h.timed
  not_begun place carried bytes (answer.Taken count) opened begun now trace waiting clock beyond h = made m _ Resting Resting opened begun now trace waiting clock (λ p low. record { came = append-nil _; written = append-nil _; lives = refl }) (λ rounds each. (tt, each)) (λ round before. tt) h h.kept h.timed
  not_begun place carried bytes answer.Again opened begun now trace waiting clock beyond h = made m _ Resting Resting opened begun now trace waiting clock (λ p low. record { came = append-nil _; written = append-nil _; lives = refl }) (λ rounds each. (tt, each)) (λ round before. tt) h h.kept h.timed
  not_begun place carried bytes answer.NoRoom opened begun now trace waiting clock beyond h = made m _ Resting Resting opened begun now trace waiting clock (λ p low. record { came = append-nil _; written = append-nil _; lives = refl }) (λ rounds each. (tt, each)) (λ round before. tt) h h.kept h.timed
  not_begun place carried bytes answer.Failed opened begun now trace waiting clock beyond h = made m _ Resting Resting opened begun now trace waiting clock (λ p low. record { came = append-nil _; written = append-nil _; lives = refl }) (λ rounds each. (tt, each)) (λ round before. tt) h h.kept h.timed
  not_begun place carried bytes (answer.Happened ready) opened begun now trace waiting clock beyond h = made m _ Resting Resting opened begun now trace waiting clock (λ p low. record { came = append-nil _; written = append-nil _; lives = refl }) (λ rounds each. (tt, each)) (λ round before. tt) h h.kept h.timed
  not_begun place carried bytes (answer.Time time) opened begun now trace waiting clock beyond h = made m _ Resting Resting opened begun now trace waiting clock (λ p low. record { came = append-nil _; written = append-nil _; lives = refl }) (λ rounds each. (tt, each)) (λ round before. tt) h h.kept h.timed
  not_begun place carried bytes (answer.Signal ends) opened begun now trace waiting clock beyond h = made m _ Resting Resting opened begun now trace waiting clock (λ p low. record { came = append-nil _; written = append-nil _; lives = refl }) (λ rounds each. (tt, each)) (λ round before. tt) h h.kept h.timed
