-- Events that wait, and a file to which they are committed.
use Rattle.std.proofs.Common.{◌≡◌, ◌⊎◌, ◌<◌, ◌^◌, inl, inr, ℕ, Bool, false, List, [], ◌∷◌, ◌++◌, length, take, refl, sym, ap, subst, ◌∙◌}
use Rattle.std.proofs.lemmas.List.{take_at}
use Rattle.std.proofs.lemmas.List.Sums.{fold-append}
use Rattle.stored_file.specs.File.{FileState, LeavesOnly}
use Rattle.durable_machine.specs.Events.{spelled}
use Rattle.durable_machine.specs.Journal.{IsAt, StandsFor}
use Rattle.durable_machine.proofs.Spelling.{sized-append, spelled-append}
use Rattle.durable_machine.proofs.Steps.{at_rest}
use Rattle.durable_machine.specs.Files.{IsState, IsDurable, joined}
use Rattle.durable_machine.specs.Runs.{state_again}
use Rattle.durable_machine.specs.Waiting.{IsCommittedBut, IsEither}
use Rattle.durable_machine.proofs.Files.{again-push, is_before, nothing_done, one_state}

-- what was put after others is taken back
pub taken_back : (all waiting more : List ℕ) (n : ℕ) → all ≡ waiting ++ more → n ≡ length waiting → take n all ≡ waiting
taken_back all waiting more n is count = ap (take n) is ∙ take_at waiting more n (sym count)

module _ {S : Type 0} (loads : List ℕ → S → Type 0) (next : S → Bool → List ℕ → S) where
  -- a machine that is kept is committed where nothing waits
  pub all_committed : (waiting : List ℕ) (s : S) (gate : ℕ) (file : FileState) → waiting ≡ [] → IsDurable loads next s gate file
      → IsCommittedBut loads next waiting s gate file
  all_committed waiting s gate file none durable =
      record { committed = s; durable = durable; events = []; sized = tt; are_spelled = none; leads = refl }

  pub no_events : (events : List (List ℕ)) (s : S) → [] ≡ spelled events → state_again next events s ≡ s
  no_events [] s is = refl
  no_events (event ∷ events) s is = absurd (cc)

  -- and one of which nothing waits is kept
  pub is_durable : (waiting : List ℕ) (s : S) (gate : ℕ) (file : FileState) → waiting ≡ [] → IsCommittedBut loads next waiting s gate file → IsDurable loads next s gate file
  is_durable waiting s gate file none but =
      subst (λ (t : S). IsDurable loads next t gate file) (sym (but.leads ∙ no_events but.events but.committed (sym none ∙ but.are_spelled))) but.durable

  -- one event more waits
  pub one_more : (waiting event : List ℕ) (old new : S) (gate : ℕ) (file : FileState) → IsCommittedBut loads next waiting old gate file
      → length event < 2 ^ 64 → new ≡ next old false event → IsCommittedBut loads next (waiting ++ spelled (event ∷ [])) new gate file
  one_more waiting event old new gate file but sized leads = record {
    committed = but.committed;
    durable = but.durable;
    events = but.events ++ event ∷ [];
    sized = sized-append but.events (event ∷ []) but.sized (sized, tt);
    are_spelled = ap (λ (l : List ℕ). l ++ spelled (event ∷ [])) but.are_spelled ∙ sym (spelled-append but.events (event ∷ []));
    leads =
        leads ∙ ap (λ (s : S). next s false event) but.leads
        ∙ sym (fold-append (λ (s : S) (e : List ℕ). next s false e) but.committed but.events (event ∷ []));
  }

  -- what changed nothing waits for nothing
  pub as_before : (waiting : List ℕ) (old new : S) (gate : ℕ) (file : FileState) → IsCommittedBut loads next waiting old gate file → new ≡ old
      → IsCommittedBut loads next waiting new gate file
  as_before waiting old new gate file but same = subst (λ (t : S). IsCommittedBut loads next waiting t gate file) (sym same) but

  module _ (waiting : List ℕ) (s : S) (gate : ℕ) (file : FileState) (but : IsCommittedBut loads next waiting s gate file) where
    leads_on : s ≡ state_again next (joined (but.durable.batches ++ but.events ∷ [])) but.durable.first
    leads_on = again-push next but.durable.batches but.events but.durable.first but.committed s but.durable.leads but.leads

    -- the file has one batch more
    pub is_committed : (end : ℕ) (later : FileState) → IsAt but.durable.front (but.durable.batches ++ but.events ∷ []) end later → IsDurable loads next s end later
    is_committed end later rests = record {
      front = but.durable.front;
      first = but.durable.first;
      begins = but.durable.begins;
      batches = but.durable.batches ++ but.events ∷ [];
      rests = rests;
      leads = leads_on;
    }

    -- or it has it not
    stands_before : (c : List ℕ) → StandsFor but.durable.front but.durable.batches c → IsState loads next c but.committed
    stands_before = is_before loads next but.committed gate file but.durable

    stands_after : (c : List ℕ) → StandsFor but.durable.front (but.durable.batches ++ but.events ∷ []) c → IsState loads next c s
    stands_after c stands = (
      stands.0,
      record {
        front = but.durable.front;
        first = but.durable.first;
        begins = but.durable.begins;
        batches = but.durable.batches ++ but.events ∷ [];
        has = stands.1;
        leads = leads_on;
      },
    )

    module _ (one : (a b x y : List ℕ) (s t : S) → loads a s → loads b t → a ++ x ≡ b ++ y → (a ≡ b) × (s ≡ t)) (before : S) (durable : IsDurable loads next before gate file) where
      -- one machine is kept in the file
      pub same_machine : but.committed ≡ before
      same_machine =
          one_state loads next one file.seen but.committed before
          (is_before loads next but.committed gate file but.durable file.seen (at_rest but.durable.front but.durable.batches gate file but.durable.rests))
          (is_before loads next before gate file durable file.seen (at_rest durable.front durable.batches gate file durable.rests))

      pub is_either_of : (c : List ℕ) → StandsFor but.durable.front but.durable.batches c ⊎ StandsFor but.durable.front (but.durable.batches ++ but.events ∷ []) c
          → IsEither loads next before s c
      is_either_of c (inl stands) = inl (subst (IsState loads next c) same_machine (stands_before c stands))
      is_either_of c (inr stands) = inr (stands_after c stands)

      -- nothing is done
      pub stays : LeavesOnly file file (IsEither loads next before s)
      stays = nothing_done loads next before gate file durable (IsEither loads next before s) (λ c stands. inl stands)
