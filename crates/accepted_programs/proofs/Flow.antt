-- What is known at a slot is met by each state that a step leads there.
use Rattle.std.specs.Prelude.{ℕ, zero, suc, ◌≡◌, ◌+◌, ◌-◌, ◌<◌, ◌^◌, Bool, true, false, ◌==◌, List, [], ◌∷◌, get_or, Option, Some, None, if◌then◌else◌}
use Rattle.std.proofs.Common.{arith, add-zero, add-suc, subst}
use Rattle.std.proofs.lemmas.Bool.{eq-eqb}
use Rattle.std.specs.List.{AllByRecursion}
use Rattle.instruction_set.specs.Instruction.{distance_of}
use Rattle.instruction_set.specs.Program.{instruction_at}
use Rattle.instruction_set.specs.declared.instruction.Instruction.{Instruction}
use Rattle.program_meaning.specs.State.{IsState, State}
use Rattle.program_interface.specs.declared.area.Area.TheVariants.{Stack}
use Rattle.word_domain.specs.Domain.{IsSound, Operations}
use Rattle.accepted_programs.proofs.CellLaws.{joined_known, word_fits}
use Rattle.accepted_programs.specs.Cells.{joined_each}
use Rattle.accepted_programs.specs.Facts.{facts_at, facts_at_target, facts_behind, given_below, gives, leads, merge, slot_behind}
use Rattle.accepted_programs.proofs.KnownFacts.{AreFacts, SomeAreFacts, ahead_given, behind_given, given_facts, known_facts, merge_facts}
use Rattle.accepted_programs.proofs.Edges.{IsAlong, Moved}
use Rattle.accepted_programs.proofs.SumLaws.{join_first_fits, join_second_fits}
use Rattle.accepted_programs.proofs.Untracked.{tracked_holds}
use Rattle.accepted_programs.specs.Meets.{AreWithin, Belong, MeetsSome, word_in}
use Rattle.accepted_programs.specs.declared.facts.Facts.{Facts}

module _ {D : Type 0} {IsFact : D → Type 0} {contains : D → ℕ → Type 0} {operations : Operations D}
    (sound : IsSound IsFact contains operations) where
  -- ---- a join is met where either part is
  belong_first : (ds es : List D) (ws : List ℕ) → ((r : ℕ) → get_or ws r 0 < 2 ^ 64) → AllByRecursion IsFact ds
      → AllByRecursion IsFact es → Belong contains ds ws → Belong contains (joined_each operations.join ds es) ws
  belong_first [] es ws words first second h = tt
  belong_first (d ∷ ds) [] ws words first second h = tt
  belong_first (d ∷ ds) (e ∷ es) [] words first second h = absurd h
  belong_first (d ∷ ds) (e ∷ es) (w ∷ ws) words first second h = (
    sound.join_first d e w (record { fact = first.0; word = words zero; within = h.0 }) second.0,
    belong_first ds es ws (λ r. words (suc r)) first.1 second.1 h.1,
  )

  belong_second : (ds es : List D) (ws : List ℕ) → ((r : ℕ) → get_or ws r 0 < 2 ^ 64) → AllByRecursion IsFact ds
      → AllByRecursion IsFact es → Belong contains es ws → Belong contains (joined_each operations.join ds es) ws
  belong_second [] es ws words first second h = tt
  belong_second (d ∷ ds) [] ws words first second h = tt
  belong_second (d ∷ ds) (e ∷ es) [] words first second h = absurd h
  belong_second (d ∷ ds) (e ∷ es) (w ∷ ws) words first second h = (
    sound.join_second d e w first.0 (record { fact = second.0; word = words zero; within = h.0 }),
    belong_second ds es ws (λ r. words (suc r)) first.1 second.1 h.1,
  )

  module _ (s : State) (is : IsState s) where
    merge_first : (a b : Option (Facts D)) → SomeAreFacts IsFact a → SomeAreFacts IsFact b → MeetsSome contains a s
        → MeetsSome contains (merge operations a b) s
    merge_first (Some a) (Some b) first second h = record {
      registers = belong_first a.registers b.registers s.registers is.words first.registers second.registers h.registers;
      cells = λ j d e.
          let joined = joined_known operations.join a.cells b.cells j d e in
          subst (λ x. contains x (word_in s.memory.stack j)) joined.is
          (sound.join_first joined.first joined.second (word_in s.memory.stack j)
          (record {
            fact = first.cells j joined.first joined.in_first;
            word = word_fits s.memory.stack j (is.memory.bytes Stack);
            within = h.cells j joined.first joined.in_first;
          })
          (second.cells j joined.second joined.in_second));
      group = omega (arith, h.group);
      sum = tt;
      fit = tracked_holds operations (λ o. AreWithin o s.registers) _ tt (join_first_fits s.registers a.fit b.fit h.fit);
    }
    merge_first (Some a) None first second h = h
    merge_first None b first second h = absurd h

    merge_second : (a b : Option (Facts D)) → SomeAreFacts IsFact a → SomeAreFacts IsFact b → MeetsSome contains b s
        → MeetsSome contains (merge operations a b) s
    merge_second (Some a) (Some b) first second h = record {
      registers = belong_second a.registers b.registers s.registers is.words first.registers second.registers h.registers;
      cells = λ j d e.
          let joined = joined_known operations.join a.cells b.cells j d e in
          subst (λ x. contains x (word_in s.memory.stack j)) joined.is
          (sound.join_second joined.first joined.second (word_in s.memory.stack j)
          (first.cells j joined.first joined.in_first)
          (record {
            fact = second.cells j joined.second joined.in_second;
            word = word_fits s.memory.stack j (is.memory.bytes Stack);
            within = h.cells j joined.second joined.in_second;
          }));
      group = omega (arith, h.group);
      sum = tt;
      fit = tracked_holds operations (λ o. AreWithin o s.registers) _ tt (join_second_fits s.registers a.fit b.fit h.fit);
    }
    merge_second (Some a) None first second h = absurd h
    merge_second None b first second h = h

    -- ---- what a slot gives, beside a block of this length
    given_where : (is : Bool) (facts : Option (Facts D)) → is ≡ true → MeetsSome contains facts s
        → MeetsSome contains (if is then facts else None) s
    given_where true facts e h = h
    given_where false facts e h = cc

    module _ (block : ℕ) where
      abbrev behind : Instruction → ℕ → Facts D → ℕ → Option (Facts D)
      behind i slot facts other = if slot_behind slot i == other then facts_behind operations block i facts else None

      abbrev ahead : Instruction → ℕ → Facts D → ℕ → Option (Facts D)
      ahead i slot facts other = if leads slot (distance_of i) other then facts_at_target operations block i facts else None

      gives_keeps : (i : Option Instruction) (slot : ℕ) (facts : Option (Facts D)) (other : ℕ) (sofar : Option (Facts D))
          → SomeAreFacts IsFact facts → SomeAreFacts IsFact sofar → MeetsSome contains sofar s
          → MeetsSome contains (gives operations block i slot facts other sofar) s
      gives_keeps (Some i) slot (Some facts) other sofar are before h =
          let first = behind_given sound.facts block i slot facts other are in
          merge_first (merge operations sofar (behind i slot facts other)) (ahead i slot facts other)
          (merge_facts sound.facts sofar (behind i slot facts other) before first)
          (ahead_given sound.facts block i slot facts other are)
          (merge_first sofar (behind i slot facts other) before first h)
      gives_keeps (Some i) slot None other sofar are before h = h
      gives_keeps None slot facts other sofar are before h = h

      gives_along : (i : Instruction) (facts : Facts D) (from : State) (sofar : Option (Facts D)) (taken : Bool)
          → AreFacts IsFact facts → SomeAreFacts IsFact sofar → IsAlong contains operations block i facts from s taken
          → MeetsSome contains (gives operations block (Some i) from.slot (Some facts) s.slot sofar) s
      gives_along i facts from sofar false are before h =
          let first = behind_given sound.facts block i from.slot facts s.slot are in
          merge_first (merge operations sofar (behind i from.slot facts s.slot)) (ahead i from.slot facts s.slot)
          (merge_facts sound.facts sofar (behind i from.slot facts s.slot) before first)
          (ahead_given sound.facts block i from.slot facts s.slot are)
          (merge_second sofar (behind i from.slot facts s.slot) before first
          (given_where (slot_behind from.slot i == s.slot) (facts_behind operations block i facts)
          (eq-eqb (slot_behind from.slot i) s.slot h.0) h.1))
      gives_along i facts from sofar true are before h =
          let first = behind_given sound.facts block i from.slot facts s.slot are in
          merge_second (merge operations sofar (behind i from.slot facts s.slot)) (ahead i from.slot facts s.slot)
          (merge_facts sound.facts sofar (behind i from.slot facts s.slot) before first)
          (ahead_given sound.facts block i from.slot facts s.slot are)
          (given_where (leads from.slot (distance_of i) s.slot) (facts_at_target operations block i facts) h.0 h.1)

      -- ---- what all slots give
      module _ (program : List (Option Instruction)) where
        abbrev given : ℕ → ℕ → Option (Facts D)
        given slot other = given_below operations block program slot other

        abbrev are_facts : (slot other : ℕ) → SomeAreFacts IsFact (given slot other)
        are_facts slot other = given_facts sound.facts block program slot other

        -- what is given stays so as more slots are counted
        given_more : (more slot other : ℕ) → MeetsSome contains (given slot other) s
            → MeetsSome contains (given (slot + more) other) s
        given_more zero slot other h = rw add-zero h
        given_more (suc more) slot other h =
            let last = slot + more in
            rw add-suc
            (gives_keeps (instruction_at program last) last (given last last) other (given last other)
            (are_facts last last) (are_facts last other) (given_more more slot other h))

        reached : (slot other : ℕ) → slot < other → MeetsSome contains (given (suc slot) other) s
            → MeetsSome contains (facts_at operations block program other) s
        reached slot other before h =
            let all : suc slot + (other - suc slot) ≡ other = omega arith in
            let P : ℕ → Type 0 = λ n. MeetsSome contains (given n other) s in
            subst P all (given_more (other - suc slot) (suc slot) other h)

        -- a state that a step leads to meets what is known at its slot
        pub arrives : (i : Instruction) (facts : Facts D) (from : State) → instruction_at program from.slot ≡ Some i
            → facts_at operations block program from.slot ≡ Some facts → Moved contains operations block i facts from s
            → MeetsSome contains (facts_at operations block program s.slot) s
        arrives i facts from at known moved =
            reached from.slot s.slot moved.forward
            (rw (at, known)
            (gives_along i facts from (given from.slot s.slot) moved.taken
            (known_facts sound.facts block program from.slot facts known) (are_facts from.slot s.slot) moved.along))
