-- In each round a connection on which bytes wait goes on.
use Rattle.std.proofs.Common.{◌≡◌, ℕ, ◌≤◌, ◌+◌, ◌&&◌, ◌||◌, ◌⊎◌, Bool, true, false, cond, not, List, [], ◌∷◌, length, Option, None, Some, is_some, refl, sym, ap, subst, ◌∙◌, inl, inr, length-append, arith}
use Rattle.std.specs.List.{list_any}
use Rattle.std.proofs.lemmas.Bool.{and_parts, cases_Bool, eq-eqb, eqb-true, or_parts}
use Rattle.tcp_connection.specs.Connection.{takes}
use Rattle.tcp_connection.specs.Executing.{Execution, waiting_ready}
use Rattle.tcp_connection.specs.Queue.{is_ended}
use Rattle.tcp_target.specs.Places.{ready_at}
use Rattle.tcp_target.specs.Events.{count_of}
use Rattle.tcp_target.specs.Laws.{ConnectionsStay}
use Rattle.tcp_target.specs.Ends.{is_cut_off}
use Rattle.tcp_target.specs.Ready.{is_ready}
use Rattle.tcp_device.specs.Answering.{HasPlaces, IsMet, IsNext, closes, serves}
use Rattle.tcp_device.specs.Deeds.{AreDone, Closed, Deed, Does, Opened, Received, Resumed, Sent, Served, Ticked, Turned}
use Rattle.tcp_device.specs.Order.{Departure, departure, place_of, went_by, went_on}
use Rattle.tcp_device.specs.Rounds.{AreRounds, IsFit, IsServedFit, NextIsAnswered, RoundsGoOn, StaysFit, brings, is_round, progress_in, progress_on, taken_by}
use Rattle.tcp_device.specs.State.{ServedState, begun_on}
use Rattle.tcp_device.proofs.Answering.{all_stay, is_service, stays}
use Rattle.tcp_device.proofs.Completing.{answers}
use Rattle.tcp_device.proofs.Placing.{places_stay}
use Rattle.tcp_device.proofs.Reached.{reached}
use Rattle.tcp_device.proofs.Standing.{Stands}
use Rattle.tcp_device.proofs.Taking.{AllStand, all_stand_first, counts, one_of, stay}

-- ---- the last of the deeds, and those before it

all_stand : (deeds : List Deed) (old new : ServedState) → AreDone deeds old new → AllStand old.target.queues → AllStand new.target.queues
all_stand deeds old new done all = reached (λ t. AllStand t.queues) stay deeds old new done all

not_false : (b : Bool) → not b ≡ false → b ≡ true
not_false true is = refl
not_false false is = absurd cc

first_of : (a b : Bool) → (a || b) ≡ true → b ≡ false → a ≡ true
first_of true b one none = refl
first_of false b one none = absurd cc

-- what is ready there
ready_as : (number : ℕ) (s : ServedState) → IsFit number s → ready_at (place_of number s) ≡ waiting_ready (place_of number s).connection
ready_as number s fit =
    let o : Option Execution = waiting_ready (place_of number s).connection in
    ap (λ (b : Bool). cond {A = Option Execution} b (cond (is_ended (place_of number s).connection.phase) None o) None) fit.goes
    ∙ ap (λ (b : Bool). cond {A = Option Execution} b None o) fit.on

-- ---- a command that is next goes

module _ (number : ℕ) (execution : Execution) (s : ServedState) (fit : IsFit number s) (next : IsNext execution (place_of number s)) where
  ready_here : ready_at (place_of number s) ≡ Some execution
  ready_here = ready_as number s fit ∙ next.ready

  goes : length (went_by number (Served number) s) ≡ 1
  goes =
      ap (λ (b : Bool). length (cond {A = List Departure} b (departure (ready_at (place_of number s)) number s.target.queues) [])) (eq-eqb number number refl)
      ∙ ap (λ (o : Option Execution). length (departure o number s.target.queues)) ready_here

-- ---- deeds by which bytes come

module _ (law : ConnectionsStay) (number : ℕ) where
  -- bytes were taken, or a command went, or is next
  abbrev GoesOn : (deeds : List Deed) (old new : ServedState) → AreDone deeds old new → Type 0
  GoesOn deeds old new done =
      (1 ≤ progress_on number deeds old new done) ⊎ ((execution : Execution) × IsNext execution (place_of number new))

  module _ (deed : Deed) (deeds : List Deed) (old new : ServedState) (done : AreDone (deed ∷ deeds) old new) where
    abbrev between : ServedState
    between = done.between

    went_both : length (went_on number (deed ∷ deeds) old new done)
        ≡ length (went_on number deeds old between done.first) + length (went_by number deed between)
    went_both = length-append (went_on number deeds old between done.first) (went_by number deed between)

    -- what is done before counts, and what is done last
    before_counts : 1 ≤ progress_on number deeds old between done.first → 1 ≤ progress_on number (deed ∷ deeds) old new done
    before_counts some = let both = went_both in omega (arith, some, both)

    taken_counts : 1 ≤ taken_by number deed between → 1 ≤ progress_on number (deed ∷ deeds) old new done
    taken_counts some = let both = went_both in omega (arith, some, both)

    went_counts : length (went_by number deed between) ≡ 1 → 1 ≤ progress_on number (deed ∷ deeds) old new done
    went_counts one = let both = went_both in omega (arith, one, both)

    -- a command that is next goes, or stays next
    next_goes : serves number deed ≡ true → (execution : Execution) → IsFit number between → IsNext execution (place_of number between)
        → 1 ≤ progress_on number (deed ∷ deeds) old new done
    next_goes is execution fit next =
        went_counts
        (subst (λ (d : Deed). length (went_by number d between) ≡ 1) (sym (is_service law number execution deed is))
        (goes number execution between fit next))

    next_on : (b : Bool) → serves number deed ≡ b → closes number deed ≡ false → (execution : Execution) → IsFit number between
        → IsNext execution (place_of number between) → GoesOn (deed ∷ deeds) old new done
    next_on true is not_closed execution fit next = inl (next_goes is execution fit next)
    next_on false is not_closed execution fit next = inr (execution, stays law number execution between new deed done.last is not_closed next)

    -- bytes come
    taken_here : (first : ℕ) (piece : List ℕ) → deed ≡ Received number (first ∷ piece) → IsFit number between
        → Stands (place_of number between).connection → takes (place_of number between).connection ≡ true
        → 1 ≤ progress_on number (deed ∷ deeds) old new done
    taken_here first piece is fit stands may =
        let some : 1 ≤ count_of number (first ∷ piece) between.target = counts (place_of number between) first piece stands fit.goes may in
        taken_counts
        (subst (λ (d : Deed). 1 ≤ taken_by number d between) (sym is)
        (subst (λ (b : Bool). 1 ≤ cond b (count_of number (first ∷ piece) between.target) 0) (sym (eq-eqb number number refl)) some))

    some_ready : IsFit number between → takes (place_of number between).connection ≡ false → is_some (ready_at (place_of number between)) ≡ true
    some_ready fit not_taken =
        let o : Option Execution = waiting_ready (place_of number between).connection in
        let same : takes (place_of number between).connection ≡ not (is_some o) =
        ap (λ (b : Bool). not b && not (is_some (cond {A = Option Execution} b None o))) fit.on in
        ap (λ (found : Option Execution). is_some found) (ready_as number between fit) ∙ not_false (is_some o) (sym same ∙ not_taken)

    comes : (first : ℕ) (piece : List ℕ) → deed ≡ Received number (first ∷ piece) → IsFit number between → Stands (place_of number between).connection
        → serves number deed ≡ false → closes number deed ≡ false → (b : Bool) → takes (place_of number between).connection ≡ b
        → GoesOn (deed ∷ deeds) old new done
    comes first piece is fit stands not_served not_closed true may = inl (taken_here first piece is fit stands may)
    comes first piece is fit stands not_served not_closed false not_taken =
        let n = one_of (place_of number between) stands (ready_at (place_of number between)) refl (some_ready fit not_taken) in
        inr (n.0, stays law number n.0 between new deed done.last not_served not_closed n.1)

    brought : (d : Deed) → deed ≡ d → brings number d ≡ true → IsFit number between → Stands (place_of number between).connection
        → closes number deed ≡ false → GoesOn (deed ∷ deeds) old new done
    brought Opened is some fit stands not_closed = absurd cc
    brought (Received n []) is some fit stands not_closed = absurd cc
    brought (Received n (first ∷ piece)) is some fit stands not_closed =
        comes first piece (is ∙ ap (λ (m : ℕ). Received m (first ∷ piece)) (eqb-true n number some)) fit stands (ap (serves number) is) not_closed
        (takes (place_of number between).connection) refl
    brought (Sent n count) is some fit stands not_closed = absurd cc
    brought (Closed n) is some fit stands not_closed = absurd cc
    brought (Ticked milliseconds) is some fit stands not_closed = absurd cc
    brought (Served n) is some fit stands not_closed = absurd cc
    brought Turned is some fit stands not_closed = absurd cc
    brought (Resumed run) is some fit stands not_closed = absurd cc

  -- once bytes came
  once_brought : (deeds : List Deed) (old new : ServedState) (done : AreDone deeds old new) → AllStand old.target.queues
      → list_any (closes number) deeds ≡ false → StaysFit number deeds old new done → list_any (brings number) deeds ≡ true → GoesOn deeds old new done
  once_brought [] old new done all not_closed fit some = absurd cc
  once_brought (deed ∷ deeds) old new done all not_closed fit some =
      let opens = or_parts (closes number deed) (list_any (closes number) deeds) not_closed in
      elim (cases_Bool (list_any (brings number) deeds)) [
        | inl before ↦
            elim (once_brought deeds old done.between done.first all opens.1 fit.0 before) [
              | inl more ↦ inl (before_counts deed deeds old new done more)
              | inr next ↦ next_on deed deeds old new done (serves number deed) refl opens.0 next.0 fit.1 next.1
            ]
        | inr none ↦
            brought deed deeds old new done deed refl (first_of (brings number deed) (list_any (brings number) deeds) some none) fit.1
            (all_stand deeds old done.between done.first all number) opens.0
      ]

  round_goes : (deeds : List Deed) (old new : ServedState) (done : AreDone deeds old new) → AllStand old.target.queues
      → list_any (closes number) deeds ≡ false → StaysFit number deeds old new done → is_round number deeds ≡ true
      → 1 ≤ progress_on number deeds old new done
  round_goes [] old new done all not_closed fit is = absurd cc
  round_goes (deed ∷ deeds) old new done all not_closed fit is =
      let opens = or_parts (closes number deed) (list_any (closes number) deeds) not_closed in
      elim (cases_Bool (is_round number deeds)) [
        | inl before ↦ before_counts deed deeds old new done (round_goes deeds old done.between done.first all opens.1 fit.0 before)
        | inr none ↦
            (let last = and_parts (serves number deed) (list_any (brings number) deeds)
            (first_of (serves number deed && list_any (brings number) deeds) (is_round number deeds) is none) in
            elim (once_brought deeds old done.between done.first all opens.1 fit.0 last.1) [
              | inl more ↦ before_counts deed deeds old new done more
              | inr next ↦ next_goes deed deeds old new done last.0 next.0 fit.1 next.1
            ])
      ]

  -- ---- rounds

  rounds_stand : (rounds : List (List Deed)) (old new : ServedState) → AreRounds number rounds old new → AllStand old.target.queues
      → AllStand new.target.queues
  rounds_stand [] old new done all = subst (λ (s : ServedState). AllStand s.target.queues) (sym done) all
  rounds_stand (round ∷ rounds) old new done all =
      all_stand round done.between new done.done (rounds_stand rounds old done.between done.first all)

  rounds_go : (rounds : List (List Deed)) (old new : ServedState) (done : AreRounds number rounds old new) → AllStand old.target.queues
      → length rounds ≤ progress_in number rounds old new done
  rounds_go [] old new done all = omega arith
  rounds_go (round ∷ rounds) old new done all =
      let before = rounds_go rounds old done.between done.first all in
      let one = round_goes round done.between new done.done (rounds_stand rounds old done.between done.first all) done.closed done.fit done.is in
      omega (arith, before, one)

pub rounds_go_on : ConnectionsStay → RoundsGoOn
rounds_go_on law device subsystem format before old new first number rounds done =
    rounds_go law number rounds old new done
    (all_stand before (begun_on device subsystem format) old first all_stand_first)

-- ---- a command that is next is answered

all_places : (deeds : List Deed) (old new : ServedState) → AreDone deeds old new → HasPlaces old → HasPlaces new
all_places [] old new done has = subst (λ (s : ServedState). HasPlaces s) (sym done) has
all_places (deed ∷ deeds) old new done has = places_stay deed done.between new done.last (all_places deeds old done.between done.first has)

module _ (law : ConnectionsStay) (number : ℕ) (execution : Execution) where
  -- the command is met where the connection is fit
  record IsMetFit (deeds : List Deed) (old new : ServedState) : Type 0 where
    pub met : IsMet number execution deeds old new
    pub fit : IsFit number met.before

  -- what isn't served isn't closed
  none_closes : (deeds : List Deed) (old new : ServedState) (done : AreDone deeds old new) → IsServedFit number deeds old new done
      → list_any (serves number) deeds ≡ false → list_any (closes number) deeds ≡ false
  none_closes [] old new done fit none = refl
  none_closes (deed ∷ deeds) old new done fit none =
      let earlier = (or_parts (serves number deed) (list_any (serves number) deeds) none).1 in
      ap (λ (b : Bool). b || list_any (closes number) deeds) (fit.1 earlier).not_closed
      ∙ none_closes deeds old done.between done.first fit.0 earlier

  meets_fit : (deeds : List Deed) (old new : ServedState) (done : AreDone deeds old new) → IsServedFit number deeds old new done
      → list_any (serves number) deeds ≡ true → IsNext execution (place_of number old) → IsMetFit deeds old new
  meets_fit [] old new done fit some next = absurd cc
  meets_fit (deed ∷ deeds) old new done fit some next =
      elim (cases_Bool (list_any (serves number) deeds)) [
        | inl before ↦
            (let all = meets_fit deeds old done.between done.first fit.0 before next in
            let m = all.met in
            record {
              met = record {
                earlier = m.earlier;
                later = deed ∷ m.later;
                before = m.before;
                after = m.after;
                parts = ap (λ (those : List Deed). deed ∷ those) m.parts;
                first = m.first;
                led = m.led;
                next = m.next;
                served = m.served;
                leads = record { between = done.between; first = m.leads; last = done.last };
              };
              fit = all.fit;
            })
        | inr none ↦
            (let does : serves number deed ≡ true = first_of (serves number deed) (list_any (serves number) deeds) some none in
            let is : deed ≡ Served number = is_service law number execution deed does in
            record {
              met = record {
                earlier = deeds;
                later = [];
                before = done.between;
                after = new;
                parts = ap (λ (last : Deed). last ∷ deeds) is;
                first = none;
                led = done.first;
                next =
                    all_stay law number execution deeds old done.between done.first none
                    (none_closes deeds old done.between done.first fit.0 none) next;
                served = subst (λ (last : Deed). Does last done.between new) is done.last;
                leads = refl;
              };
              fit = (fit.1 none).fit does;
            })
      ]

ready_where : (number : ℕ) (execution : Execution) (s : ServedState) → IsFit number s → IsNext execution (place_of number s)
    → is_ready number s.target ≡ true
ready_where number execution s fit next =
    ap (λ (o : Option Execution). is_some o && not (is_cut_off number s.target.queues)) (ready_here number execution s fit next)
    ∙ ap (λ (b : Bool). not b) fit.there

pub next_is_answered : ConnectionsStay → NextIsAnswered
next_is_answered law number execution deeds old new places done fit some next =
    let m = meets_fit law number execution deeds old new done fit some next in
    record {
      met = m.met;
      answer =
          answers number execution m.met.before m.met.after m.met.next (all_places m.met.earlier old m.met.before m.met.led places)
          (ready_where number execution m.met.before m.fit m.met.next) m.met.served;
    }
