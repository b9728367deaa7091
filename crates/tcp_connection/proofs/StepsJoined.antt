-- A connection behind two pieces.
use Rattle.std.proofs.Common.{◌≡◌, ℕ, ◌+◌, Bool, true, false, cond, not, ◌&&◌, List, [], ◌++◌, Option, None, is_some, refl, sym, ap, ◌∙◌, add-zero}
use Rattle.tcp_connection.specs.declared.expected.Progress.{Progress}
use Rattle.tcp_connection.specs.declared.expected.Progress.TheVariants.{Partial, Whole, Failed}
use Rattle.tcp_connection.specs.Receiving.{ReceiverState}
use Rattle.tcp_connection.specs.Receiving as receiving
use Rattle.tcp_connection.proofs.PiecesJoined.{pieces_join}
use Rattle.tcp_connection.specs.declared.state.ConnectionState.{ConnectionState}
use Rattle.tcp_connection.specs.Connection.{Step, taken, takes, took}
use Rattle.tcp_connection.specs.Dealing.{dealt, dealt_by}
use Rattle.tcp_connection.specs.Laws.{JoinsAt, StepsJoin, both}
use Rattle.tcp_connection.specs.Executing.{Execution, ready, waiting_ready}
use Rattle.tcp_connection.specs.Queue.{is_ended}
use Rattle.tcp_connection.proofs.Quiet.{is_open, none_waits, open_ready, same_waiting}

-- with this receiver
abbrev pub with_receiver : ConnectionState → ReceiverState → ConnectionState
with_receiver s r = record s { receiver = r }

-- what a receiver and a count come to
abbrev pub step_of : ConnectionState → ReceiverState × ℕ → Step
step_of s r = let d = dealt (with_receiver s r.0) in record { state = d.0; sent = d.1; count = r.1 }

takes_all : (s : ConnectionState) (piece : List ℕ) → takes s ≡ true → taken s piece ≡ step_of s (receiving.taken s.receiver piece)
takes_all s piece is =
    ap (λ (b : Bool). cond b (took s piece) (record { state = s; sent = []; count = 0 })) is

takes_none : (s : ConnectionState) (piece : List ℕ) → takes s ≡ false → taken s piece ≡ record { state = s; sent = []; count = 0 }
takes_none s piece is =
    ap (λ (b : Bool). cond b (took s piece) (record { state = s; sent = []; count = 0 })) is

still_takes : (t : ConnectionState) → is_ended t.phase ≡ false → waiting_ready t ≡ None → takes t ≡ true
still_takes t is_open none =
    let shut : ready t ≡ None = open_ready t is_open ∙ none in
    ap (λ (b : Bool). not b && not (is_some (ready t))) is_open ∙ ap (λ (o : Option Execution). not false && not (is_some o)) shut

module _ (s : ConnectionState) (a b : List ℕ) where
  first : ReceiverState × ℕ
  first = receiving.taken s.receiver a

  second : ReceiverState × ℕ
  second = receiving.taken first.0 b

  all : ReceiverState × ℕ
  all = receiving.taken s.receiver (a ++ b)

  joins : ◌≡◌ {A = ReceiverState × ℕ} (second.0, first.1 + second.1) all
  unfolding first second all
  joins = pieces_join s.receiver a b

  -- where nothing is taken
  joins_idle : (p : Progress) → takes s ≡ false → JoinsAt p s a b
  joins_idle (Whole pdu) is = takes_none s a is ∙ sym (takes_none s (a ++ b) is)
  joins_idle (Failed error) is = takes_none s a is ∙ sym (takes_none s (a ++ b) is)
  joins_idle Partial is =
      ap (λ (one : Step). both one (taken one.state b)) (takes_none s a is)
      ∙ ap (λ (two : Step). both (record { state = s; sent = []; count = 0 }) two) (takes_none s b is)
      ∙ sym (takes_none s (a ++ b) is)

  -- behind a PDU
  settled : second ≡ (first.0, 0) → takes s ≡ true → taken s a ≡ taken s (a ++ b)
  unfolding first second all
  settled is open_now =
      takes_all s a open_now
      ∙ ap (step_of s) (ap (λ (n : ℕ). (first.0, n)) (sym (add-zero first.1)) ∙ ap (λ (r : ReceiverState × ℕ). (r.0, first.1 + r.1)) (sym is) ∙ joins)
      ∙ sym (takes_all s (a ++ b) open_now)

  -- within one
  goes_on : first.0.progress ≡ Partial → takes s ≡ true → JoinsAt Partial s a b
  unfolding first second all
  goes_on is open_now =
      let t : ConnectionState = with_receiver s first.0 in
      let one : Step = record { state = t; sent = []; count = first.1 } in
      let one_is : taken s a ≡ one = takes_all s a open_now
      ∙ ap (λ (p : Progress). (let d = dealt_by p t in record { state = d.0; sent = d.1; count = first.1 })) is in
      let open_then : takes t ≡ true =
      still_takes t (is_open s open_now) (same_waiting s a s.receiver.progress ∙ none_waits s open_now) in
      ap (λ (it : Step). both it (taken it.state b)) one_is
      ∙ ap (λ (two : Step). both one two) (takes_all t b open_then)
      ∙ ap (step_of s) joins
      ∙ sym (takes_all s (a ++ b) open_now)

  joins_by : (p : Progress) → first.0.progress ≡ p → takes s ≡ true → JoinsAt p s a b
  unfolding first second all
  joins_by Partial is open_now = goes_on is open_now
  joins_by (Whole pdu) is open_now = settled (ap (λ (p : Progress). receiving.taken_by p first.0 b) is) open_now
  joins_by (Failed error) is open_now = settled (ap (λ (p : Progress). receiving.taken_by p first.0 b) is) open_now

  joins_if : (it : Bool) → takes s ≡ it → JoinsAt first.0.progress s a b
  unfolding first second all
  joins_if true is = joins_by first.0.progress refl is
  joins_if false is = joins_idle first.0.progress is

pub steps_join : StepsJoin
unfolding first
steps_join = λ s first_piece second_piece. joins_if s first_piece second_piece (takes s) refl
