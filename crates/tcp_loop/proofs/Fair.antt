-- What is left to be done says that an operation is fair to hosts.
use Rattle.std.proofs.Common.{ℕ, ◌≡◌, ◌≤◌, ◌<◌, Bool, ◌||◌, List, Option, Some, None, sym, ap, ◌∙◌}
use Rattle.std.proofs.lemmas.Bool.{false_from_ne_true}
use Rattle.tcp_loop.specs.Trace.{Trace}
use Rattle.tcp_loop.specs.Rounds.{is_over, owes_accept, owes_read, owes_write}
use Rattle.tcp_loop.specs.Deeds.{Meaning}
use Rattle.tcp_loop.specs.Orderly.{IsOrderly}
use Rattle.tcp_loop.specs.Fair.{IsFair, IsFairTo, IsPlaced, Takes, Waits, point_of}
use Rattle.tcp_loop.specs.Stages.{IsReady, operation_of}
use Rattle.tcp_loop.specs.declared.hosts.Hosts.{Hosts}
use Rattle.tcp_loop.specs.declared.operation.Operation.TheVariants as operation
use Rattle.tcp_loop.specs.declared.operation.Watched.{Watched}
use Rattle.tcp_loop.specs.declared.stage.Stage.{Stage}
use Rattle.tcp_loop.specs.declared.stage.Stage.TheVariants as stage
use Rattle.tcp_loop.specs.declared.stage.Part.TheVariants as part
use Rattle.tcp_loop.specs.declared.target.Call.TheVariants as call

module _ {State : Type 0} (m : Meaning State) (free : State → Option ℕ) (o : IsOrderly m free) where
  waits_fair : (watched : Watched) (milliseconds : ℕ) (trace : Trace) (h : Hosts) (waiting : List (List ℕ)) (s : State)
      → IsFair m free o (Waits watched) trace h waiting s → IsFairTo m free o (operation.Poll watched milliseconds) trace waiting s
  waits_fair watched milliseconds trace h waiting s f = (
    record {
      reads = λ q low. false_from_ne_true (owes_read q trace) (f.reads q low);
      writes = λ q low. false_from_ne_true (owes_write q trace) (f.writes q low);
      accepts = false_from_ne_true (owes_accept trace) f.accepts;
      closes = λ q low is. false_from_ne_true (is_over q trace)
          (λ over. f.closes q low (record { there = f.known q low ∙ is; over = f.over q low over }));
    },
    record {
      reads = λ q low is none. (f.watching.places q low).all_read (f.known q low ∙ is) none;
      writes = λ q low is some. (f.watching.places q low).all_written (f.known q low ∙ is) some;
    },
  )

  placed_fair : (place : ℕ) (trace : Trace) (h : Hosts) (waiting : List (List ℕ)) (s : State)
      → (place < 40 → free s ≡ Some place) × (40 ≤ place → free s ≡ None) → IsFair m free o Takes trace h waiting s
      → IsPlaced m free o place trace s
  placed_fair place trace h waiting s ready f = record {
    unused = λ low. sym (f.there place low) ∙ o.is_free s place (ready.0 low);
    none = λ far other low. ap (λ (b : Bool). b || o.is_held other s) (sym (f.there other low)) ∙ o.none_free s (ready.1 far) other low;
    alive = λ other low is. false_from_ne_true (is_over other trace)
        (λ over. f.closes other low (record { there = f.known other low ∙ is; over = f.over other low over }));
  }

  -- by a stage's operation
  pub is_fair_to : (at_stage : Stage) (trace : Trace) (h : Hosts) (waiting : List (List ℕ)) (s : State) → IsReady at_stage waiting (free s)
      → IsFair m free o (point_of at_stage) trace h waiting s → IsFairTo m free o (operation_of at_stage) trace waiting s
  is_fair_to (stage.Polling watched milliseconds) trace h waiting s ready f = waits_fair watched milliseconds trace h waiting s f
  is_fair_to (stage.Accepting place more) trace h waiting s ready f = placed_fair place trace h waiting s ready f
  is_fair_to stage.Signalled trace h waiting s ready f = tt
  is_fair_to (stage.Reading place) trace h waiting s ready f = tt
  is_fair_to stage.Timing trace h waiting s ready f = tt
  is_fair_to (stage.Calling (call.Write «at»)) trace h waiting s ready f = tt
  is_fair_to (stage.Calling (call.Renew «at»)) trace h waiting s ready f = tt
  is_fair_to (stage.Calling (call.Shorten len)) trace h waiting s ready f = tt
  is_fair_to (stage.Calling call.Sync) trace h waiting s ready f = tt
  is_fair_to (stage.Calling call.Replace) trace h waiting s ready f = tt
  is_fair_to (stage.Calling call.Want) trace h waiting s ready f = tt
  is_fair_to (stage.Placing (part.Made wants)) trace h waiting s ready f = tt
  is_fair_to (stage.Placing (part.Filled wants)) trace h waiting s ready f = tt
  is_fair_to (stage.Placing (part.Flushed wants)) trace h waiting s ready f = tt
  is_fair_to (stage.Placing part.Named) trace h waiting s ready f = tt
  is_fair_to (stage.Placing part.Placed) trace h waiting s ready f = tt
  is_fair_to (stage.Placing part.Discarded) trace h waiting s ready f = tt
  is_fair_to stage.Called trace h waiting s ready f = tt
  is_fair_to (stage.Writing place) trace h waiting s ready f = tt
  is_fair_to (stage.Closing place) trace h waiting s ready f = tt
  is_fair_to (stage.Refusing more) trace h waiting s ready f = tt
  is_fair_to (stage.Telling cause fails) trace h waiting s ready f = tt
  is_fair_to (stage.Ended done) trace h waiting s ready f = tt
