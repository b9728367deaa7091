-- What readings found that gave a value, and readings with something in front.
use Rattle.std.proofs.Common.{◌≡◌, List, ◌++◌, Option, Some, None, Result, Ok, Err, refl, sym, ap, append_assoc}
use Rattle.std.specs.Option.{ok_or}
use Rattle.common_definitions.specs.Readings.{unless_fault, with_front}

-- where no fault is told, what is read was found
pub found_where_ok : {X E : Type 0} (found : Option X) (fault : E) (x : X) → ok_or found fault ≡ Ok x → found ≡ Some x
found_where_ok None fault x e = absurd cc
found_where_ok (Some y) fault x e = cc

-- where a reading gives a value, no check before it found a fault
pub no_fault : {E X : Type 0} (fault : Option E) (read : Result X E) (x : X) → unless_fault fault read ≡ Ok x → (fault ≡ None) × (read ≡ Ok x)
no_fault None read x e = (refl, e)
no_fault (Some fault) read x e = absurd cc

-- two fronts, one before the other, are one
pub with_front-more : {E X : Type 0} (front more : List X) (read : Result (List X) E) → with_front front (with_front more read) ≡ with_front (front ++ more) read
with_front-more front more (Ok rest) = ap Ok (sym (append_assoc front more rest))
with_front-more front more (Err fault) = refl

-- a fault behind a front is the reading's
pub fault_behind : {E X : Type 0} (front : List X) (read : Result (List X) E) (fault : E) → with_front front read ≡ Err fault → read ≡ Err fault
fault_behind front (Ok more) fault e = absurd cc
fault_behind front (Err other) fault e = e
