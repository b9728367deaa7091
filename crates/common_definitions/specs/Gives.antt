-- What a function gives that reads, as a definition does, but may run out of memory.
use Rattle.std.specs.Prelude.{◌≡◌, Option, IfSome, Result, Ok, Err}

-- What is given is what reading gives, seen as `view` sees it: its value, or its fault where the error is one.
-- Of an error that is none, as want of memory, nothing is said.
abbrev pub Gives : {X Y E F : Type 0} → (E → Option F) → (X → Y) → Result X E → Result Y F → Type 0
Gives fault_of view (Ok x) reading = reading ≡ Ok (view x)
Gives fault_of view (Err e) reading = IfSome (fault_of e) (λ fault. reading ≡ Err fault)
