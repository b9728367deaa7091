-- What a trace says of connections: each has a place as long as it is there, and what is said of a place is said of the last that had it.
use Rattle.std.specs.Prelude.{ℕ, Bool, true, false, ◌==◌, List, [], ◌∷◌, ◌++◌, Option, Some, None, if◌then◌else◌, take}
use Rattle.tcp_loop.specs.Trace.{Trace}
use Rattle.tcp_loop.specs.declared.operation.Answer.{Answer}
use Rattle.tcp_loop.specs.declared.operation.Answer.TheVariants.{Done, Came, Taken}
use Rattle.tcp_loop.specs.declared.operation.Operation.{Operation}
use Rattle.tcp_loop.specs.declared.operation.Operation.TheVariants.{Accept, Read, Write, Close}

-- did bytes come with an answer?
abbrev pub has_come : Answer → Bool
has_come Came = true
has_come _ = false

-- how many bytes were taken by it, if some might be
abbrev pub taken_of : Answer → Option ℕ
taken_of (Taken count) = Some count
taken_of _ = None

-- did a connection begin at a place by this?
abbrev pub begins_at : ℕ → Operation → Answer → Bool
begins_at place (Accept other) Done = place == other
begins_at place _ _ = false

-- the bytes that came at a place by it
abbrev pub came_by : ℕ → Operation → Answer → List ℕ → List ℕ
came_by place (Read other) Came bytes = if place == other then bytes else []
came_by place _ _ bytes = []

-- the bytes that were written there by it
abbrev pub written_by : ℕ → Operation → Answer → List ℕ → List ℕ
written_by place (Write other) (Taken count) bytes = if place == other then take count bytes else []
written_by place _ _ bytes = []

-- all bytes that came on the connection that has a place, or had it last
abbrev pub came_on : ℕ → Trace → List ℕ
came_on place [] = []
came_on place (m ∷ trace) =
    if begins_at place m.asked m.answer then [] else came_on place trace ++ came_by place m.asked m.answer m.came

-- and all that were written on it
abbrev pub written_on : ℕ → Trace → List ℕ
written_on place [] = []
written_on place (m ∷ trace) =
    if begins_at place m.asked m.answer then [] else written_on place trace ++ written_by place m.asked m.answer m.carried

-- is it closed by this, whatever came of that?
abbrev pub closes_at : ℕ → Operation → Bool
closes_at place (Close other) = place == other
closes_at place _ = false

-- is a connection there?
abbrev pub is_open : ℕ → Trace → Bool
is_open place [] = false
is_open place (m ∷ trace) =
    if begins_at place m.asked m.answer then true else (if closes_at place m.asked then false else is_open place trace)

-- when connections began at a place and were closed there, the last first
abbrev pub life_by : ℕ → Operation → Answer → List Bool → List Bool
life_by place (Accept other) Done before = if place == other then true ∷ before else before
life_by place (Close other) answer before = if place == other then false ∷ before else before
life_by place _ _ before = before

abbrev pub life_on : ℕ → Trace → List Bool
life_on place [] = []
life_on place (m ∷ trace) = life_by place m.asked m.answer (life_on place trace)
