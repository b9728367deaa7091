-- What a loop owes its hosts, by its trace: what a wait told is owed until it is done.
use Rattle.std.specs.Prelude.{ℕ, ◌≡◌, ◌<◌, Bool, true, false, ◌&&◌, ◌||◌, ◌==◌, List, [], ◌∷◌, if◌then◌else◌, slice_index_or}
use Rattle.tcp_loop.specs.Trace.{Trace}
use Rattle.tcp_loop.specs.Sockets.{is_open}
use Rattle.tcp_loop.specs.declared.operation.Answer.{Answer}
use Rattle.tcp_loop.specs.declared.operation.Answer.TheVariants as answer
use Rattle.tcp_loop.specs.declared.operation.Operation.{Operation}
use Rattle.tcp_loop.specs.declared.operation.Operation.TheVariants.{Accept, Poll, Read, Signal, Write}

-- is a place's flag set?
abbrev pub flag : ℕ → List Bool → Bool
flag place flags = slice_index_or flags place false

-- ---- what an answer says

-- bytes came on a connection, or it is over
abbrev pub may_read : ℕ → Answer → Bool
may_read place (answer.Happened ready) = flag place ready.reads
may_read place _ = false

-- a connection takes bytes, or is over
abbrev pub may_write : ℕ → Answer → Bool
may_write place (answer.Happened ready) = flag place ready.writes
may_write place _ = false

-- a host wants to connect
abbrev pub may_accept : Answer → Bool
may_accept (answer.Happened ready) = ready.accepts
may_accept _ = false

-- the program is to end
abbrev pub is_to_end : Answer → Bool
is_to_end (answer.Signal ends) = ends
is_to_end _ = false

-- nothing now, and perhaps later
abbrev pub is_again : Answer → Bool
is_again answer.Again = true
is_again _ = false

-- a connection that was read is over
abbrev pub ends_read : Answer → Bool
ends_read answer.Came = false
ends_read answer.Again = false
ends_read _ = true

-- one that was written is over
abbrev pub ends_write : Answer → Bool
ends_write (answer.Taken count) = false
ends_write answer.Again = false
ends_write _ = true

-- ---- what is owed

-- a connection was watched, bytes came on it, and it wasn't read since
abbrev pub owes_read_by : ℕ → Operation → Answer → Bool → Bool
owes_read_by place (Poll watched milliseconds) answer before = flag place watched.reads && may_read place answer
owes_read_by place (Read other) answer before = if place == other then false else before
owes_read_by place _ answer before = before

abbrev pub owes_read : ℕ → Trace → Bool
owes_read place [] = false
owes_read place (m ∷ trace) = owes_read_by place m.asked m.answer (owes_read place trace)

-- one was watched with bytes to be sent, it takes bytes, it wasn't written since, and it wasn't found to be over
abbrev pub owes_write_by : ℕ → Operation → Answer → Bool → Bool
owes_write_by place (Poll watched milliseconds) answer before = flag place watched.writes && may_write place answer
owes_write_by place (Write other) answer before = if place == other then false else before
owes_write_by place (Read other) answer before = if place == other then (if ends_read answer then false else before) else before
owes_write_by place _ answer before = before

abbrev pub owes_write : ℕ → Trace → Bool
owes_write place [] = false
owes_write place (m ∷ trace) = owes_write_by place m.asked m.answer (owes_write place trace)

-- hosts were waited for, one wants to connect, none was taken since, and the program isn't to end
abbrev pub owes_accept_by : Operation → Answer → Bool → Bool
owes_accept_by (Poll watched milliseconds) answer before = watched.accepts && may_accept answer
owes_accept_by (Accept place) answer before = false
owes_accept_by Signal answer before = if is_to_end answer then false else before
owes_accept_by _ answer before = before

abbrev pub owes_accept : Trace → Bool
owes_accept [] = false
owes_accept (m ∷ trace) = owes_accept_by m.asked m.answer (owes_accept trace)

-- a connection was found to be over, and none has begun there since
abbrev pub is_over_by : ℕ → Operation → Answer → Bool → Bool
is_over_by place (Accept other) answer.Done before = if place == other then false else before
is_over_by place (Read other) answer before = if place == other then before || ends_read answer else before
is_over_by place (Write other) answer before = if place == other then before || ends_write answer else before
is_over_by place _ answer before = before

abbrev pub is_over : ℕ → Trace → Bool
is_over place [] = false
is_over place (m ∷ trace) = is_over_by place m.asked m.answer (is_over place trace)

-- ---- the law

-- whatever a wait told is done before the next one: so whatever others do, no connection is passed over, no host that wants to connect is,
-- and none that is over keeps its place
pub record OwesNothing (trace : Trace) : Type 0 where
  pub reads : (place : ℕ) → place < 40 → owes_read place trace ≡ false
  pub writes : (place : ℕ) → place < 40 → owes_write place trace ≡ false
  pub accepts : owes_accept trace ≡ false
  pub closes : (place : ℕ) → place < 40 → is_open place trace ≡ true → is_over place trace ≡ false
