-- Nothing is lost between the loop and C.
use Rattle.std.specs.Prelude.{ℕ, ◌≡◌, ◌==◌, ◌+◌, Bool, true, false, List, [], Option, Some, None, if◌then◌else◌, length, map}
use Rattle.device_library.specs.OperationAnswers.{Said, answer_in}
use Rattle.device_library.specs.Flags.{byte_of, is_set}
use Rattle.device_library.specs.Operations.{head_of, reads_of, writes_of}
use Rattle.device_library.specs.declared.operation_head.OperationHead.{OperationHead}
use Rattle.tcp_loop.specs.declared.operation.Answer.{Answer}
use Rattle.tcp_loop.specs.declared.operation.Answer.TheVariants as answer
use Rattle.tcp_loop.specs.declared.operation.Operation.{Operation}
use Rattle.tcp_loop.specs.declared.operation.Operation.TheVariants as operation
use Rattle.tcp_loop.specs.declared.operation.Which.{Which}
use Rattle.tcp_loop.specs.declared.operation.Which.TheVariants as which

-- ---- operations

abbrev pub file_in : Bool → Which
file_in true = which.Beside
file_in false = which.Held

-- the operation of a kind, by what C is told
abbrev pub operation_of_kind : ℕ → OperationHead → List ℕ → List ℕ → Option Operation
operation_of_kind kind h reads writes =
    if kind == 0 then Some (operation.Poll (record { reads = map is_set reads; writes = map is_set writes; accepts = h.flag }) h.number)
    else if kind == 1 then Some operation.Signal
    else if kind == 2 then Some operation.Now
    else if kind == 3 then Some (operation.Accept h.number)
    else if kind == 4 then Some (operation.Read h.number)
    else if kind == 5 then Some (operation.Write h.number)
    else if kind == 6 then Some (operation.Close h.number)
    else if kind == 7 then Some (operation.Pwrite (file_in h.flag) h.number)
    else if kind == 8 then Some (operation.Ftruncate h.number)
    else if kind == 9 then Some (operation.Fsync (file_in h.flag))
    else if kind == 10 then Some operation.Create
    else if kind == 11 then Some operation.Rename
    else if kind == 12 then Some operation.SyncFolder
    else if kind == 13 then Some operation.Discard
    else if kind == 14 then Some (operation.Log h.flag)
    else if kind == 15 then Some (operation.End h.flag)
    else None

abbrev pub operation_in : OperationHead → List ℕ → List ℕ → Option Operation
operation_in h reads writes = operation_of_kind h.kind h reads writes

-- each is read back from what is told of it
abbrev pub OperationsAreRead : Type 0
OperationsAreRead = (o : Operation) → operation_in (head_of o) (reads_of o) (writes_of o) ≡ Some o

-- ---- answers

abbrev pub says : ℕ → ℕ → Said
says kind number = record { kind = kind; number = number; piece = []; beside = [] }

-- as C says an answer
abbrev pub said_of : Answer → Said
said_of answer.Done = says 0 0
said_of answer.Came = says 1 0
said_of (answer.Taken count) = says 2 count
said_of answer.Again = says 3 0
said_of answer.NoRoom = says 4 0
said_of answer.Failed = says 5 0
said_of (answer.Happened ready) = record {
  kind = 6;
  number = byte_of ready.accepts + (byte_of ready.signals + byte_of ready.signals);
  piece = map byte_of ready.reads;
  beside = map byte_of ready.writes;
}
said_of (answer.Time now) = says 7 now
said_of (answer.Signal ends) = says 8 (byte_of ends)

-- what happened is said of 40 places
abbrev pub HasPlaces : Answer → Type 0
HasPlaces (answer.Happened ready) = (length ready.reads ≡ 40) × (length ready.writes ≡ 40)
HasPlaces _ = Unit {0}

abbrev pub AnswersAreRead : Type 0
AnswersAreRead = (a : Answer) → HasPlaces a → answer_in (said_of a) ≡ a
